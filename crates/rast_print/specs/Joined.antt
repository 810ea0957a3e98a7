-- Texts one after another.
use Rattle.std.specs.Prelude.{ℕ, List, ◌++◌, codes}

-- one text after another
infixr 20 ◌▸◌
abbrev pub ◌▸◌ : List ℕ → List ℕ → List ℕ
a ▸ b = a ++ b

-- a text in braces
abbrev pub braced : List ℕ → List ℕ
braced text = codes "{" ▸ text ▸ codes "}"
