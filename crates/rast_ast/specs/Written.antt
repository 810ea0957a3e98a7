-- The tokens of the parts of a file that every other part is made of: keywords, symbols, names and numbers.
use Rattle.std.specs.Prelude.{ℕ, ◌-◌, Bool, false, List, [], ◌∷◌}
use Rattle.rast_forms.specs.Words.{Word, Name, Number, Fixed}
use Rattle.rast_forms.specs.Marks.{Mark, plain}
use Rattle.rast_ast.specs.declared.kind.Kind.{Kind}
use Rattle.rast_ast.specs.Kinds.{code}

-- a keyword or a symbol as a token
abbrev pub sign : Kind → Word
sign k = Fixed (code k - 2)

abbrev pub fixed : Kind → List Mark
fixed k = plain (sign k) ∷ []

abbrev pub name : List ℕ → List Mark
name n = plain (Name n) ∷ []

-- a number that begins no term of a formula
abbrev pub number : ℕ → List Mark
number k = plain (Number k) ∷ []
