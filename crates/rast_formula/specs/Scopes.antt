-- Which variables the names at a place stand for.
use Rattle.std.specs.Prelude.{ℕ, suc, ◌<◌, Bool, IfSome, List, [], ◌∷◌, Option, Some, None, if◌then◌else◌, max}
use Rattle.std.specs.Str.{bytes_eq}
use Rattle.rast_index.specs.Linear.{Linear, is_closed}
use Rattle.rast_index.specs.declared.formula.Formula.{Formula}
use Rattle.rast_cooper.specs.Verdicts.{is_within}
pub use Rattle.rast_formula.specs.declared.scope.Bound.{Bound}

-- a name
abbrev pub Text : Type 0
Text = List ℕ

-- which variable each name stands for at a place
abbrev pub Look : Type 0
Look = Text → Option ℕ

-- each variable that may be named there has a number below this one
abbrev pub FindsBelow : ℕ → Look → Type 0
FindsBelow n look = (m : Text) → IfSome (look m) (λ k. k < n)

-- ---- variables with their names

-- the number of the last variable of this name, or else what was found before
abbrev pub newest_from : Option ℕ → Text → List Bound → Option ℕ
newest_from found n [] = found
newest_from found n (b ∷ bs) = newest_from (if bytes_eq b.name n then Some b.number else found) n bs

-- the variable of a name: a later binding hides an earlier one
abbrev pub variable_of : List Bound → Text → Option ℕ
variable_of s n = newest_from None n s

-- every variable's number is below this one
abbrev pub span : List Bound → ℕ
span [] = 0
span (b ∷ bs) = max (suc b.number) (span bs)

-- whether only variables below n occur in a term
unfoldable pub is_scoped : ℕ → Linear → Bool
is_scoped n l = is_closed n l

-- whether only variables below n occur in a formula, and each divisor is at least 1
unfoldable pub is_good : ℕ → Formula → Bool
is_good n f = is_within n f
