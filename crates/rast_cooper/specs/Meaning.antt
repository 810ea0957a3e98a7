-- What a literal of the search says of numbers.
use Rattle.std.specs.Prelude.{◌≡◌, ℕ, ℤ, pos, ◌*ℤ◌, ◌≤ℤ◌, List, [], ◌∷◌}
use Rattle.rast_cooper.specs.declared.literal.Sort.{Sort}
use Rattle.rast_cooper.specs.declared.literal.Sort.TheVariants.{AtLeast, Equals, Multiple, NotMultiple}
use Rattle.rast_cooper.specs.declared.literal.Literal.{Literal}
use Rattle.rast_cooper.specs.Arithmetic.{Linear, value}

abbrev pub literal : Sort → ℕ → Linear → Literal
literal s d l = record { sort = s; divisor = d; term = l }

abbrev pub Divides : ℕ → ℤ → Type 0
Divides d z = (k : ℤ) × (z ≡ k *ℤ pos d)

-- 0 <= z, 0 = z, d | z, and its negation
abbrev pub Says : Sort → ℕ → ℤ → Type 0
Says AtLeast d z = pos 0 ≤ℤ z
Says Equals d z = z ≡ pos 0
Says Multiple d z = Divides d z
Says NotMultiple d z = Divides d z → ⊥

abbrev pub Holds : Literal → List ℤ → Type 0
Holds lit vs = Says lit.sort lit.divisor (value lit.term vs)

abbrev pub Hold : List Literal → List ℤ → Type 0
Hold [] vs = Unit {0}
Hold (lit ∷ ls) vs = Holds lit vs × Hold ls vs
