-- Numbers so far below 2 ^ 120 that no state at a test point passes it.
use Rattle.std.specs.Prelude.{◌^◌, ◌&&◌, nat_le, Bool, unsigned_abs, ℤ, List}
use Rattle.std.specs.List.{list_all}
use Rattle.rast_cooper.specs.declared.literal.Literal.{Literal}
use Rattle.rast_cooper.specs.Arithmetic.{Linear}

-- whether a number's magnitude is at most 2 ^ 59
abbrev pub moderate : ℤ → Bool
moderate z = nat_le (unsigned_abs z) (2 ^ 59)

abbrev pub is_moderate : Linear → Bool
is_moderate l = moderate l.constant && list_all moderate l.coefficients

-- whether all numbers of the terms are
abbrev pub are_moderate : List Literal → Bool
are_moderate = list_all (λ lit. is_moderate lit.term)
