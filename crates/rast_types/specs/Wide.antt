-- Numbers that stand between a replacement and the test of its result: below 2 ^ 70 in magnitude.
use Rattle.std.specs.Prelude.{ℤ, ◌^◌, Bool, ◌&&◌, nat_lt}
use Rattle.std.specs.List.{list_all}
use Rattle.rast_index.specs.Linear.{Linear, magnitude}

abbrev pub wide : ℤ → Bool
wide z = nat_lt (magnitude z) (2 ^ 70)

-- whether each number of a linear term is wide
abbrev pub is_wide : Linear → Bool
is_wide l = wide l.constant && list_all wide l.coefficients
