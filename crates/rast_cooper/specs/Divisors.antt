-- Whether each divisor in a formula is at least 1.
use Rattle.std.specs.Prelude.{Bool, true, ◌&&◌, nat_lt}
use Rattle.std.specs.List.{list_all}
use Rattle.rast_index.specs.declared.formula.Formula.{Formula}
use Rattle.rast_index.specs.declared.formula.Formula.TheOpen.{Formula-F, True, False, Rel as Related, Div, Not, And, Or, Imp}
use Rattle.rast_index.specs.declared.formula.Formula.TheFolds.{fold-Formula}

abbrev pub divisors_step : Formula-F Bool → Bool
divisors_step True = true
divisors_step False = true
divisors_step (Related a r b) = true
divisors_step (Div d l) = nat_lt 0 d
divisors_step (Not f) = f
divisors_step (And fs) = list_all (λ f. f) fs
divisors_step (Or fs) = list_all (λ f. f) fs
divisors_step (Imp f g) = f && g

abbrev pub divisors_above_zero : Formula → Bool
divisors_above_zero = fold-Formula Bool divisors_step
