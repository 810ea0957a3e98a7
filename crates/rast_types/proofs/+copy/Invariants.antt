use Rattle.std.proofs.Common.{◌≡◌, ◌++◌, drop, true}
use Rattle.std.specs.List.{list_all}
use Rattle.rast_types.specs.Symbolic.{is_small_type}
use Rattle.rast_types.proofs.+copy.Given as goal

abbrev pub invariant-copy::copy_choices-loop-label : goal.invariant-copy::copy_choices-loop-label
invariant-copy::copy_choices-loop-label l = record { same : (l.out ++ drop l.label-index l.ts) ≡ l.ts; small : list_all (λ e. is_small_type e.1) l.out ≡ true }
