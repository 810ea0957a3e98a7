use Rattle.std.proofs.Common.{◌≡◌, drop, pos}
use Rattle.std.specs.List.{list_all}
use Rattle.rast_index.specs.Linear.{int_eq}
use Rattle.rast_time.proofs.shifting.is_nought.Given as goal

abbrev pub invariant-loop-coefficient : goal.invariant-loop-coefficient
invariant-loop-coefficient l = list_all (λ c. int_eq c (pos 0)) (drop l.coefficient-index l.coefficient-items) ≡ list_all (λ c. int_eq c (pos 0)) l.coefficient-items
