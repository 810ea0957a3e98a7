use Rattle.std.proofs.Common.{◌≡◌, ◌++◌, drop, true}
use Rattle.std.specs.List.{list_all}
use Rattle.rast_index.specs.Truth.{all_small}
use Rattle.rast_index.proofs.formula.+copy.Given as goal

abbrev pub invariant-copies-loop-f : goal.invariant-copies-loop-f
invariant-copies-loop-f l = record { same : (l.out ++ drop l.f-index l.fs) ≡ l.fs; small : list_all all_small l.out ≡ true }
