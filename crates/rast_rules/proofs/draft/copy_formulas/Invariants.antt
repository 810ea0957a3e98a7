use Rattle.std.proofs.Common.{◌≡◌, ◌++◌, drop, true}
use Rattle.std.specs.List.{list_all}
use Rattle.rast_index.specs.Truth.{all_small}
use Rattle.rast_rules.proofs.draft.copy_formulas.Given as goal

abbrev pub invariant-loop-f : goal.invariant-loop-f
invariant-loop-f l = record { same : (l.out ++ drop l.f-index l.fs) ≡ l.fs; small : list_all all_small l.out ≡ true }
