use Rattle.std.proofs.Common.{◌≡◌, ◌++◌, drop, true}
use Rattle.std.specs.List.{list_all}
use Rattle.rast_index.specs.Linear.{is_small}
use Rattle.rast_types.proofs.copy.copy_terms.Given as goal

abbrev pub invariant-loop-l : goal.invariant-loop-l
invariant-loop-l l = record { same : (l.out ++ drop l.l-index l.terms) ≡ l.terms; small : list_all is_small l.out ≡ true }
