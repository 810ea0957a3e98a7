use Rattle.std.proofs.Common.{◌≡◌, drop}
use Rattle.std.specs.List.{list_all}
use Rattle.rast_equal.specs.WellMadeTypes.{is_labelled}
use Rattle.rast_made.proofs.labels.+is_labelled.Given as goal

abbrev pub invariant-are_labelled-loop-a : goal.invariant-are_labelled-loop-a
invariant-are_labelled-loop-a l = list_all (λ e. is_labelled l.names e.1) (drop l.a-index l.ts) ≡ list_all (λ e. is_labelled l.names e.1) l.ts
