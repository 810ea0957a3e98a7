use Rattle.std.proofs.Common.{◌≡◌, ℕ, true, map, take}
use Rattle.std.specs.BTreeSet as set
use Rattle.std.specs.List.{list_any}
use Rattle.std.specs.Ordering.{nat_cmp}
use Rattle.std.specs.Prelude.{◌==◌}
use Rattle.rast_equal.specs.WellMadeTypes.{are_labels}
use Rattle.rast_made.proofs.labels.are_labels.Given as goal

abbrev pub invariant-loop-label : goal.invariant-loop-label
invariant-loop-label g l = record {
  seen : (q : ℕ) → set.contains nat_cmp l.seen q ≡ list_any (λ k. k == q) (map (λ e. e.0) (take l.label-index l.entries));
  good : are_labels l.names (map (λ e. e.0) (take l.label-index l.entries)) ≡ true;
}
