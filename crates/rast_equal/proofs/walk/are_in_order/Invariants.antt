use Rattle.std.proofs.Common.{◌≡◌, drop, length}
use Rattle.rast_equal.specs.Walk.{same_list, labels}
use Rattle.rast_equal.proofs.walk.are_in_order.Given as goal

abbrev pub invariant-loop-i : goal.invariant-loop-i
invariant-loop-i l = record {
  sized : length l.ts ≡ length l.us;
  same : same_list (labels (drop l.i l.ts)) (labels (drop l.i l.us)) ≡ same_list (labels l.ts) (labels l.us);
}
