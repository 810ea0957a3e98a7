use Rattle.std.proofs.Common.{length}
use Rattle.std.specs.Prelude.{flat_map, All}
use Rattle.rast_equal.specs.Fault.{Reduces}
use Rattle.rast_equal.specs.Fit.{IsFit}
use Rattle.rast_equal.specs.Walk.{alike, alike_at, left}
use Rattle.rast_equal.proofs.references.alike.Given as goal

abbrev pub invariant-loop-pairs : goal.invariant-loop-pairs
invariant-loop-pairs l = record {
  reduced : Reduces (alike l.fn.place l.fn.left l.fn.right) (flat_map alike_at (left l.pairs));
  fit : All IsFit l.pairs;
}

abbrev pub decreases-loop-pairs : goal.decreases-loop-pairs
decreases-loop-pairs l = length (left l.pairs)
