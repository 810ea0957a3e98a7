use Rattle.std.proofs.Common.{length}
use Rattle.std.specs.Prelude.{All}
use Rattle.rast_equal.specs.Fault.{Reduces, served}
use Rattle.rast_equal.specs.Fit.{IsFit}
use Rattle.rast_equal.specs.Walk.{left}
use Rattle.rast_equal.proofs.references.serve.Given as goal

abbrev pub invariant-loop-pairs : goal.invariant-loop-pairs
invariant-loop-pairs l = record {
  reduced : Reduces (served l.equations l.refs 0 (left l.fn.pairs)) (served l.equations l.refs l.used (left l.pairs));
  fit : All IsFit l.pairs;
}

abbrev pub decreases-loop-pairs : goal.decreases-loop-pairs
decreases-loop-pairs l = length (left l.pairs)
