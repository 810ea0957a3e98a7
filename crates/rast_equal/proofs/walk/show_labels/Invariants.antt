use Rattle.rast_equal.proofs.Labels.{Walked}
use Rattle.rast_equal.proofs.walk.show_labels.Given as goal

abbrev pub invariant-loop-i : goal.invariant-loop-i
invariant-loop-i l = Walked l.ts l.us l.place l.i l.parts

abbrev pub decreases-loop-i : goal.decreases-loop-i
decreases-loop-i l = l.i
