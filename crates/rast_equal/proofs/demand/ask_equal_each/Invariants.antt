use Rattle.std.proofs.Common.{drop}
use Rattle.rast_equal.specs.Fault.{Reduces}
use Rattle.rast_equal.specs.Walk.{equal_points}
use Rattle.rast_equal.proofs.demand.ask_equal_each.Given as goal

abbrev pub invariant-loop-i : goal.invariant-loop-i
invariant-loop-i l = Reduces (equal_points l.place l.xs l.ys) (equal_points l.place (drop l.i l.xs) (drop l.i l.ys))
