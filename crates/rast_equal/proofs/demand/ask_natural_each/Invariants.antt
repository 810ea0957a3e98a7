use Rattle.std.proofs.Common.{drop}
use Rattle.rast_equal.specs.Fault.{Reduces}
use Rattle.rast_equal.specs.Walk.{natural_points}
use Rattle.rast_equal.proofs.demand.ask_natural_each.Given as goal

abbrev pub invariant-loop-l : goal.invariant-loop-l
invariant-loop-l l = Reduces (natural_points l.place l.args) (natural_points l.place (drop l.l-index l.args))
