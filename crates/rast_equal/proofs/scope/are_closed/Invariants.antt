use Rattle.std.proofs.Common.{take}
use Rattle.rast_equal.specs.Fit.{AreClosed}
use Rattle.rast_equal.proofs.scope.are_closed.Given as goal

abbrev pub invariant-loop-l : goal.invariant-loop-l
invariant-loop-l l = AreClosed l.vars (take l.l-index l.args)
