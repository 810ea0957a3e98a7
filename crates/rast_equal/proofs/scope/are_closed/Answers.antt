use Rattle.rast_equal.proofs.Fits.{closed_taken}
use Rattle.rast_equal.proofs.scope.are_closed.Goals as goal

pub loop-l-preserved : goal.loop-l-preserved
loop-l-preserved c = closed_taken c.args.vars c.args.args.now c.loop-l.l-index c.l-item.result c.loop-l-test.true c.l-item.is c.loop-l.invariant (c.is_closed.ensures.more c.if-not-is_closed.false)
