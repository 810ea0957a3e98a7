use Rattle.rast_resolve.proofs.Chains.{each_step}
use Rattle.rast_resolve.proofs.written.linears.Goals as goal

pub loop-l-preserved : goal.loop-l-preserved
loop-l-preserved c = rw c.in_ok-push.ensures.ok (each_step _ _ _ _ _ c.loop-l.invariant c.l-item.result c.loop-l-test.true c.l-item.is _ c.in_ok-linear.ensures)
