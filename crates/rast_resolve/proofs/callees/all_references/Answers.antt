use Rattle.rast_resolve.proofs.Chains.{each_step}
use Rattle.rast_resolve.proofs.callees.all_references.Goals as goal

pub loop-r-preserved : goal.loop-r-preserved
loop-r-preserved c = rw c.in_ok-push.ensures.ok (each_step _ _ _ _ _ c.loop-r.invariant c.r-item.result c.loop-r-test.true c.r-item.is _ c.in_ok-reference.ensures)
