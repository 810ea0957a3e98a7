use Rattle.rast_resolve.proofs.Chains.{each_step}
use Rattle.rast_resolve.proofs.place.Place.channel_numbers.Goals as goal

pub loop-name-preserved : goal.loop-name-preserved
loop-name-preserved c = rw c.in_ok-push.ensures.ok (each_step _ _ _ _ _ c.loop-name.invariant c.name-item.result c.loop-name-test.true c.name-item.is _ c.in_ok-channel_number.ensures)
