use Rattle.std.proofs.Common.{◌≡◌, get_or, refl}
use Rattle.rast_items.proofs.HandOver.{way_goes_on, way_room}
use Rattle.rast_items.proofs.callee.hand_over.Goals as goal

pub push_channel-requires-clause-room : goal.push_channel-requires-clause-room
push_channel-requires-clause-room c =
    way_room c.args.channels.now c.loop-channel.channel-index _ c.args.from.now c.loop-channel.from c.args.to.now c.loop-channel.to c.in-Some.link c.loop-channel.invariant c.in-Some.ensures.link

pub loop-channel-preserved : goal.loop-channel-preserved
loop-channel-preserved c =
    way_goes_on c.args.channels.now c.loop-channel.channel-index (get_or c.args.channels.now c.loop-channel.channel-index 0) c.args.from.now c.loop-channel.from c.args.to.now c.loop-channel.to c.take_channel.new.self c.push_channel.new.self c.in-Some.link c.loop-channel.invariant c.loop-channel-test.true refl c.in-Some.ensures.link c.take_channel.ensures.rest c.push_channel.ensures
