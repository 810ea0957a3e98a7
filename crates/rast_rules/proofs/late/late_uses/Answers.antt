use Rattle.std.proofs.Common.{false}
use Rattle.rast_rules.proofs.Lates.{later_turn, later_end, ticks_step}
use Rattle.rast_rules.proofs.late.late_uses.Goals as goal

pub loop-channel-preserved : goal.loop-channel-preserved
loop-channel-preserved c =
    let t = c.args.table.now.defs in
    let n = c.args.vars in
    let us = c.args.uses.now in
    let i = c.loop-channel.channel-index in
    let u = c.loop-channel-item.result in
    record {
      done = later_turn t n c.args.by.now us i u c.loop-channel.made c.in_ok-made.made c.in_ok-earlier.earlier c.loop-channel-test.true c.loop-channel-item.is c.loop-channel.invariant.done (c.in_ok-earlier.ensures false) c.in_ok-made.ensures;
      rest = (ticks_step t n c.args.by.now us i u c.loop-channel-test.true c.loop-channel-item.is c.loop-channel.invariant.rest).1;
    }

pub late_type-requires : goal.late_type-requires
late_type-requires c = (ticks_step c.args.table.now.defs c.args.vars c.args.by.now c.args.uses.now c.loop-channel.channel-index c.loop-channel-item.result c.loop-channel-test.true c.loop-channel-item.is c.loop-channel.invariant.rest).0

pub returns : goal.returns
returns c = later_end c.args.table.now.defs c.args.vars c.args.by.now c.args.uses.now c.loop-channel.channel-index c.loop-channel.made c.loop-channel.invariant.done c.loop-channel-test.false
