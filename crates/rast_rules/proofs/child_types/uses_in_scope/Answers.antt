use Rattle.std.proofs.Common.{◌++◌, take}
use Rattle.rast_rules.proofs.Turned.{uses_begin, uses_turn, uses_end, all_of}
use Rattle.rast_rules.proofs.child_types.uses_in_scope.Goals as goal

pub loop-channel-init : goal.loop-channel-init
loop-channel-init c = λ us e. uses_begin c.args.vars c.args.by c.args.gone.now us c.args.uses.now c.args.before e

pub loop-channel-preserved : goal.loop-channel-preserved
loop-channel-preserved c = λ us e.
    uses_turn c.args.vars c.args.by c.args.gone.now us c.args.uses.now c.loop-channel.channel-index c.loop-channel-item.result _ c.loop-channel-test.true c.loop-channel-item.is
    (c.in_ok-made.ensures (us ++ all_of c.args.vars c.args.by c.args.gone.now (take c.loop-channel.channel-index c.args.uses.now)) (c.loop-channel.invariant us e))

pub returns : goal.returns
returns c = λ us e. uses_end c.args.vars c.args.by c.args.gone.now us c.args.uses.now c.loop-channel.channel-index c.loop-channel.made (c.loop-channel.invariant us e) c.loop-channel-test.false
