use Rattle.std.proofs.Common.{sym, ◌∙◌}
use Rattle.rast_rules.proofs.Entries.{left_here, left_past}
use Rattle.rast_rules.proofs.channels.first_left.Goals as goal

pub returns-then-not-is_among : goal.returns-then-not-is_among
returns-then-not-is_among c = left_here c.args.gone.now c.args.uses.now c.loop-channel.channel-index c.loop-channel-item.result c.loop-channel.invariant c.loop-channel-test.true c.loop-channel-item.is (sym c.is_among.ensures ∙ c.if-not-is_among.true)

pub loop-channel-preserved : goal.loop-channel-preserved
loop-channel-preserved c = left_past c.args.gone.now c.args.uses.now c.loop-channel.channel-index c.loop-channel-item.result c.loop-channel.invariant c.loop-channel-test.true c.loop-channel-item.is (sym c.is_among.ensures ∙ c.if-not-is_among.false)
