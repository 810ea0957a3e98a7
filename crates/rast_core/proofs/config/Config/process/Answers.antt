use Rattle.std.proofs.Common.{ap, ◌∙◌, Some}
use Rattle.rast_core.proofs.ConfigLemmas.{no_message_here}
use Rattle.rast_core.proofs.LookLemmas.{process_here}
use Rattle.rast_core.proofs.config.Config.process.Goals as goal

pub unreachable-requires : goal.unreachable-requires
unreachable-requires c = no_message_here c.args.pid c.args.self.now.items c.in_ok-place.place c.in-Msg.field-0 c.in_ok-place.ensures (c.item_at.ensures ∙ ap Some c.in-Msg.is)

pub returns : goal.returns
returns c = process_here c.args.self.now c.args.pid c.in_ok-place.place c.in-Proc.proc c.in_ok-place.ensures (c.item_at.ensures ∙ ap Some c.in-Proc.is)
