use Rattle.std.proofs.Common.{◌≡◌, ap, ◌∙◌, Some}
use Rattle.std.specs.Prelude.{slice_get}
use Rattle.std.proofs.lemmas.Option.{slice_get_within}
use Rattle.rast_core.specs.Words.{P}
use Rattle.rast_core.proofs.ConfigLemmas.{pid_here, no_message_here, decides_same}
use Rattle.rast_core.proofs.config.Config.decided.Goals as goal

pub item_at-requires : goal.item_at-requires
item_at-requires c = slice_get_within c.args.self.now.items c.in_ok-place.place c.in_ok-place.ensures.item c.in_ok-place.ensures.get

pub unreachable-requires : goal.unreachable-requires
unreachable-requires c = no_message_here c.args.pid c.args.self.now.items c.in_ok-place.place c.in-Msg.field-0 c.in_ok-place.ensures (c.item_at.ensures ∙ ap Some c.in-Msg.is)

pub returns : goal.returns
returns c =
    let g : slice_get c.args.self.now.items c.in_ok-place.place ≡ Some (P c.in-Proc.proc) = c.item_at.ensures ∙ ap Some c.in-Proc.is in
    let e = pid_here c.args.pid c.args.self.now.items c.in_ok-place.place c.in-Proc.proc c.in_ok-place.ensures g in
    (slice_get_within c.args.self.now.items c.in_ok-place.place (P c.in-Proc.proc) g, decides_same c.args.program.now c.args.self.now c.in-Proc.proc.pid c.args.pid c.in_ok-place.place c.decided_at.result e c.decided_at.ensures)
