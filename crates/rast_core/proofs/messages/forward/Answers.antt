use Rattle.std.proofs.Common.{refl, ap, drop, ◌+◌}
use Rattle.rast_core.specs.Words.{Client, P, Proc}
use Rattle.rast_items.specs.Step.{is_msg}
use Rattle.rast_core.proofs.MessageSteps.{met_read, no_process, below_moved, hands_same}
use Rattle.rast_core.proofs.messages.forward.Goals as goal

pub hand_on-requires : goal.hand_on-requires
hand_on-requires c = λ q e.
    no_process c.args.other Client (drop (c.args.place + 1) c.args.items.now) c.in-Some.offset q
    (met_read (is_msg c.args.other Client) c.rest_of-below.result.now (drop (c.args.place + 1) c.args.items.now) c.in-Some.offset c.index-below-offset.result (P q) c.rest_of-below.ensures c.in-Some.ensures c.index-below-offset.is e)

pub returns-in-Some : goal.returns-in-Some
returns-in-Some c =
    below_moved c.args.items.now c.args.place c.in-Some.offset c.args.proc.now c.index-below-offset.result c.args.other c.args.wait c.hand_on.result c.requires
    (met_read (is_msg c.args.other Client) c.rest_of-below.result.now (drop (c.args.place + 1) c.args.items.now) c.in-Some.offset c.index-below-offset.result c.index-below-offset.result c.rest_of-below.ensures c.in-Some.ensures c.index-below-offset.is refl)
    (hands_same c.index-below-offset.result (c.args.place + 1 + c.in-Some.offset) c.args.place c.own-own.result c.args.proc.now.own c.proc.inside.pid c.args.proc.now.pid c.hand_on.result c.own-own.ensures (ap (λ (q : Proc). q.pid) c.proc.view_is) c.hand_on.ensures)
