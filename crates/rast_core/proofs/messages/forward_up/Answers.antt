use Rattle.std.proofs.Common.{refl, ap, subst, take}
use Rattle.rast_core.specs.Words.{Provider, P, Link, Proc}
use Rattle.rast_items.specs.Step.{is_msg}
use Rattle.rast_core.specs.Edits.{IsCutAt}
use Rattle.rast_core.proofs.MessageSteps.{met_read, no_process, above_moved, hands_same}
use Rattle.rast_core.proofs.messages.forward_up.Goals as goal

pub hand_on-requires : goal.hand_on-requires
hand_on-requires c = λ q e.
    no_process c.own-own.result Provider (take c.args.place c.args.items.now) c.in-Some.at q
    (met_read (is_msg c.own-own.result Provider) c.front_of-above.result.now (take c.args.place c.args.items.now) c.in-Some.at c.index-above-at.result (P q) c.front_of-above.ensures c.in-Some.ensures c.index-above-at.is e)

pub returns-in-Some : goal.returns-in-Some
returns-in-Some c =
    let p = c.args.proc.now in
    let o = c.own-own.ensures in
    let k : IsCutAt (is_msg p.own Provider) c.front_of-above.result.now c.in-Some.at = subst (λ (l : Link). IsCutAt (is_msg l Provider) c.front_of-above.result.now c.in-Some.at) o c.in-Some.ensures in
    above_moved c.args.items.now c.args.place c.in-Some.at p c.index-above-at.result c.args.other c.args.wait c.hand_on.result c.requires
    (met_read (is_msg p.own Provider) c.front_of-above.result.now (take c.args.place c.args.items.now) c.in-Some.at c.index-above-at.result c.index-above-at.result c.front_of-above.ensures k c.index-above-at.is refl)
    (hands_same c.index-above-at.result c.in-Some.at c.args.place c.args.other c.args.other c.proc.inside.pid p.pid c.hand_on.result refl (ap (λ (q : Proc). q.pid) c.proc.view_is) c.hand_on.ensures)
