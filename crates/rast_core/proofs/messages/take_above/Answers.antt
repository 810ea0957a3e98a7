use Rattle.std.proofs.Common.{arith, sym, take}
use Rattle.rast_core.specs.Words.{Provider, P, M}
use Rattle.rast_items.specs.Step.{is_msg}
use Rattle.rast_core.proofs.MessageSteps.{met_read, no_process, above_potential, above_unfit, above_taken}
use Rattle.rast_core.proofs.messages.take_above.Goals as goal

pub after_take-requires-clause-potential : goal.after_take-requires-clause-potential
after_take-requires-clause-potential c =
    let k = met_read (is_msg c.args.link Provider) c.front_of-above.result.now (take c.args.place c.args.items.now) c.in-Some.at c.index-above-at.result (M c.in-Msg.msg) c.front_of-above.ensures c.in-Some.ensures c.index-above-at.is c.in-Msg.is in
    omega (arith, above_potential c.args.items.now c.args.place c.in-Some.at c.in-Msg.msg (is_msg c.args.link Provider) k, c.requires.potential, c.requires.own)

pub unreachable-requires : goal.unreachable-requires
unreachable-requires c =
    let k = met_read (is_msg c.args.link Provider) c.front_of-above.result.now (take c.args.place c.args.items.now) c.in-Some.at c.index-above-at.result (P c.in-Proc.field-0) c.front_of-above.ensures c.in-Some.ensures c.index-above-at.is c.in-Proc.is in
    no_process c.args.link Provider (take c.args.place c.args.items.now) c.in-Some.at c.in-Proc.field-0 k

pub unreachable-requires-in-None : goal.unreachable-requires-in-None
unreachable-requires-in-None c =
    let k = met_read (is_msg c.args.link Provider) c.front_of-above.result.now (take c.args.place c.args.items.now) c.in-Some.at c.index-above-at.result (M c.in-Msg.msg) c.front_of-above.ensures c.in-Some.ensures c.index-above-at.is c.in-Msg.is in
    let f = c.requires.fits in
    f.1 (above_unfit c.args.program.now f.0 c.args.items.now c.args.place c.in-Some.at c.args.proc.now c.in-Msg.msg c.args.link k (sym c.in-None.ensures))

pub returns : goal.returns
returns c = λ plan.
    let k = met_read (is_msg c.args.link Provider) c.front_of-above.result.now (take c.args.place c.args.items.now) c.in-Some.at c.index-above-at.result (M c.in-Msg.msg) c.front_of-above.ensures c.in-Some.ensures c.index-above-at.is c.in-Msg.is in
    above_taken c.args.program.now plan c.args.items.now c.args.place c.in-Some.at c.args.proc.now c.in-Some-after_take.rest c.in-Msg.msg c.args.link c.taken.result c.requires.at k (sym c.in-Some-after_take.ensures) c.taken.ensures
