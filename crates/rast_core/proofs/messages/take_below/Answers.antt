use Rattle.std.proofs.Common.{◌+◌, arith, sym, drop}
use Rattle.rast_core.specs.Words.{Client, P, M}
use Rattle.rast_items.specs.Step.{is_msg}
use Rattle.rast_core.proofs.MessageSteps.{met_read, no_process, below_potential, below_unfit, below_taken}
use Rattle.rast_core.proofs.messages.take_below.Goals as goal

pub after_take-requires-clause-potential : goal.after_take-requires-clause-potential
after_take-requires-clause-potential c =
    let k = met_read (is_msg c.args.link Client) c.rest_of-below.result.now (drop (c.args.place + 1) c.args.items.now) c.in-Some.offset c.index-below-offset.result (M c.in-Msg.msg) c.rest_of-below.ensures c.in-Some.ensures c.index-below-offset.is c.in-Msg.is in
    omega (arith, below_potential c.args.items.now c.args.place c.in-Some.offset c.in-Msg.msg (is_msg c.args.link Client) k, c.requires.potential, c.requires.own)

pub unreachable-requires : goal.unreachable-requires
unreachable-requires c =
    let k = met_read (is_msg c.args.link Client) c.rest_of-below.result.now (drop (c.args.place + 1) c.args.items.now) c.in-Some.offset c.index-below-offset.result (P c.in-Proc.field-0) c.rest_of-below.ensures c.in-Some.ensures c.index-below-offset.is c.in-Proc.is in
    no_process c.args.link Client (drop (c.args.place + 1) c.args.items.now) c.in-Some.offset c.in-Proc.field-0 k

pub unreachable-requires-in-None : goal.unreachable-requires-in-None
unreachable-requires-in-None c =
    let k = met_read (is_msg c.args.link Client) c.rest_of-below.result.now (drop (c.args.place + 1) c.args.items.now) c.in-Some.offset c.index-below-offset.result (M c.in-Msg.msg) c.rest_of-below.ensures c.in-Some.ensures c.index-below-offset.is c.in-Msg.is in
    let f = c.requires.fits in
    f.1 (below_unfit c.args.program.now f.0 c.args.items.now c.args.place c.in-Some.offset c.args.proc.now c.in-Msg.msg c.args.link k (sym c.in-None.ensures))

pub returns : goal.returns
returns c = λ plan.
    let k = met_read (is_msg c.args.link Client) c.rest_of-below.result.now (drop (c.args.place + 1) c.args.items.now) c.in-Some.offset c.index-below-offset.result (M c.in-Msg.msg) c.rest_of-below.ensures c.in-Some.ensures c.index-below-offset.is c.in-Msg.is in
    below_taken c.args.program.now plan c.args.items.now c.args.place c.in-Some.offset c.args.proc.now c.in-Some-after_take.rest c.in-Msg.msg c.args.link c.taken.result c.requires.at k (sym c.in-Some-after_take.ensures) c.taken.ensures
