use Rattle.std.proofs.Common.{◌+◌, ◌∷◌, [], drop}
use Rattle.rast_check.specs.Questions.{OfPremise, asked_at}
use Rattle.rast_check.proofs.Deciding.{premise_clear, premise_refused, premises_next}
use Rattle.rast_check.proofs.Leads.{leads_step, leads_stop}
use Rattle.rast_check.proofs.node.check_premises.Goals as goal

pub returns-in-Err : goal.returns-in-Err
returns-in-Err c =
    let g = c.args.program.now in
    let n = c.args.node in
    let j = c.args.at.now in
    let ps = c.args.premises.now in
    let i = c.loop-number.number-index in
    let x = c.loop-number-item.result in
    leads_stop g (asked_at n j ps) (asked_at n j (drop i ps)) (OfPremise n x.0 j x.1 ∷ []) (asked_at n j (drop (i + 1) ps)) c.refuse.result c.loop-number.invariant
    (premises_next n j ps i x c.loop-number-test.true c.loop-number-item.is)
    (premise_refused g n x.0 j x.1 c.in-Err.why c.refuse.result c.in-Err.ensures c.refuse.ensures)

pub loop-number-preserved : goal.loop-number-preserved
loop-number-preserved c =
    let g = c.args.program.now in
    let n = c.args.node in
    let j = c.args.at.now in
    let ps = c.args.premises.now in
    let i = c.loop-number.number-index in
    let x = c.loop-number-item.result in
    leads_step g (asked_at n j ps) (asked_at n j (drop i ps)) (OfPremise n x.0 j x.1 ∷ []) (asked_at n j (drop (i + 1) ps)) c.loop-number.invariant
    (premises_next n j ps i x c.loop-number-test.true c.loop-number-item.is)
    (premise_clear g n x.0 j x.1 c.in_default.field-0 c.in_default.ensures)
