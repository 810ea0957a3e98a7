use Rattle.std.proofs.Common.{◌∙◌, ap, sym, subst, length, get_or, arith, ◌<◌}
use Rattle.rast_rules.specs.Rules.{paid_at}
use Rattle.rast_rules.specs.Plan.{ReadsAll}
use Rattle.rast_rules.proofs.Noted.{reads_none, reads_push, read_on}
use Rattle.rast_rules.proofs.planned.amounts.Goals as goal

pub loop-at-init : goal.loop-at-init
loop-at-init c =
    let g = c.args.program.now in
    record { size = ap length c.new-out.ensures; each = subst (ReadsAll (paid_at g) c.args.judged.now g.nodes) (sym c.new-out.ensures) (reads_none (paid_at g) c.args.judged.now g.nodes) }

pub loop-at-preserved : goal.loop-at-preserved
loop-at-preserved c =
    let g = c.args.program.now in
    let i = c.loop-at.at in
    let nd = c.index-nodes-at.result in
    let r = reads_push (paid_at g) c.args.judged.now g.nodes c.loop-at.out c.push.new.self c.in_ok-amount.amount i c.index-judged-at.result nd c.loop-at.invariant.size c.loop-at.invariant.each
    c.index-judged-at.is (c.index-nodes-at.is ∙ ap (λ ns. get_or ns i nd) c.as_slice-nodes.ensures) c.in_ok-amount.ensures c.in_ok-push.ensures.ok in
    record { size = r.0; each = r.1 }

pub amount_in-requires : goal.amount_in-requires
amount_in-requires c =
    let g = c.args.program.now in
    let i = c.loop-at.at in
    let nd = c.index-nodes-at.result in
    let below : i < length g.nodes = omega (arith, c.loop-at-test.true, ap length c.as_slice-nodes.ensures) in
    read_on g c.args.judged.now c.requires.accepted c.requires.sound i c.index-judged-at.result nd (omega (arith, c.loop-at-test.true, ap length c.as_slice-nodes.ensures, c.requires.sound.size)) below
    c.index-judged-at.is (c.index-nodes-at.is ∙ ap (λ ns. get_or ns i nd) c.as_slice-nodes.ensures)
