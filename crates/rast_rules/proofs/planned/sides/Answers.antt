use Rattle.std.proofs.Common.{◌∙◌, ap, sym, subst, length, get_or}
use Rattle.rast_rules.specs.Rules.{positive_at}
use Rattle.rast_rules.specs.Plan.{ReadsAll}
use Rattle.rast_rules.proofs.Noted.{reads_none, reads_push}
use Rattle.rast_rules.proofs.planned.sides.Goals as goal

pub loop-at-init : goal.loop-at-init
loop-at-init c =
    let g = c.args.program.now in
    record { size = ap length c.new-out.ensures; each = subst (ReadsAll (positive_at g) c.args.judged.now g.nodes) (sym c.new-out.ensures) (reads_none (positive_at g) c.args.judged.now g.nodes) }

pub loop-at-preserved : goal.loop-at-preserved
loop-at-preserved c =
    let g = c.args.program.now in
    let i = c.loop-at.at in
    let nd = c.index-nodes-at.result in
    let r = reads_push (positive_at g) c.args.judged.now g.nodes c.loop-at.out c.push.new.self c.side_in-side.result i c.index-judged-at.result nd c.loop-at.invariant.size c.loop-at.invariant.each
    c.index-judged-at.is (c.index-nodes-at.is ∙ ap (λ ns. get_or ns i nd) c.as_slice-nodes.ensures) c.side_in-side.ensures c.in_ok-push.ensures.ok in
    record { size = r.0; each = r.1 }
