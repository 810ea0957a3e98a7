use Rattle.rast_rules.proofs.Noted.{plan_is}
use Rattle.std.proofs.Common.{subst}
use Rattle.rast_rules.specs.Rules.{positive_at, paid_at}
use Rattle.rast_rules.specs.Plan.{ReadsAll}
use Rattle.rast_rules.proofs.planned.plan.Goals as goal

pub returns : goal.returns
returns c =
    let g = c.args.program.now in
    let js = c.in_ok-judged.judged in
    let first = subst (λ ks. ReadsAll (positive_at g) ks g.nodes c.in_ok-positive.positive) c.as_slice.ensures c.in_ok-positive.ensures.each in
    let second = subst (λ ks. ReadsAll (paid_at g) ks g.nodes c.in_ok-paid.paid) c.as_slice-2.ensures c.in_ok-paid.ensures.each in
    plan_is g js _ c.requires.forest c.in_ok-judged.ensures.sound c.in_ok-judged.ensures.whole c.in_ok-positive.ensures.size c.in_ok-paid.ensures.size first second
