use Rattle.std.proofs.Common.{◌++◌, ◌∙◌, ap, arith, map, reverse, slice_get, sym, zip}
use Rattle.rast_terms.specs.Nodes.{kids}
use Rattle.rast_check.specs.Walk.{waits}
use Rattle.rast_rules.proofs.Single.{all_popped}
use Rattle.rast_check.proofs.Walking.{drained}
use Rattle.rast_check.proofs.Visiting.{kid_there, push_step}
use Rattle.rast_check.proofs.walk.push_all.Goals as goal

pub kid-requires : goal.kid-requires
kid-requires c =
    let there = kid_there (kids c.args.parent.now) c.loop-judgement.below c.pop.new.self c.in-Some.judgement c.loop-judgement.invariant.few c.in-Some.ensures in
    omega (arith, there, c.len.ensures)

pub loop-judgement-preserved : goal.loop-judgement-preserved
loop-judgement-preserved c =
    let d = c.args.depth in
    let ks = kids c.args.parent.now in
    let p = push_step d c.loop-judgement.stack c.push.new.self (c.args.stack.now ++ reverse (map (waits d) (zip ks c.args.below)))
    ks c.loop-judgement.below c.pop.new.self c.kid.result c.in-Some.judgement
    c.loop-judgement.invariant.few c.loop-judgement.invariant.left (ap (slice_get ks) (sym c.len.ensures) ∙ c.kid.ensures) c.in-Some.ensures c.in_ok-push.ensures.ok in
    record { few = p.few; left = p.left }

pub returns : goal.returns
returns c =
    let none = all_popped c.pop.result c.loop-judgement.below c.pop.new.self c.pop.ensures c.in_default.is in
    sym (drained c.args.depth c.loop-judgement.stack (kids c.args.parent.now) c.loop-judgement.below none.0) ∙ c.loop-judgement.invariant.left
