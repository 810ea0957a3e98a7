use Rattle.std.proofs.Common.{◌≡◌, ◌+◌, ap, ◌∙◌, sym, arith, rules, true, subst, set, ℤ}
use Rattle.std.proofs.lemmas.Int.{to_z-of_z}
use mir.Val.{SFits}
use mir.Syntax.{w128}
use Rattle.rast_index.specs.Linear.{mixed}
use Rattle.rast_types.specs.Wide.{wide}
use Rattle.rast_types.proofs.Parts.{Made, made_more, made_all, is_true_of}
use Rattle.rast_types.proofs.wide.Wide.replaced.Goals as goal

pub loop-j-preserved : goal.loop-j-preserved
loop-j-preserved c =
    let f : SFits w128 c.mixed_small.result = search rules in
    let fits : wide (mixed c.args.l.now c.args.args.now (c.loop-j.j + 1)) ≡ true = ap wide (sym c.mixed_small.ensures.value) ∙ c.mixed_small.ensures.wide in
    subst (λ (z : ℤ). Made wide (mixed c.args.l.now c.args.args.now) (set c.loop-j.coefficient c.loop-j.j z) (c.loop-j.j + 1)) (sym (to_z-of_z w128 _ f))
    (made_more wide (mixed c.args.l.now c.args.args.now) c.loop-j.coefficient c.loop-j.j _ c.loop-j.invariant c.loop-j-test.true c.mixed_small.ensures.value fits)

pub invariant_of-result : goal.invariant_of-result
invariant_of-result c =
    let f : SFits w128 c.mixed_small-constant.result = search rules in
    let fits : wide (mixed c.args.l.now c.args.args.now 0) ≡ true = ap wide (sym c.mixed_small-constant.ensures.value) ∙ c.mixed_small-constant.ensures.wide in
    let r = made_all wide (mixed c.args.l.now c.args.args.now) c.loop-j.coefficient _ c.loop-j.j c.loop-j.invariant c.loop-j-test.false (omega arith) (to_z-of_z w128 _ f ∙ c.mixed_small-constant.ensures.value) fits in
    is_true_of wide _ _ r.0 r.1

pub returns : goal.returns
returns c =
    let f : SFits w128 c.mixed_small-constant.result = search rules in
    let fits : wide (mixed c.args.l.now c.args.args.now 0) ≡ true = ap wide (sym c.mixed_small-constant.ensures.value) ∙ c.mixed_small-constant.ensures.wide in
    let r = made_all wide (mixed c.args.l.now c.args.args.now) c.loop-j.coefficient _ c.loop-j.j c.loop-j.invariant c.loop-j-test.false (omega arith) (to_z-of_z w128 _ f ∙ c.mixed_small-constant.ensures.value) fits in
    r.0
