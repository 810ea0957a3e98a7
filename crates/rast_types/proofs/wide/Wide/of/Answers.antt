use Rattle.std.proofs.Common.{◌≡◌, ◌+◌, ap, ◌∙◌, sym, arith, rules, true, subst, set, ℤ}
use Rattle.std.proofs.lemmas.Int.{to_z-of_z}
use mir.Val.{SFits}
use mir.Syntax.{w128}
use Rattle.rast_index.specs.Linear.{part}
use Rattle.rast_types.specs.Wide.{wide}
use Rattle.rast_types.proofs.Parts.{Made, made_more, made_all, is_true_of, parts_again}
use Rattle.rast_types.proofs.wide.Wide.of.Goals as goal

pub loop-j-preserved : goal.loop-j-preserved
loop-j-preserved c =
    let f : SFits w128 c.wide_part.result = search rules in
    let fits : wide (part c.args.l.now (c.loop-j.j + 1)) ≡ true = ap wide (sym c.wide_part.ensures.value) ∙ c.wide_part.ensures.wide in
    subst (λ (z : ℤ). Made wide (part c.args.l.now) (set c.loop-j.coefficient c.loop-j.j z) (c.loop-j.j + 1)) (sym (to_z-of_z w128 _ f))
    (made_more wide (part c.args.l.now) c.loop-j.coefficient c.loop-j.j _ c.loop-j.invariant c.loop-j-test.true c.wide_part.ensures.value fits)

pub invariant_of-result : goal.invariant_of-result
invariant_of-result c =
    let f : SFits w128 c.wide_part-constant.result = search rules in
    let fits : wide (part c.args.l.now 0) ≡ true = ap wide (sym c.wide_part-constant.ensures.value) ∙ c.wide_part-constant.ensures.wide in
    let r = made_all wide (part c.args.l.now) c.loop-j.coefficient _ c.loop-j.j c.loop-j.invariant c.loop-j-test.false (omega arith) (to_z-of_z w128 _ f ∙ c.wide_part-constant.ensures.value) fits in
    is_true_of wide _ _ r.0 r.1

pub returns : goal.returns
returns c =
    let f : SFits w128 c.wide_part-constant.result = search rules in
    let fits : wide (part c.args.l.now 0) ≡ true = ap wide (sym c.wide_part-constant.ensures.value) ∙ c.wide_part-constant.ensures.wide in
    let r = made_all wide (part c.args.l.now) c.loop-j.coefficient _ c.loop-j.j c.loop-j.invariant c.loop-j-test.false (omega arith) (to_z-of_z w128 _ f ∙ c.wide_part-constant.ensures.value) fits in
    r.0 ∙ parts_again c.args.l.now c.wide_part-constant.ensures.sized
