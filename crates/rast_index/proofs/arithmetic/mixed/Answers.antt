use Rattle.std.proofs.Common.{◌<◌, length, get_or, pos, arith, rules, ◌*ℤ◌, ap, ◌∙◌}
use Rattle.std.proofs.lemmas.Int.{ints, to_z-of_z}
use mir.Val.{SFits}
use mir.Syntax.{w64}
use Rattle.rast_index.specs.Linear.{Linear}
use Rattle.rast_index.proofs.Weighted.{parts_step, parts_end}
use Rattle.rast_index.proofs.arithmetic.mixed.Goals as goal

pub loop-i-preserved : goal.loop-i-preserved
loop-i-preserved c =
    let h : c.loop-i.i < length c.a.inside.coefficient = omega arith in
    let k : c.loop-i.i < length c.args.args.now = omega arith in
    let f : SFits w64 (get_or c.a.inside.coefficient c.loop-i.i (pos 0)) = search rules in
    let g : SFits w64 c.part.result = search rules in
    let p = (simp to_z-of_z at c.product-total.ensures.value) ∙ ap (λ z. get_or c.a.inside.coefficient c.loop-i.i (pos 0) *ℤ z) c.part.ensures.value in
    let e = parts_step c.a.inside.coefficient c.args.args.now c.args.j c.loop-i.i c.index-args-i.result _ h k c.index-args-i.is p in
    record { sum = omega (arith, ints, e, c.loop-i.invariant.sum); bound = omega (arith, ints) }

pub returns : goal.returns
returns c =
    let same = ap (λ (z : Linear). z.coefficients) c.a.view_is in
    let e = parts_end c.args.a.now.coefficients c.args.args.now c.args.j c.loop-i.i c.loop-i-test.false in
    omega (arith, ints, e, rw same at c.loop-i.invariant.sum)
