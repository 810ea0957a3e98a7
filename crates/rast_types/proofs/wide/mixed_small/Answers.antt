use Rattle.std.proofs.Common.{◌≡◌, ◌<◌, length, get_or, pos, arith, rules, ◌*ℤ◌, ap, ◌∙◌}
use Rattle.std.proofs.lemmas.Int.{ints, to_z-of_z}
use mir.Val.{SFits}
use mir.Syntax.{w64, w128}
use Rattle.rast_index.specs.Linear.{Linear, part}
use Rattle.rast_types.proofs.Mixed.{parts_step, parts_end}
use Rattle.rast_types.proofs.wide.mixed_small.Goals as goal

pub loop-i-preserved : goal.loop-i-preserved
loop-i-preserved c =
    let h : c.loop-i.i < length c.l.inside.coefficient = omega arith in
    let k : c.loop-i.i < length c.args.args.now = omega arith in
    let f : SFits w64 (get_or c.l.inside.coefficient c.loop-i.i (pos 0)) = search rules in
    let g : SFits w64 c.part_of.result = search rules in
    let p = (simp to_z-of_z at c.product-total.ensures.value) ∙ ap (λ z. get_or c.l.inside.coefficient c.loop-i.i (pos 0) *ℤ z) c.part_of.ensures.value in
    let e = parts_step c.l.inside.coefficient c.args.args.now c.args.j c.loop-i.i c.index-args-i.result _ h k c.index-args-i.is p in
    record { sum = omega (arith, ints, e, c.loop-i.invariant.sum); bound = omega (arith, ints) }

pub returns-clause-value : goal.returns-clause-value
returns-clause-value c =
    let same = ap (λ (z : Linear). z.coefficients) c.l.view_is in
    let e = parts_end c.args.l.now.coefficients c.args.args.now c.args.j c.loop-i.i (omega (arith, ap length same)) (omega arith) in
    omega (arith, ints, e, rw same at c.loop-i.invariant.sum)
