use Rattle.std.proofs.Common.{◌<◌, length, get_or, pos, arith, rules}
use Rattle.std.proofs.lemmas.Int.{ints, to_z-of_z}
use mir.Val.{SFits}
use mir.Syntax.{w64}
use Rattle.rast_index.proofs.Weighted.{weighted_step}
use Rattle.rast_index.proofs.value.eval.Goals as goal

pub loop-i-preserved : goal.loop-i-preserved
loop-i-preserved c =
    let h : c.loop-i.i < length c.lin.inside.coefficient = omega arith in
    let k : c.loop-i.i < length c.args.values.now = omega arith in
    let f : SFits w64 (get_or c.lin.inside.coefficient c.loop-i.i (pos 0)) = search rules in
    let e = weighted_step c.lin.inside.coefficient c.args.values.now c.loop-i.i _ h k (simp to_z-of_z at c.product-total.ensures.value) in
    record { sum = omega (arith, ints, e, c.loop-i.invariant.sum); bound = omega (arith, ints) }
