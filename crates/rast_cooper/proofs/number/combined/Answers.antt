use Rattle.std.proofs.Common.{get_or, pos, arith, rules, ap, ◌∙◌, sym}
use Rattle.std.proofs.lemmas.Int.{to_z-of_z}
use mir.Val.{SFits}
use mir.Syntax.{w128}
use Rattle.rast_cooper.specs.Arithmetic.{bounded, sums}
use Rattle.rast_cooper.proofs.Filled.{filled_more, filled_all, all_fails, get_or-sums, length-sums}
use Rattle.rast_cooper.proofs.number.combined.Goals as goal

pub returns-in_default : goal.returns-in_default
returns-in_default c =
    let n = length-sums c.args.base.now c.args.numbers.now c.args.factor (omega arith) (omega arith) in
    let f : SFits w128 (get_or c.args.base.now c.loop-i.i (pos 0)) = search rules in
    let g : SFits w128 (get_or c.args.numbers.now c.loop-i.i (pos 0)) = search rules in
    let h : SFits w128 c.args.factor = c.ranges.factor in
    let e = simp to_z-of_z at c.in_default.ensures in
    all_fails bounded (sums c.args.base.now c.args.factor c.args.numbers.now) c.loop-i.i (omega (arith, n)) (ap bounded (get_or-sums c.args.base.now c.args.numbers.now c.args.factor c.loop-i.i) ∙ e)

pub loop-i-preserved : goal.loop-i-preserved
loop-i-preserved c =
    let n = length-sums c.args.base.now c.args.numbers.now c.args.factor (omega arith) (omega arith) in
    let f : SFits w128 (get_or c.args.base.now c.loop-i.i (pos 0)) = search rules in
    let g : SFits w128 (get_or c.args.numbers.now c.loop-i.i (pos 0)) = search rules in
    let h : SFits w128 c.args.factor = c.ranges.factor in
    let k : SFits w128 c.in-Some.sum = search rules in
    let e = simp to_z-of_z at c.in-Some.ensures in
    let s = get_or-sums c.args.base.now c.args.numbers.now c.args.factor c.loop-i.i in
    let inv = simp to_z-of_z at c.loop-i.invariant in
    simp to_z-of_z
    (filled_more (sums c.args.base.now c.args.factor c.args.numbers.now) c.loop-i.sums c.loop-i.i c.in-Some.sum n inv (omega arith) (e.0 ∙ sym s) (ap bounded s ∙ e.1))

pub returns : goal.returns
returns c =
    let n = length-sums c.args.base.now c.args.numbers.now c.args.factor (omega arith) (omega arith) in
    let h : SFits w128 c.args.factor = c.ranges.factor in
    let inv = simp to_z-of_z at c.loop-i.invariant in
    filled_all (sums c.args.base.now c.args.factor c.args.numbers.now) c.loop-i.sums c.loop-i.i n inv (omega arith) (omega arith)
