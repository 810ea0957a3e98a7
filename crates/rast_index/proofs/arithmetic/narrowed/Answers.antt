use Rattle.std.proofs.Common.{◌≡◌, ◌+◌, length, get_or, pos, arith, rules, sym, subst, set, ℤ}
use Rattle.std.proofs.lemmas.Int.{to_z-of_z}
use mir.Val.{SFits}
use mir.Syntax.{w64, w128}
use Rattle.rast_index.proofs.Filled.{Narrowed, narrowed_more}
use Rattle.rast_index.proofs.arithmetic.narrowed.Goals as goal

pub loop-j-preserved : goal.loop-j-preserved
loop-j-preserved c =
    let many : length c.args.numbers.now ≡ 17 = omega arith in
    let f : SFits w128 (get_or c.args.numbers.now (c.loop-j.j + 1) (pos 0)) = search rules in
    let g : SFits w64 c.in-Some-narrow.number = search rules in
    let s = simp to_z-of_z at (c.in-Some-narrow.ensures) in
    subst (λ (z : ℤ). Narrowed c.args.numbers.now (set c.loop-j.coefficient c.loop-j.j z) (c.loop-j.j + 1)) (sym (to_z-of_z w64 _ g))
    (narrowed_more c.args.numbers.now c.loop-j.coefficient c.loop-j.j _ c.loop-j.invariant c.loop-j-test.true many s.0 s.1)
