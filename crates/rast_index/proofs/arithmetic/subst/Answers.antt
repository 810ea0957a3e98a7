use Rattle.std.proofs.Common.{rules, subst, sym, set, ◌≡◌, ◌≤◌, ◌+◌, List, ℤ, length, arith, map}
use Rattle.rast_index.specs.Linear.{Linear, mixed, value, replaced}
use Rattle.std.proofs.lemmas.Int.{to_z-of_z}
use mir.Val.{SFits}
use mir.Syntax.{w128}
use Rattle.rast_index.proofs.Filled.{Filled, filled_more, fits_parts, of_fits}
use Rattle.rast_index.proofs.Values.{value_replaced}
use Rattle.rast_index.proofs.arithmetic.subst.Goals as goal

pub returns : goal.returns
returns c =
    let fit = fits_parts (mixed c.args.a.now c.args.args.now) c.loop-j.numbers c.loop-j.j _ c.loop-j.invariant c.loop-j-test.false (omega arith) c.narrowed.ensures in
    record {
      replaced = fit;
      value = of_fits (λ (l : Linear). (vs : List ℤ) → length vs ≤ 16 → value l vs ≡ value c.args.a.now (map (λ x. value x vs) c.args.args.now)) (replaced c.args.args.now c.args.a.now) _ fit (λ vs h. value_replaced c.args.args.now c.args.a.now vs h);
    }

pub loop-j-preserved : goal.loop-j-preserved
loop-j-preserved c =
    let f : SFits w128 c.mixed.result = search rules in
    let e = c.mixed.ensures in
    subst (λ (z : ℤ). Filled (mixed c.args.a.now c.args.args.now) 17 (set c.loop-j.numbers c.loop-j.j z) (c.loop-j.j + 1)) (sym (to_z-of_z w128 _ f))
    (filled_more (mixed c.args.a.now c.args.args.now) 17 c.loop-j.numbers c.loop-j.j _ c.loop-j.invariant c.loop-j-test.true e)
