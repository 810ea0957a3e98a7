use Rattle.std.proofs.Common.{rules, subst, sym, set, ap₂, ◌∙◌, ◌≡◌, ◌≤◌, ◌+◌, List, ℤ, length, arith, ◌+ℤ◌, ◌-ℤ◌, ◌*ℤ◌, negsuc}
use Rattle.rast_index.specs.Linear.{Linear, part, value, less}
use Rattle.std.proofs.lemmas.Int.{to_z-of_z}
use mir.Val.{SFits}
use mir.Syntax.{w64, w128}
use Rattle.rast_index.proofs.Filled.{Filled, filled_more, fits_parts, of_fits}
use Rattle.rast_index.proofs.Values.{value_less}
use Rattle.rast_index.proofs.arithmetic.sub.Goals as goal

pub returns : goal.returns
returns c =
    let fit = fits_parts (λ j. part c.args.a.now j +ℤ (negsuc 0 *ℤ part c.args.b.now j)) c.loop-j.numbers c.loop-j.j _ c.loop-j.invariant c.loop-j-test.false (omega arith) c.narrowed.ensures in
    record {
      difference = fit;
      value = of_fits (λ (l : Linear). (vs : List ℤ) → length vs ≤ 16 → value l vs ≡ value c.args.a.now vs -ℤ value c.args.b.now vs) (less c.args.a.now c.args.b.now) _ fit (λ vs h. value_less c.args.a.now c.args.b.now vs h);
    }

pub loop-j-preserved : goal.loop-j-preserved
loop-j-preserved c =
    let f : SFits w128 c.difference.result = search rules in
    let p : SFits w64 c.part.result = search rules in
    let q : SFits w64 c.part-in-loop-j.result = search rules in
    let e = (simp to_z-of_z at c.difference.ensures) ∙ ap₂ (λ x y. x +ℤ (negsuc 0 *ℤ y)) c.part.ensures.value c.part-in-loop-j.ensures.value in
    subst (λ (z : ℤ). Filled (λ j. part c.args.a.now j +ℤ (negsuc 0 *ℤ part c.args.b.now j)) 17 (set c.loop-j.numbers c.loop-j.j z) (c.loop-j.j + 1)) (sym (to_z-of_z w128 _ f))
    (filled_more (λ j. part c.args.a.now j +ℤ (negsuc 0 *ℤ part c.args.b.now j)) 17 c.loop-j.numbers c.loop-j.j _ c.loop-j.invariant c.loop-j-test.true e)
