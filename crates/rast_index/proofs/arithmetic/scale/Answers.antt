use Rattle.std.proofs.Common.{rules, subst, sym, set, ap, ◌∙◌, ◌≡◌, ◌≤◌, ◌+◌, List, ℤ, length, arith, ◌*ℤ◌, pos}
use Rattle.rast_index.specs.Linear.{Linear, part, value, times}
use Rattle.std.proofs.lemmas.Int.{to_z-of_z}
use mir.Val.{SFits}
use mir.Syntax.{w64, w128}
use Rattle.rast_index.proofs.Filled.{Filled, filled_more, fits_parts, of_fits}
use Rattle.rast_index.proofs.Values.{value_times}
use Rattle.rast_index.proofs.arithmetic.scale.Goals as goal

pub returns : goal.returns
returns c =
    let fit = fits_parts (λ j. pos c.args.k *ℤ part c.args.a.now j) c.loop-j.numbers c.loop-j.j _ c.loop-j.invariant c.loop-j-test.false (omega arith) c.narrowed.ensures in
    record {
      multiple = fit;
      value = of_fits (λ (l : Linear). (vs : List ℤ) → length vs ≤ 16 → value l vs ≡ pos c.args.k *ℤ value c.args.a.now vs) (times c.args.k c.args.a.now) _ fit (λ vs h. value_times c.args.k c.args.a.now vs h);
    }

pub loop-j-preserved : goal.loop-j-preserved
loop-j-preserved c =
    let f : SFits w128 c.multiple.result = search rules in
    let p : SFits w64 c.part.result = search rules in
    let e = (simp to_z-of_z at c.multiple.ensures) ∙ ap (λ x. pos c.args.k *ℤ x) c.part.ensures.value in
    subst (λ (z : ℤ). Filled (λ j. pos c.args.k *ℤ part c.args.a.now j) 17 (set c.loop-j.numbers c.loop-j.j z) (c.loop-j.j + 1)) (sym (to_z-of_z w128 _ f))
    (filled_more (λ j. pos c.args.k *ℤ part c.args.a.now j) 17 c.loop-j.numbers c.loop-j.j _ c.loop-j.invariant c.loop-j-test.true e)
