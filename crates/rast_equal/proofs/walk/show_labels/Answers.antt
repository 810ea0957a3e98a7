use Rattle.std.proofs.Common.{◌≡◌, ◌+◌, ◌-◌, ◌∙◌, ◌++◌, ◌∷◌, [], sym, ap, subst, arith}
use Rattle.rast_equal.specs.declared.answer.Part.TheVariants.{Label}
use Rattle.rast_equal.specs.Walk.{down, pair}
use Rattle.rast_equal.proofs.Labels.{Walked, walked_found}
use Rattle.rast_equal.proofs.walk.show_labels.Goals as goal

pub loop-i-preserved-in_ok-push : goal.loop-i-preserved-in_ok-push
loop-i-preserved-in_ok-push c =
    let ts = c.args.ts.now in
    let us = c.args.us.now in
    let p = c.args.place.now in
    let e = c.index-ts-i.result in
    let b = c.in-Some.b.now in
    let parts = c.loop-i.parts in
    let i = c.loop-i.i - 1 in
    let at : c.loop-i.i ≡ i + 1 = omega arith in
    let w = subst (λ j. Walked ts us p j parts) at c.loop-i.invariant in
    let made : c.in_ok-part_at.field-0 ≡ pair (down (Label e.0) p) e.1 b = c.in_ok-part_at.ensures in
    subst (Walked ts us p i) (sym (c.in_ok-push.ensures.ok ∙ ap (λ x. parts ++ x ∷ []) made))
    (walked_found ts us p i parts e b w c.index-ts-i.is c.in-Some.ensures c.requires.scope c.requires.left c.requires.right)
