use Rattle.std.proofs.Common.{◌∙◌, sym, ap, true, false, refl}
use Rattle.rast_index.specs.Keys.{find_key}
use Rattle.rast_types.specs.declared.ty.Ty.{Ty, out-Ty}
use Rattle.rast_types.specs.declared.ty.Ty.TheVariants as ty
use Rattle.rast_types.specs.declared.ty.Ty.TheOpen.{Plus, With, Tensor, Lolli}
use Rattle.rast_types.specs.declared.ty.Ty.TheFolds.{map-Ty}
use Rattle.rast_equal.specs.Walk.{Walker, walker, at_rest, down}
use Rattle.rast_equal.specs.declared.answer.Part.TheVariants.{First, Second}
use Rattle.rast_rules.specs.Count.{after}
use Rattle.rast_rules.proofs.Counts.{walk_turn, walk_end, choices_agree, walk_rest, not_next, scope_within, none_named, choices_differ, choices_by, pair_by}
use Rattle.rast_rules.proofs.count.+walk.Goals as goal

pub walk-returns-in_default : goal.walk-returns-in_default
walk-returns-in_default t c = λ p h.
    c.walk_head.ensures p h
    ∙ ap (λ (b : Ty). after c.args.left (at_rest (map-Ty Ty Walker walker (out-Ty c.args.a.now)) c.args.a.now p b)) c.peel.ensures
    ∙ sym (walk_rest c.args.a.now c.args.b.now p c.args.left (scope_within p.vars c.args.vars h c.if-vars-gt16.false)
    (none_named _ _ _ _ (sym c.is_name.ensures) (sym c.is_name-2.ensures) c.if-is_name.false c.if-is_name-2.false) (not_next c.args.a.now c.in_default.not-Next))

pub walk_choices-returns-then-not-are_among : goal.walk_choices-returns-then-not-are_among
walk_choices-returns-then-not-are_among t c = λ p h. choices_differ c.args.ts.now c.args.us.now p c.args.left false _ (sym c.are_among.ensures ∙ c.if-not-are_among.true) refl refl

pub walk_parts-returns-in-Plus-Plus : goal.walk_parts-returns-in-Plus-Plus
walk_parts-returns-in-Plus-Plus t c = λ p h.
    c.walk_choices.ensures p h
    ∙ choices_by Plus c.args.a.now c.args.b.now p c.args.left c.in-Plus-Plus.ts c.in-Plus-Plus.us _ _ c.as_slice.ensures c.as_slice-in-Plus-Plus.ensures (ap out-Ty c.in-Plus-Plus.is-0 ∙ ty.outs-Plus _) (ap out-Ty c.in-Plus-Plus.is-1 ∙ ty.outs-Plus _) refl

pub walk_parts-returns-in-With-With : goal.walk_parts-returns-in-With-With
walk_parts-returns-in-With-With t c = λ p h.
    c.walk_choices-in-With-With.ensures p h
    ∙ choices_by With c.args.a.now c.args.b.now p c.args.left c.in-With-With.ts c.in-With-With.us _ _ c.as_slice-in-With-With.ensures c.as_slice-in-With-With-2.ensures (ap out-Ty c.in-With-With.is-0 ∙ ty.outs-With _) (ap out-Ty c.in-With-With.is-1 ∙ ty.outs-With _) refl

-- the second parts are read first
pub walk_parts-returns-in-Tensor-Tensor : goal.walk_parts-returns-in-Tensor-Tensor
walk_parts-returns-in-Tensor-Tensor t c = λ p h.
    pair_by Tensor c.args.a.now c.args.b.now p c.args.left _ _ c.in-Tensor-Tensor.c c.in-Tensor-Tensor.d c.in-Tensor-Tensor.e c.in-Tensor-Tensor.f _ _ _ _
    c.get-in-Tensor-Tensor-2.ensures c.get.ensures c.get-in-Tensor-Tensor-3.ensures c.get-in-Tensor-Tensor.ensures
    (c.walk.ensures (down First p) h) (c.walk-in-Tensor-Tensor.ensures (down Second p) h) (ap out-Ty c.in-Tensor-Tensor.is-0 ∙ ty.outs-Tensor _ _) (ap out-Ty c.in-Tensor-Tensor.is-1 ∙ ty.outs-Tensor _ _) (λ l. refl)

-- the second parts are read first
pub walk_parts-returns-in-Lolli-Lolli : goal.walk_parts-returns-in-Lolli-Lolli
walk_parts-returns-in-Lolli-Lolli t c = λ p h.
    pair_by Lolli c.args.a.now c.args.b.now p c.args.left _ _ c.in-Lolli-Lolli.c c.in-Lolli-Lolli.d c.in-Lolli-Lolli.e c.in-Lolli-Lolli.f _ _ _ _
    c.get-in-Lolli-Lolli-3.ensures c.get-in-Lolli-Lolli.ensures c.get-in-Lolli-Lolli-4.ensures c.get-in-Lolli-Lolli-2.ensures
    (c.walk-in-Lolli-Lolli.ensures (down First p) h) (c.walk-in-Lolli-Lolli-2.ensures (down Second p) h) (ap out-Ty c.in-Lolli-Lolli.is-0 ∙ ty.outs-Lolli _ _) (ap out-Ty c.in-Lolli-Lolli.is-1 ∙ ty.outs-Lolli _ _) (λ l. refl)

pub walk_choices-returns-then-not-are_among-2 : goal.walk_choices-returns-then-not-are_among-2
walk_choices-returns-then-not-are_among-2 t c = λ p h. choices_differ c.args.ts.now c.args.us.now p c.args.left true false (sym c.are_among.ensures ∙ c.if-not-are_among.false) (sym c.are_among-2.ensures ∙ c.if-not-are_among-2.true) refl

pub walk_choices-loop-label-preserved : goal.walk_choices-loop-label-preserved
walk_choices-loop-label-preserved t c = λ p h.
    walk_turn c.args.ts.now c.args.us.now p c.args.left c.loop-label.left c.walk_label-left.result c.args.left c.loop-label.label-index c.loop-label-item.result (c.loop-label.invariant p h) c.loop-label-test.true c.loop-label-item.is
    (c.walk_label-left.ensures p (find_key c.loop-label-item.result.0 c.args.us.now) h c.at_label.ensures)

pub walk_choices-returns : goal.walk_choices-returns
walk_choices-returns t c = λ p h.
    walk_end c.args.ts.now c.args.us.now p c.args.left c.loop-label.left c.args.left c.loop-label.label-index (c.loop-label.invariant p h) c.loop-label-test.false
    ∙ choices_agree c.args.ts.now c.args.us.now p c.args.left (sym c.are_among.ensures ∙ c.if-not-are_among.false) (sym c.are_among-2.ensures ∙ c.if-not-are_among-2.false)
