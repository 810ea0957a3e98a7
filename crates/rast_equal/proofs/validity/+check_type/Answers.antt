use Rattle.std.proofs.Common.{rules, ◌∙◌, ◌≤◌, ◌+◌, ◌++◌, ◌∷◌, [], drop, sym, ap, ap₂, refl, subst, arith}
use Rattle.rast_types.specs.declared.ty.Ty.{Ty, the_lemmas}
use Rattle.rast_types.specs.declared.ty.Ty.TheVariants as ty
use Rattle.rast_equal.specs.Fit.{AreClosed, AreWithinTypes, IsWithinType}
use Rattle.rast_equal.specs.Invalid.{choice_claims}
use Rattle.rast_equal.specs.Valid.{claims_of}
use Rattle.rast_equal.proofs.Claims.{choice_next, judges_from, leaves_more, leaves_refused}
use Rattle.rast_equal.proofs.Demands.{name_args}
use Rattle.rast_equal.proofs.Fits.{all_part, assert_parts, assume_parts, element_within, ex_part, gets_parts, lolli_parts, next_parts, pays_parts, plus_parts, tensor_parts, with_parts}
use Rattle.rast_equal.proofs.Judged.{judged_all, judged_assert, judged_assume, judged_ex, judged_gets, judged_here, judged_named, judged_next, judged_one, judged_over, judged_pays, judged_plus, judged_with, lolli_false, lolli_then, potential_false, potential_then, ready_part, ready_premise, ready_variable, tensor_false, tensor_then, ticks_false, ticks_shape, ticks_then}
use Rattle.rast_equal.proofs.validity.+check_type.Goals as goal

pub check_type-returns-then-ctx-gt16 : goal.check_type-returns-then-ctx-gt16
check_type-returns-then-ctx-gt16 t c =
    let ds = c.args.table.now.defs in
    let n = c.args.ctx.now.vars in
    let ps = c.args.ctx.now.premises in
    let a = c.args.a.now in
    judged_over ds n ps a (omega arith)

pub check_type-check_choices-requires : goal.check_type-check_choices-requires
check_type-check_choices-requires t c =
    let ds = c.args.table.now.defs in
    let n = c.args.ctx.now.vars in
    let ps = c.args.ctx.now.premises in
    let a = c.args.a.now in
    let few : n ≤ 16 = omega arith in
    (search (rules, the_lemmas), (few, (c.requires.premises, subst (AreWithinTypes n) (sym c.as_slice.ensures) (plus_parts n c.in-Plus.ts (subst (IsWithinType n) c.in-Plus.is c.requires.within)))))

pub check_type-returns-in-Plus : goal.check_type-returns-in-Plus
check_type-returns-in-Plus t c =
    let ds = c.args.table.now.defs in
    let n = c.args.ctx.now.vars in
    let ps = c.args.ctx.now.premises in
    let a = c.args.a.now in
    let few : n ≤ 16 = omega arith in
    let xs = c.as_slice.result.now in
    judged_plus ds n ps few a xs c.check_choices.result (c.in-Plus.is ∙ ap ty.Plus (sym c.as_slice.ensures)) c.check_choices.ensures

pub check_type-check_choices-requires-in-With : goal.check_type-check_choices-requires-in-With
check_type-check_choices-requires-in-With t c =
    let ds = c.args.table.now.defs in
    let n = c.args.ctx.now.vars in
    let ps = c.args.ctx.now.premises in
    let a = c.args.a.now in
    let few : n ≤ 16 = omega arith in
    (search (rules, the_lemmas), (few, (c.requires.premises, subst (AreWithinTypes n) (sym c.as_slice-in-With.ensures) (with_parts n c.in-With.ts (subst (IsWithinType n) c.in-With.is c.requires.within)))))

pub check_type-returns-in-With : goal.check_type-returns-in-With
check_type-returns-in-With t c =
    let ds = c.args.table.now.defs in
    let n = c.args.ctx.now.vars in
    let ps = c.args.ctx.now.premises in
    let a = c.args.a.now in
    let few : n ≤ 16 = omega arith in
    let xs = c.as_slice-in-With.result.now in
    judged_with ds n ps few a xs c.check_choices-in-With.result (c.in-With.is ∙ ap ty.With (sym c.as_slice-in-With.ensures)) c.check_choices-in-With.ensures

pub check_type-returns-in-One : goal.check_type-returns-in-One
check_type-returns-in-One t c =
    let ds = c.args.table.now.defs in
    let n = c.args.ctx.now.vars in
    let ps = c.args.ctx.now.premises in
    let a = c.args.a.now in
    let few : n ≤ 16 = omega arith in
    judged_one ds n ps few a c.in-One.is

pub check_type-check_type-requires : goal.check_type-check_type-requires
check_type-check_type-requires t c =
    let ds = c.args.table.now.defs in
    let n = c.args.ctx.now.vars in
    let ps = c.args.ctx.now.premises in
    let a = c.args.a.now in
    let few : n ≤ 16 = omega arith in
    let r = ready_part n ps c.in-Tensor.b c.get.result.now c.get.ensures few c.requires.premises (tensor_parts n c.in-Tensor.b c.in-Tensor.c (subst (IsWithinType n) c.in-Tensor.is c.requires.within)).0 in
    (search (rules, the_lemmas), (r.few, (r.premises, r.within)))

pub check_type-check_type-requires-in-Tensor : goal.check_type-check_type-requires-in-Tensor
check_type-check_type-requires-in-Tensor t c =
    let ds = c.args.table.now.defs in
    let n = c.args.ctx.now.vars in
    let ps = c.args.ctx.now.premises in
    let a = c.args.a.now in
    let few : n ≤ 16 = omega arith in
    let r = ready_part n ps c.in-Tensor.c c.get-in-Tensor.result.now c.get-in-Tensor.ensures few c.requires.premises (tensor_parts n c.in-Tensor.b c.in-Tensor.c (subst (IsWithinType n) c.in-Tensor.is c.requires.within)).1 in
    (search (rules, the_lemmas), (r.few, (r.premises, r.within)))

pub check_type-returns-in_err-check_type-in-Tensor : goal.check_type-returns-in_err-check_type-in-Tensor
check_type-returns-in_err-check_type-in-Tensor t c =
    let ds = c.args.table.now.defs in
    let n = c.args.ctx.now.vars in
    let ps = c.args.ctx.now.premises in
    let a = c.args.a.now in
    let few : n ≤ 16 = omega arith in
    tensor_false ds n ps few a c.get.result.now c.in-Tensor.c c.in_err-check_type-in-Tensor.field-0.0 c.from_residual.result (c.in-Tensor.is ∙ ap (λ (x : Ty). ty.Tensor x c.in-Tensor.c) (sym c.get.ensures))
    c.in_err-check_type-in-Tensor.ensures c.from_residual.ensures.1

pub check_type-returns-in_ok-check_type-in-Tensor : goal.check_type-returns-in_ok-check_type-in-Tensor
check_type-returns-in_ok-check_type-in-Tensor t c =
    let ds = c.args.table.now.defs in
    let n = c.args.ctx.now.vars in
    let ps = c.args.ctx.now.premises in
    let a = c.args.a.now in
    let few : n ≤ 16 = omega arith in
    tensor_then ds n ps few a c.get.result.now c.get-in-Tensor.result.now c.check_type-in-Tensor.result (c.in-Tensor.is ∙ ap₂ ty.Tensor (sym c.get.ensures) (sym c.get-in-Tensor.ensures))
    c.in_ok-check_type-in-Tensor.ensures c.check_type-in-Tensor.ensures

pub check_type-check_type-requires-in-Lolli : goal.check_type-check_type-requires-in-Lolli
check_type-check_type-requires-in-Lolli t c =
    let ds = c.args.table.now.defs in
    let n = c.args.ctx.now.vars in
    let ps = c.args.ctx.now.premises in
    let a = c.args.a.now in
    let few : n ≤ 16 = omega arith in
    let r = ready_part n ps c.in-Lolli.b c.get-in-Lolli.result.now c.get-in-Lolli.ensures few c.requires.premises (lolli_parts n c.in-Lolli.b c.in-Lolli.c (subst (IsWithinType n) c.in-Lolli.is c.requires.within)).0 in
    (search (rules, the_lemmas), (r.few, (r.premises, r.within)))

pub check_type-check_type-requires-in-Lolli-2 : goal.check_type-check_type-requires-in-Lolli-2
check_type-check_type-requires-in-Lolli-2 t c =
    let ds = c.args.table.now.defs in
    let n = c.args.ctx.now.vars in
    let ps = c.args.ctx.now.premises in
    let a = c.args.a.now in
    let few : n ≤ 16 = omega arith in
    let r = ready_part n ps c.in-Lolli.c c.get-in-Lolli-2.result.now c.get-in-Lolli-2.ensures few c.requires.premises (lolli_parts n c.in-Lolli.b c.in-Lolli.c (subst (IsWithinType n) c.in-Lolli.is c.requires.within)).1 in
    (search (rules, the_lemmas), (r.few, (r.premises, r.within)))

pub check_type-returns-in_err-check_type-in-Lolli : goal.check_type-returns-in_err-check_type-in-Lolli
check_type-returns-in_err-check_type-in-Lolli t c =
    let ds = c.args.table.now.defs in
    let n = c.args.ctx.now.vars in
    let ps = c.args.ctx.now.premises in
    let a = c.args.a.now in
    let few : n ≤ 16 = omega arith in
    lolli_false ds n ps few a c.get-in-Lolli.result.now c.in-Lolli.c c.in_err-check_type-in-Lolli.field-0.0 c.from_residual-in_err-check_type-in-Lolli.result (c.in-Lolli.is ∙ ap (λ (x : Ty). ty.Lolli x c.in-Lolli.c) (sym c.get-in-Lolli.ensures))
    c.in_err-check_type-in-Lolli.ensures c.from_residual-in_err-check_type-in-Lolli.ensures.1

pub check_type-returns-in_ok-check_type-in-Lolli : goal.check_type-returns-in_ok-check_type-in-Lolli
check_type-returns-in_ok-check_type-in-Lolli t c =
    let ds = c.args.table.now.defs in
    let n = c.args.ctx.now.vars in
    let ps = c.args.ctx.now.premises in
    let a = c.args.a.now in
    let few : n ≤ 16 = omega arith in
    lolli_then ds n ps few a c.get-in-Lolli.result.now c.get-in-Lolli-2.result.now c.check_type-in-Lolli-2.result (c.in-Lolli.is ∙ ap₂ ty.Lolli (sym c.get-in-Lolli.ensures) (sym c.get-in-Lolli-2.ensures))
    c.in_ok-check_type-in-Lolli.ensures c.check_type-in-Lolli-2.ensures

pub check_type-check_natural_each-requires-clause-within : goal.check_type-check_natural_each-requires-clause-within
check_type-check_natural_each-requires-clause-within t c =
    let ds = c.args.table.now.defs in
    let n = c.args.ctx.now.vars in
    let ps = c.args.ctx.now.premises in
    let a = c.args.a.now in
    let few : n ≤ 16 = omega arith in
    subst (AreClosed n) (sym c.as_slice-in-Named.ensures) (name_args n a c.in-Named.field-0 c.in-Named.args c.in-Named.is c.requires.within)

pub check_type-returns-in-Named : goal.check_type-returns-in-Named
check_type-returns-in-Named t c =
    let ds = c.args.table.now.defs in
    let n = c.args.ctx.now.vars in
    let ps = c.args.ctx.now.premises in
    let a = c.args.a.now in
    let few : n ≤ 16 = omega arith in
    judged_named ds n ps few a c.in-Named.field-0 c.as_slice-in-Named.result.now c.check_natural_each.result (c.in-Named.is ∙ ap (ty.Named c.in-Named.field-0) (sym c.as_slice-in-Named.ensures)) c.check_natural_each.ensures

pub check_type-check_below_variable-requires : goal.check_type-check_below_variable-requires
check_type-check_below_variable-requires t c =
    let ds = c.args.table.now.defs in
    let n = c.args.ctx.now.vars in
    let ps = c.args.ctx.now.premises in
    let a = c.args.a.now in
    let few : n ≤ 16 = omega arith in
    (search (rules, the_lemmas), (few, (c.requires.premises, subst (IsWithinType (n + 1)) (sym c.get-in-Ex.ensures) (ex_part n c.in-Ex.b (subst (IsWithinType n) c.in-Ex.is c.requires.within)))))

pub check_type-returns-in-Ex : goal.check_type-returns-in-Ex
check_type-returns-in-Ex t c =
    let ds = c.args.table.now.defs in
    let n = c.args.ctx.now.vars in
    let ps = c.args.ctx.now.premises in
    let a = c.args.a.now in
    let few : n ≤ 16 = omega arith in
    judged_ex ds n ps few a (n + 1) ps c.get-in-Ex.result.now c.check_below_variable.result (c.in-Ex.is ∙ ap ty.Ex (sym c.get-in-Ex.ensures)) refl refl c.check_below_variable.ensures

pub check_type-check_below_variable-requires-in-All : goal.check_type-check_below_variable-requires-in-All
check_type-check_below_variable-requires-in-All t c =
    let ds = c.args.table.now.defs in
    let n = c.args.ctx.now.vars in
    let ps = c.args.ctx.now.premises in
    let a = c.args.a.now in
    let few : n ≤ 16 = omega arith in
    (search (rules, the_lemmas), (few, (c.requires.premises, subst (IsWithinType (n + 1)) (sym c.get-in-All.ensures) (all_part n c.in-All.b (subst (IsWithinType n) c.in-All.is c.requires.within)))))

pub check_type-returns-in-All : goal.check_type-returns-in-All
check_type-returns-in-All t c =
    let ds = c.args.table.now.defs in
    let n = c.args.ctx.now.vars in
    let ps = c.args.ctx.now.premises in
    let a = c.args.a.now in
    let few : n ≤ 16 = omega arith in
    judged_all ds n ps few a (n + 1) ps c.get-in-All.result.now c.check_below_variable-in-All.result (c.in-All.is ∙ ap ty.All (sym c.get-in-All.ensures)) refl refl c.check_below_variable-in-All.ensures

pub check_type-check_below_premise-requires : goal.check_type-check_below_premise-requires
check_type-check_below_premise-requires t c =
    let ds = c.args.table.now.defs in
    let n = c.args.ctx.now.vars in
    let ps = c.args.ctx.now.premises in
    let a = c.args.a.now in
    let few : n ≤ 16 = omega arith in
    let p = assert_parts n c.in-Assert.f c.in-Assert.b (subst (IsWithinType n) c.in-Assert.is c.requires.within) in
    (search (rules, the_lemmas), (few, (c.requires.premises, (p.0, subst (IsWithinType n) (sym c.get-in-Assert.ensures) p.1))))

pub check_type-returns-in-Assert : goal.check_type-returns-in-Assert
check_type-returns-in-Assert t c =
    let ds = c.args.table.now.defs in
    let n = c.args.ctx.now.vars in
    let ps = c.args.ctx.now.premises in
    let a = c.args.a.now in
    let few : n ≤ 16 = omega arith in
    judged_assert ds n ps few a c.in-Assert.f n (ps ++ c.in-Assert.f ∷ []) c.get-in-Assert.result.now c.check_below_premise.result (c.in-Assert.is ∙ ap (ty.Assert c.in-Assert.f) (sym c.get-in-Assert.ensures)) refl refl c.check_below_premise.ensures

pub check_type-check_below_premise-requires-in-Assume : goal.check_type-check_below_premise-requires-in-Assume
check_type-check_below_premise-requires-in-Assume t c =
    let ds = c.args.table.now.defs in
    let n = c.args.ctx.now.vars in
    let ps = c.args.ctx.now.premises in
    let a = c.args.a.now in
    let few : n ≤ 16 = omega arith in
    let p = assume_parts n c.in-Assume.f c.in-Assume.b (subst (IsWithinType n) c.in-Assume.is c.requires.within) in
    (search (rules, the_lemmas), (few, (c.requires.premises, (p.0, subst (IsWithinType n) (sym c.get-in-Assume.ensures) p.1))))

pub check_type-returns-in-Assume : goal.check_type-returns-in-Assume
check_type-returns-in-Assume t c =
    let ds = c.args.table.now.defs in
    let n = c.args.ctx.now.vars in
    let ps = c.args.ctx.now.premises in
    let a = c.args.a.now in
    let few : n ≤ 16 = omega arith in
    judged_assume ds n ps few a c.in-Assume.f n (ps ++ c.in-Assume.f ∷ []) c.get-in-Assume.result.now c.check_below_premise-in-Assume.result (c.in-Assume.is ∙ ap (ty.Assume c.in-Assume.f) (sym c.get-in-Assume.ensures)) refl refl c.check_below_premise-in-Assume.ensures

pub check_type-check_below_potential-requires : goal.check_type-check_below_potential-requires
check_type-check_below_potential-requires t c =
    let ds = c.args.table.now.defs in
    let n = c.args.ctx.now.vars in
    let ps = c.args.ctx.now.premises in
    let a = c.args.a.now in
    let few : n ≤ 16 = omega arith in
    let p = pays_parts n c.in-Pays.p c.in-Pays.b (subst (IsWithinType n) c.in-Pays.is c.requires.within) in
    (search (rules, the_lemmas), (few, (c.requires.premises, (p.0, subst (IsWithinType n) (sym c.get-in-Pays.ensures) p.1))))

pub check_type-returns-in-Pays : goal.check_type-returns-in-Pays
check_type-returns-in-Pays t c =
    let ds = c.args.table.now.defs in
    let n = c.args.ctx.now.vars in
    let ps = c.args.ctx.now.premises in
    let a = c.args.a.now in
    let few : n ≤ 16 = omega arith in
    judged_pays ds n ps few a c.in-Pays.p c.get-in-Pays.result.now c.check_below_potential.result (c.in-Pays.is ∙ ap (ty.Pays c.in-Pays.p) (sym c.get-in-Pays.ensures)) c.check_below_potential.ensures

pub check_type-check_below_potential-requires-in-Gets : goal.check_type-check_below_potential-requires-in-Gets
check_type-check_below_potential-requires-in-Gets t c =
    let ds = c.args.table.now.defs in
    let n = c.args.ctx.now.vars in
    let ps = c.args.ctx.now.premises in
    let a = c.args.a.now in
    let few : n ≤ 16 = omega arith in
    let p = gets_parts n c.in-Gets.p c.in-Gets.b (subst (IsWithinType n) c.in-Gets.is c.requires.within) in
    (search (rules, the_lemmas), (few, (c.requires.premises, (p.0, subst (IsWithinType n) (sym c.get-in-Gets.ensures) p.1))))

pub check_type-returns-in-Gets : goal.check_type-returns-in-Gets
check_type-returns-in-Gets t c =
    let ds = c.args.table.now.defs in
    let n = c.args.ctx.now.vars in
    let ps = c.args.ctx.now.premises in
    let a = c.args.a.now in
    let few : n ≤ 16 = omega arith in
    judged_gets ds n ps few a c.in-Gets.p c.get-in-Gets.result.now c.check_below_potential-in-Gets.result (c.in-Gets.is ∙ ap (ty.Gets c.in-Gets.p) (sym c.get-in-Gets.ensures)) c.check_below_potential-in-Gets.ensures

pub check_type-check_below_ticks-requires : goal.check_type-check_below_ticks-requires
check_type-check_below_ticks-requires t c =
    let ds = c.args.table.now.defs in
    let n = c.args.ctx.now.vars in
    let ps = c.args.ctx.now.premises in
    let a = c.args.a.now in
    let few : n ≤ 16 = omega arith in
    let p = next_parts n c.in-Next.ticks c.in-Next.b (subst (IsWithinType n) c.in-Next.is c.requires.within) in
    (search (rules, the_lemmas), (few, (c.requires.premises, (p.0, subst (IsWithinType n) (sym c.get-in-Next.ensures) p.1))))

pub check_type-returns-in-Next : goal.check_type-returns-in-Next
check_type-returns-in-Next t c =
    let ds = c.args.table.now.defs in
    let n = c.args.ctx.now.vars in
    let ps = c.args.ctx.now.premises in
    let a = c.args.a.now in
    let few : n ≤ 16 = omega arith in
    judged_next ds n ps few a c.in-Next.ticks c.get-in-Next.result.now c.check_below_ticks.result (c.in-Next.is ∙ ap (ty.Next c.in-Next.ticks) (sym c.get-in-Next.ensures)) c.check_below_ticks.ensures

pub check_below_variable-check_type-requires : goal.check_below_variable-check_type-requires
check_below_variable-check_type-requires t c =
    let ds = c.args.table.now.defs in
    let n = c.args.ctx.now.vars in
    let ps = c.args.ctx.now.premises in
    let few : n ≤ 16 = c.requires.few in
    let r = ready_variable n ps c.in_ok-inner.inner c.args.body.now c.args.body.now c.in_ok-inner.ensures refl few c.requires.premises c.requires.within in
    (search (rules, the_lemmas), (r.few, (r.premises, r.within)))

pub check_below_variable-returns : goal.check_below_variable-returns
check_below_variable-returns t c =
    let ds = c.args.table.now.defs in
    let n = c.args.ctx.now.vars in
    let ps = c.args.ctx.now.premises in
    let few : n ≤ 16 = c.requires.few in
    judged_here ds (n + 1) ps c.in_ok-inner.inner c.args.body.now c.check_type.result c.in_ok-inner.ensures c.check_type.ensures

pub check_below_premise-check_type-requires : goal.check_below_premise-check_type-requires
check_below_premise-check_type-requires t c =
    let ds = c.args.table.now.defs in
    let n = c.args.ctx.now.vars in
    let ps = c.args.ctx.now.premises in
    let few : n ≤ 16 = c.requires.few in
    let r = ready_premise n ps c.args.premise.now c.in_ok-inner.inner c.args.body.now c.args.body.now c.in_ok-inner.ensures refl few c.requires.premises c.requires.premise c.requires.within in
    (search (rules, the_lemmas), (r.few, (r.premises, r.within)))

pub check_below_premise-returns : goal.check_below_premise-returns
check_below_premise-returns t c =
    let ds = c.args.table.now.defs in
    let n = c.args.ctx.now.vars in
    let ps = c.args.ctx.now.premises in
    let few : n ≤ 16 = c.requires.few in
    judged_here ds n (ps ++ c.args.premise.now ∷ []) c.in_ok-inner.inner c.args.body.now c.check_type.result c.in_ok-inner.ensures c.check_type.ensures

pub check_below_potential-check_type-requires : goal.check_below_potential-check_type-requires
check_below_potential-check_type-requires t c =
    let ds = c.args.table.now.defs in
    let n = c.args.ctx.now.vars in
    let ps = c.args.ctx.now.premises in
    let few : n ≤ 16 = c.requires.few in
    (search (rules, the_lemmas), ((omega arith), (c.requires.premises, c.requires.within)))

pub check_below_potential-returns-in_err-check_natural : goal.check_below_potential-returns-in_err-check_natural
check_below_potential-returns-in_err-check_natural t c =
    let ds = c.args.table.now.defs in
    let n = c.args.ctx.now.vars in
    let ps = c.args.ctx.now.premises in
    let few : n ≤ 16 = c.requires.few in
    potential_false ds n ps c.args.potential.now c.args.body.now c.in_err-check_natural.field-0.0 c.from_residual.result c.in_err-check_natural.ensures c.from_residual.ensures.1

pub check_below_potential-returns : goal.check_below_potential-returns
check_below_potential-returns t c =
    let ds = c.args.table.now.defs in
    let n = c.args.ctx.now.vars in
    let ps = c.args.ctx.now.premises in
    let few : n ≤ 16 = c.requires.few in
    potential_then ds n ps c.args.potential.now c.args.body.now c.check_type.result c.in_ok-check_natural.ensures c.check_type.ensures

pub check_below_ticks-check_type-requires : goal.check_below_ticks-check_type-requires
check_below_ticks-check_type-requires t c =
    let ds = c.args.table.now.defs in
    let n = c.args.ctx.now.vars in
    let ps = c.args.ctx.now.premises in
    let few : n ≤ 16 = c.requires.few in
    (search (rules, the_lemmas), ((omega arith), (c.requires.premises, c.requires.within)))

pub check_below_ticks-returns-in_err-check_natural : goal.check_below_ticks-returns-in_err-check_natural
check_below_ticks-returns-in_err-check_natural t c =
    let ds = c.args.table.now.defs in
    let n = c.args.ctx.now.vars in
    let ps = c.args.ctx.now.premises in
    let few : n ≤ 16 = c.requires.few in
    ticks_false ds n ps c.args.ticks.now c.args.body.now c.in_err-check_natural.field-0.0 c.from_residual.result c.in_err-check_natural.ensures c.from_residual.ensures.1

pub check_below_ticks-returns-then-leads_to_next : goal.check_below_ticks-returns-then-leads_to_next
check_below_ticks-returns-then-leads_to_next t c =
    let ds = c.args.table.now.defs in
    let n = c.args.ctx.now.vars in
    let ps = c.args.ctx.now.premises in
    let few : n ≤ 16 = c.requires.few in
    ticks_shape ds n ps c.args.ticks.now c.args.body.now c.leads_to_next.result c.in_ok-check_natural.ensures c.leads_to_next.ensures c.if-leads_to_next.true

pub check_below_ticks-returns : goal.check_below_ticks-returns
check_below_ticks-returns t c =
    let ds = c.args.table.now.defs in
    let n = c.args.ctx.now.vars in
    let ps = c.args.ctx.now.premises in
    let few : n ≤ 16 = c.requires.few in
    ticks_then ds n ps c.args.ticks.now c.args.body.now c.leads_to_next.result c.check_type.result c.in_ok-check_natural.ensures c.leads_to_next.ensures c.if-leads_to_next.false c.check_type.ensures

pub check_choices-check_type-requires : goal.check_choices-check_type-requires
check_choices-check_type-requires t c =
    let ds = c.args.table.now.defs in
    let n = c.args.ctx.now.vars in
    let ps = c.args.ctx.now.premises in
    let ts = c.args.ts.now in
    let i = c.loop-a.a-index in
    (search (rules, the_lemmas), ((let few = c.requires.few in omega arith), (c.requires.premises, element_within n ts i c.loop-a-item.result c.loop-a-test.true c.loop-a-item.is c.requires.within)))

pub check_choices-returns-in_err-check_type : goal.check_choices-returns-in_err-check_type
check_choices-returns-in_err-check_type t c =
    let ds = c.args.table.now.defs in
    let n = c.args.ctx.now.vars in
    let ps = c.args.ctx.now.premises in
    let ts = c.args.ts.now in
    let i = c.loop-a.a-index in
    judges_from (choice_claims ds n ps ts) c.in_err-check_type.field-0.0 c.from_residual.result c.from_residual.ensures.1
    (leaves_refused (choice_claims ds n ps ts) (choice_claims ds n ps (drop i ts)) (claims_of ds n ps c.loop-a-item.result.1) (choice_claims ds n ps (drop (i + 1) ts))
    c.in_err-check_type.field-0.0 c.loop-a.invariant (choice_next ds n ps ts i c.loop-a-item.result c.loop-a-test.true c.loop-a-item.is) c.in_err-check_type.ensures)

pub check_choices-loop-a-preserved : goal.check_choices-loop-a-preserved
check_choices-loop-a-preserved t c =
    let ds = c.args.table.now.defs in
    let n = c.args.ctx.now.vars in
    let ps = c.args.ctx.now.premises in
    let ts = c.args.ts.now in
    let i = c.loop-a.a-index in
    leaves_more (choice_claims ds n ps ts) (choice_claims ds n ps (drop i ts)) (claims_of ds n ps c.loop-a-item.result.1) (choice_claims ds n ps (drop (i + 1) ts))
    c.loop-a.invariant (choice_next ds n ps ts i c.loop-a-item.result c.loop-a-test.true c.loop-a-item.is) c.in_ok-check_type.ensures
