use Rattle.std.proofs.Common.{ℕ, ◌∙◌, sym, ap, ap₂, arith}
use Rattle.rast_types.specs.declared.ty.Ty.{Ty}
use Rattle.rast_types.specs.declared.ty.Ty.TheVariants as ty
use Rattle.rast_equal.specs.Fit.{is_within_type}
use Rattle.rast_equal.proofs.Scopes.{tests_assert, tests_assume, tests_end, tests_first, tests_lolli, tests_plus, tests_second, tests_stop, tests_taken, tests_tensor, tests_with}
use Rattle.rast_equal.proofs.scope.+is_type_within.Goals as goal

pub are_types_within-returns-then-not-is_type_within : goal.are_types_within-returns-then-not-is_type_within
are_types_within-returns-then-not-is_type_within t c =
    tests_stop (λ m (e : ℕ × Ty). is_within_type m e.1) c.args.vars c.args.ts.now c.loop-a.a-index c.loop-a-item.result c.is_type_within.result c.loop-a-test.true c.loop-a-item.is c.if-not-is_type_within.true c.is_type_within.ensures

pub are_types_within-loop-a-preserved : goal.are_types_within-loop-a-preserved
are_types_within-loop-a-preserved t c =
    tests_taken (λ m (e : ℕ × Ty). is_within_type m e.1) c.args.vars c.args.ts.now c.loop-a.a-index c.loop-a-item.result c.is_type_within.result c.loop-a-test.true c.loop-a-item.is c.if-not-is_type_within.false c.loop-a.invariant c.is_type_within.ensures

pub are_types_within-returns : goal.are_types_within-returns
are_types_within-returns t c = tests_end (λ m (e : ℕ × Ty). is_within_type m e.1) c.args.vars c.args.ts.now c.loop-a.a-index (omega arith) c.loop-a.invariant

pub is_type_within-returns-in-Plus : goal.is_type_within-returns-in-Plus
is_type_within-returns-in-Plus t c =
    tests_plus c.args.vars c.args.a.now c.as_slice.result.now c.are_types_within.result (c.in-Plus.is ∙ ap ty.Plus (sym c.as_slice.ensures)) c.are_types_within.ensures

pub is_type_within-returns-in-With : goal.is_type_within-returns-in-With
is_type_within-returns-in-With t c =
    tests_with c.args.vars c.args.a.now c.as_slice-in-With.result.now c.are_types_within-in-With.result (c.in-With.is ∙ ap ty.With (sym c.as_slice-in-With.ensures)) c.are_types_within-in-With.ensures

pub is_type_within-returns-then-left : goal.is_type_within-returns-then-left
is_type_within-returns-then-left t c =
    let p = c.is_type_within-left.result in
    let q = c.is_type_within-right.result in
    tests_second c.args.vars (λ m. is_within_type m c.args.a.now) p q c.if-left.true
    (tests_tensor c.args.vars c.args.a.now c.get.result.now c.get-in-Tensor.result.now p q (c.in-Tensor.is ∙ ap₂ ty.Tensor (sym c.get.ensures) (sym c.get-in-Tensor.ensures)) c.is_type_within-left.ensures c.is_type_within-right.ensures)

pub is_type_within-returns-then-left-2 : goal.is_type_within-returns-then-left-2
is_type_within-returns-then-left-2 t c =
    let p = c.is_type_within-left-in-Lolli.result in
    let q = c.is_type_within-right-in-Lolli.result in
    tests_second c.args.vars (λ m. is_within_type m c.args.a.now) p q c.if-left-2.true
    (tests_lolli c.args.vars c.args.a.now c.get-in-Lolli.result.now c.get-in-Lolli-2.result.now p q (c.in-Lolli.is ∙ ap₂ ty.Lolli (sym c.get-in-Lolli.ensures) (sym c.get-in-Lolli-2.ensures)) c.is_type_within-left-in-Lolli.ensures c.is_type_within-right-in-Lolli.ensures)

pub is_type_within-returns-then-formula : goal.is_type_within-returns-then-formula
is_type_within-returns-then-formula t c =
    let p = c.is_formula_within-formula.result in
    let q = c.is_type_within-body.result in
    tests_second c.args.vars (λ m. is_within_type m c.args.a.now) p q c.if-formula.true
    (tests_assert c.args.vars c.args.a.now c.in-Assert.f c.get-in-Assert.result.now p q (c.in-Assert.is ∙ ap (ty.Assert c.in-Assert.f) (sym c.get-in-Assert.ensures)) c.is_formula_within-formula.ensures c.is_type_within-body.ensures)

pub is_type_within-returns-else-formula : goal.is_type_within-returns-else-formula
is_type_within-returns-else-formula t c =
    let p = c.is_formula_within-formula.result in
    let q = c.is_type_within-body.result in
    tests_first c.args.vars (λ m. is_within_type m c.args.a.now) p q c.if-formula.false
    (tests_assert c.args.vars c.args.a.now c.in-Assert.f c.get-in-Assert.result.now p q (c.in-Assert.is ∙ ap (ty.Assert c.in-Assert.f) (sym c.get-in-Assert.ensures)) c.is_formula_within-formula.ensures c.is_type_within-body.ensures)

pub is_type_within-returns-then-formula-2 : goal.is_type_within-returns-then-formula-2
is_type_within-returns-then-formula-2 t c =
    let p = c.is_formula_within-formula-in-Assume.result in
    let q = c.is_type_within-body-in-Assume.result in
    tests_second c.args.vars (λ m. is_within_type m c.args.a.now) p q c.if-formula-2.true
    (tests_assume c.args.vars c.args.a.now c.in-Assume.f c.get-in-Assume.result.now p q (c.in-Assume.is ∙ ap (ty.Assume c.in-Assume.f) (sym c.get-in-Assume.ensures)) c.is_formula_within-formula-in-Assume.ensures c.is_type_within-body-in-Assume.ensures)

pub is_type_within-returns-else-formula-2 : goal.is_type_within-returns-else-formula-2
is_type_within-returns-else-formula-2 t c =
    let p = c.is_formula_within-formula-in-Assume.result in
    let q = c.is_type_within-body-in-Assume.result in
    tests_first c.args.vars (λ m. is_within_type m c.args.a.now) p q c.if-formula-2.false
    (tests_assume c.args.vars c.args.a.now c.in-Assume.f c.get-in-Assume.result.now p q (c.in-Assume.is ∙ ap (ty.Assume c.in-Assume.f) (sym c.get-in-Assume.ensures)) c.is_formula_within-formula-in-Assume.ensures c.is_type_within-body-in-Assume.ensures)
