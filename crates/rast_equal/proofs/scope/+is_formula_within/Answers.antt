use Rattle.std.proofs.Common.{◌∙◌, sym, ap, ap₂}
use Rattle.rast_cooper.specs.Verdicts.{is_within}
use Rattle.rast_index.specs.declared.formula.Formula.TheVariants as form
use Rattle.rast_equal.proofs.Scopes.{tests_and, tests_first, tests_imp, tests_not, tests_or, tests_second, tests_stop, tests_taken}
use Rattle.rast_equal.proofs.scope.+is_formula_within.Goals as goal

pub are_formulas_within-returns-then-not-is_formula_within : goal.are_formulas_within-returns-then-not-is_formula_within
are_formulas_within-returns-then-not-is_formula_within t c =
    tests_stop is_within c.args.vars c.args.fs.now c.loop-f.f-index c.f-item.result c.is_formula_within.result c.loop-f-test.true c.f-item.is c.if-not-is_formula_within.true c.is_formula_within.ensures

pub are_formulas_within-loop-f-preserved : goal.are_formulas_within-loop-f-preserved
are_formulas_within-loop-f-preserved t c =
    tests_taken is_within c.args.vars c.args.fs.now c.loop-f.f-index c.f-item.result c.is_formula_within.result c.loop-f-test.true c.f-item.is c.if-not-is_formula_within.false c.loop-f.invariant c.is_formula_within.ensures

pub is_formula_within-returns-in-Not : goal.is_formula_within-returns-in-Not
is_formula_within-returns-in-Not t c =
    tests_not c.args.vars c.args.f.now c.get.result.now c.is_formula_within.result (c.in-Not.is ∙ ap form.Not (sym c.get.ensures)) c.is_formula_within.ensures

pub is_formula_within-returns-in-And : goal.is_formula_within-returns-in-And
is_formula_within-returns-in-And t c =
    tests_and c.args.vars c.args.f.now c.as_slice.result.now c.are_formulas_within.result (c.in-And.is ∙ ap form.And (sym c.as_slice.ensures)) c.are_formulas_within.ensures

pub is_formula_within-returns-in-Or : goal.is_formula_within-returns-in-Or
is_formula_within-returns-in-Or t c =
    tests_or c.args.vars c.args.f.now c.as_slice-in-Or.result.now c.are_formulas_within-in-Or.result (c.in-Or.is ∙ ap form.Or (sym c.as_slice-in-Or.ensures)) c.are_formulas_within-in-Or.ensures

pub is_formula_within-returns-then-left-2 : goal.is_formula_within-returns-then-left-2
is_formula_within-returns-then-left-2 t c =
    let p = c.is_formula_within-left.result in
    let q = c.is_formula_within-right.result in
    tests_second c.args.vars (λ m. is_within m c.args.f.now) p q c.if-left-2.true
    (tests_imp c.args.vars c.args.f.now c.get-in-Imp.result.now c.get-in-Imp-2.result.now p q (c.in-Imp.is ∙ ap₂ form.Imp (sym c.get-in-Imp.ensures) (sym c.get-in-Imp-2.ensures)) c.is_formula_within-left.ensures c.is_formula_within-right.ensures)

pub is_formula_within-returns-else-left-2 : goal.is_formula_within-returns-else-left-2
is_formula_within-returns-else-left-2 t c =
    let p = c.is_formula_within-left.result in
    let q = c.is_formula_within-right.result in
    tests_first c.args.vars (λ m. is_within m c.args.f.now) p q c.if-left-2.false
    (tests_imp c.args.vars c.args.f.now c.get-in-Imp.result.now c.get-in-Imp-2.result.now p q (c.in-Imp.is ∙ ap₂ form.Imp (sym c.get-in-Imp.ensures) (sym c.get-in-Imp-2.ensures)) c.is_formula_within-left.ensures c.is_formula_within-right.ensures)
