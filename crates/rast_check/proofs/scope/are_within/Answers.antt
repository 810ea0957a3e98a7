use Rattle.std.proofs.Common.{sym, ◌∙◌}
use Rattle.rast_cooper.specs.Verdicts.{is_within}
use Rattle.rast_check.proofs.Testing.{test_step, within_taken}
use Rattle.rast_check.proofs.scope.are_within.Goals as goal

pub loop-formula-preserved : goal.loop-formula-preserved
loop-formula-preserved c =
    let n = c.args.vars in
    let fs = c.args.formulas.now in
    let i = c.loop-formula.formula-index in
    let f = c.formula-item.result in
    record {
      is = test_step (is_within n) fs i f c.loop-formula-test.true c.formula-item.is (sym c.is_formula_fit.ensures.is ∙ c.if-not-is_formula_fit.false) c.loop-formula.invariant.is;
      more = within_taken n fs i f c.loop-formula-test.true c.formula-item.is (c.is_formula_fit.ensures.more c.if-not-is_formula_fit.false) c.loop-formula.invariant.more;
    }
