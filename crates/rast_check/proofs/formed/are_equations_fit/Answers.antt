use Rattle.std.proofs.Common.{sym, ◌∙◌}
use Rattle.rast_check.specs.Formed.{is_fit_equation}
use Rattle.rast_equal.specs.Fit.{IsFitEquation}
use Rattle.rast_check.proofs.Testing.{taken_all, taken_step, test_step}
use Rattle.rast_check.proofs.formed.are_equations_fit.Goals as goal

pub loop-equation-preserved : goal.loop-equation-preserved
loop-equation-preserved c =
    let xs = c.args.equations.now in
    let i = c.loop-equation.equation-index in
    let x = c.equation-item.result in
    record {
      is = test_step is_fit_equation xs i x c.loop-equation-test.true c.equation-item.is (sym c.is_fit_equation.ensures.is ∙ c.if-not-is_fit_equation.false) c.loop-equation.invariant.is;
      more = taken_step IsFitEquation xs i x c.loop-equation-test.true c.equation-item.is (c.is_fit_equation.ensures.more c.if-not-is_fit_equation.false) c.loop-equation.invariant.more;
    }

pub returns-clause-more : goal.returns-clause-more
returns-clause-more c = λ done. taken_all IsFitEquation c.args.equations.now c.loop-equation.equation-index c.loop-equation-test.false c.loop-equation.invariant.more
