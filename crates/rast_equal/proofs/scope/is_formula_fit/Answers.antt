use Rattle.rast_cooper.specs.Verdicts.{is_within}
use Rattle.rast_equal.proofs.Scopes.{tests_here, tests_more}
use Rattle.rast_equal.proofs.scope.is_formula_fit.Goals as goal

pub returns-clause-is : goal.returns-clause-is
returns-clause-is c = tests_here c.args.vars c.least.result (λ m. is_within m c.args.f.now) c.is_formula_within.result (c.least.ensures.same, c.least.ensures.most) c.is_formula_within.ensures

pub returns-clause-more : goal.returns-clause-more
returns-clause-more c = tests_more c.args.vars c.least.result (λ m. is_within m c.args.f.now) c.is_formula_within.result (c.least.ensures.same, c.least.ensures.most) c.is_formula_within.ensures
