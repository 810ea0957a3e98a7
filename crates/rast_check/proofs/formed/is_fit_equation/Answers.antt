use Rattle.rast_check.proofs.formed.is_fit_equation.Goals as goal

pub returns-clause-more : goal.returns-clause-more
returns-clause-more c = λ b. record {
  few = c.if-equation-gt16.false;
  premise = c.is_formula_fit.ensures.more c.if-not-is_formula_fit.false;
  left = c.is_type_fit.ensures.more c.if-not-is_type_fit.false;
  right = c.is_type_fit-2.ensures.more b;
}
