use Rattle.std.proofs.Common.{◌∙◌, arith}
use Rattle.rast_equal.proofs.scope.is_equation_fit.Goals as goal

pub returns : goal.returns
returns c = (
  (λ t. record {
    few = omega arith;
    premise = c.is_formula_fit.ensures.more c.if-not-is_formula_fit.false;
    left = c.is_type_fit.ensures.more c.if-not-is_type_fit.false;
    right = c.is_type_fit-2.ensures.more t;
  }),
  (λ fit. c.is_type_fit-2.ensures.is ∙ fit.right c.args.equation.now.vars (omega arith)),
)
