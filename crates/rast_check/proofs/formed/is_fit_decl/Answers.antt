use Rattle.std.proofs.Common.{◌∙◌, All, subst, sym}
use Rattle.rast_equal.specs.Fit.{IsWithinType}
use Rattle.rast_check.proofs.formed.is_fit_decl.Goals as goal

pub returns-clause-more : goal.returns-clause-more
returns-clause-more c = λ b. record {
  few = c.if-decl-gt16.false;
  uses = subst (All (IsWithinType c.args.decl.now.params)) c.as_slice.ensures (c.are_types_within.ensures.more c.if-not-are_types_within.false);
  gives = c.is_type_fit.ensures.more c.if-not-is_type_fit.false;
  potential = sym c.is_closed.ensures.is ∙ b;
}
