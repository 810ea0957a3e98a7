use Rattle.std.proofs.Common.{drop}
use Rattle.rast_equal.specs.Invalid.{natural_claims}
use Rattle.rast_equal.proofs.Claims.{Leaves}
use Rattle.rast_equal.proofs.validity.check_natural_each.Given as goal

abbrev pub invariant-loop-l : goal.invariant-loop-l
invariant-loop-l l = Leaves (natural_claims l.ctx.vars l.ctx.premises l.terms) (natural_claims l.ctx.vars l.ctx.premises (drop l.l-index l.terms))
