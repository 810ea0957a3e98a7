use Rattle.std.proofs.Common.{drop}
use Rattle.rast_equal.specs.Invalid.{choice_claims}
use Rattle.rast_equal.proofs.Claims.{Leaves}
use Rattle.rast_equal.proofs.validity.+check_type.Given as goal

abbrev pub invariant-check_choices-loop-a : goal.invariant-check_choices-loop-a
invariant-check_choices-loop-a l = Leaves (choice_claims l.table.defs l.ctx.vars l.ctx.premises l.ts) (choice_claims l.table.defs l.ctx.vars l.ctx.premises (drop l.a-index l.ts))
