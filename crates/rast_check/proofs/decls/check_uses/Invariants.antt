use Rattle.std.proofs.Common.{drop}
use Rattle.rast_check.proofs.Declaring.{uses_asked}
use Rattle.rast_check.proofs.Leads.{Leads}
use Rattle.rast_check.proofs.decls.check_uses.Given as goal

abbrev pub invariant-loop-a : goal.invariant-loop-a
invariant-loop-a l = Leads l.program (uses_asked l.program l.number l.ctx.vars l.uses) (uses_asked l.program l.number l.ctx.vars (drop l.a-index l.uses))
