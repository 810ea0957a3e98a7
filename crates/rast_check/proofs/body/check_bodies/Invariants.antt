use Rattle.std.proofs.Common.{drop}
use Rattle.rast_check.specs.Questions.{body_questions}
use Rattle.rast_check.proofs.Roots.{bodies_asked}
use Rattle.rast_check.proofs.Leads.{Leads}
use Rattle.rast_check.proofs.body.check_bodies.Given as goal

abbrev pub invariant-loop-i : goal.invariant-loop-i
invariant-loop-i l = Leads l.program (body_questions l.program) (bodies_asked l.program l.i (drop l.i l.program.decls))
