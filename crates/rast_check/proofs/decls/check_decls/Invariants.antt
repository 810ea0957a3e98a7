use Rattle.std.proofs.Common.{drop}
use Rattle.rast_check.specs.Questions.{decl_questions}
use Rattle.rast_check.proofs.Declaring.{decls_asked}
use Rattle.rast_check.proofs.Leads.{Leads}
use Rattle.rast_check.proofs.decls.check_decls.Given as goal

abbrev pub invariant-loop-i : goal.invariant-loop-i
invariant-loop-i l = Leads l.program (decl_questions l.program) (decls_asked l.program l.i (drop l.i l.program.decls))
