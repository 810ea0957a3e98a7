use Rattle.std.proofs.Common.{drop}
use Rattle.rast_check.specs.Questions.{asked_at}
use Rattle.rast_check.proofs.Leads.{Leads}
use Rattle.rast_check.proofs.node.check_premises.Given as goal

abbrev pub invariant-loop-number : goal.invariant-loop-number
invariant-loop-number l = Leads l.program (asked_at l.node l.at l.premises) (asked_at l.node l.at (drop l.number-index l.premises))
