use Rattle.std.specs.Prelude.{All}
use Rattle.rast_check.specs.Walk.{IsPlaced, left, visits_left, waiting_questions}
use Rattle.rast_check.proofs.Leads.{Leads}
use Rattle.rast_check.proofs.walk.check_below.Given as goal

abbrev pub invariant-loop-waiting : goal.invariant-loop-waiting
invariant-loop-waiting l = record {
  leads : Leads l.program (waiting_questions l.program l.fn.first) (left l.program l.stack);
  placed : All (IsPlaced l.program) l.stack;
}

abbrev pub decreases-loop-waiting : goal.decreases-loop-waiting
decreases-loop-waiting l = visits_left l.program l.stack
