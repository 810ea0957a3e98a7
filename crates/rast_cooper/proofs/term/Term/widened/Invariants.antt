use Rattle.rast_cooper.proofs.Filled.{IsFilled}
use Rattle.rast_cooper.proofs.term.Term.widened.Given as goal

abbrev pub invariant-loop-i : goal.invariant-loop-i
invariant-loop-i l = IsFilled l.lin-inside.coefficient l.coefficient l.i
