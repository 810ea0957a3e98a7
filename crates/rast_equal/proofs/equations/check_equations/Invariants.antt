use Rattle.rast_equal.proofs.Tables.{Rests}
use Rattle.rast_equal.proofs.equations.check_equations.Given as goal

abbrev pub invariant-loop-i : goal.invariant-loop-i
invariant-loop-i l = Rests l.table.defs l.equations l.i
