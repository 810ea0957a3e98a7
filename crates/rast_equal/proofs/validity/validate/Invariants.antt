use Rattle.rast_equal.proofs.Tables.{Remains}
use Rattle.rast_equal.proofs.validity.validate.Given as goal

abbrev pub invariant-loop-i : goal.invariant-loop-i
invariant-loop-i l = Remains l.table.defs l.i
