use Rattle.std.proofs.Common.{◌≡◌, ◌++◌, drop}
use Rattle.rast_decide.specs.Lines.{values_from}
use Rattle.rast_decide.proofs.line.put_values.Given as goal

abbrev pub invariant-loop-i : goal.invariant-loop-i
invariant-loop-i l = l.line.items ++ values_from l.i (drop l.i l.variables) (drop l.i l.values) ≡ l.initial.line.items ++ values_from 0 l.variables l.values
