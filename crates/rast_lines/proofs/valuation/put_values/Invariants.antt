use Rattle.std.proofs.Common.{◌≡◌, ◌++◌, drop}
use Rattle.rast_lines.specs.Lines.{values_from}
use Rattle.rast_lines.proofs.valuation.put_values.Given as goal

abbrev pub invariant-loop-number : goal.invariant-loop-number
invariant-loop-number l = l.text.items ++ values_from l.names l.number (drop l.number l.shown) ≡ l.fn.text.items ++ values_from l.names 0 l.shown
