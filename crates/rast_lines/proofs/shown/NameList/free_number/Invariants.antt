use Rattle.std.proofs.Common.{◌+◌, ◌-◌, length}
use Rattle.rast_lines.specs.Numbers.{AreUsed}
use Rattle.rast_lines.proofs.shown.NameList.free_number.Given as goal

abbrev pub invariant-loop-number : goal.invariant-loop-number
invariant-loop-number l = AreUsed l.self l.name l.number

abbrev pub decreases-loop-number : goal.decreases-loop-number
decreases-loop-number l = length l.self + 1 - l.number
