use Rattle.std.proofs.Common.{◌≡◌, ◌-◌, ◌++◌, map, take, replicate}
use Rattle.rast_cooper.specs.Rows.{number_of}
use Rattle.rast_cooper.proofs.decision.numbers.Given as goal

abbrev pub invariant-loop-i : goal.invariant-loop-i
invariant-loop-i l = l.values ≡ map number_of (take l.i l.rows) ++ replicate (16 - l.i) 0
