use Rattle.std.proofs.Common.{◌≡◌, ◌-◌}
use Rattle.rast_cooper.specs.Search.{unit, unit_from}
use Rattle.rast_cooper.proofs.solution.unit.Given as goal

abbrev pub invariant-loop-x : goal.invariant-loop-x
invariant-loop-x l = unit l.term ≡ unit_from l.x (16 - l.x) l.term
