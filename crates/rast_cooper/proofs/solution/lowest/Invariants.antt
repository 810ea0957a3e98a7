use Rattle.std.proofs.Common.{◌≡◌, ◌-◌, ◌++◌}
use Rattle.rast_cooper.specs.Search.{lowest, lowest_from}
use Rattle.rast_cooper.proofs.solution.lowest.Given as goal

abbrev pub invariant-loop-x : goal.invariant-loop-x
invariant-loop-x l = lowest (l.ls ++ l.rows) ≡ lowest_from l.x (16 - l.x) (l.ls ++ l.rows)
