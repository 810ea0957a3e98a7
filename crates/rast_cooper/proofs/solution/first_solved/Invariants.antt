use Rattle.std.proofs.Common.{◌≡◌, drop}
use Rattle.rast_cooper.specs.Search.{first_solved}
use Rattle.rast_cooper.proofs.solution.first_solved.Given as goal

abbrev pub invariant-loop-lit : goal.invariant-loop-lit
invariant-loop-lit l = first_solved l.ls ≡ first_solved (drop l.lit-index l.ls)
