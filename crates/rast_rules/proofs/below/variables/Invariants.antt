use Rattle.std.proofs.Common.{◌≡◌}
use Rattle.rast_index.specs.Linear.{variables}
use Rattle.rast_rules.proofs.below.variables.Given as goal

abbrev pub invariant-loop-number : goal.invariant-loop-number
invariant-loop-number l = l.out ≡ variables l.number
