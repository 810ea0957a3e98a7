use Rattle.std.proofs.Common.{◌≡◌, drop}
use Rattle.rast_rules.specs.Trail.{any_stops}
use Rattle.rast_judge_tests.proofs.rules.is_stopped.Given as goal

abbrev pub invariant-loop-premise : goal.invariant-loop-premise
invariant-loop-premise l = any_stops (drop l.premise-index l.found) ≡ any_stops l.found
