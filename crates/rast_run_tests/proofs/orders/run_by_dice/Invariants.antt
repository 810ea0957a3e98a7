use Rattle.rast_core.specs.Promises.{IsGoing}
use Rattle.rast_run_tests.proofs.orders.run_by_dice.Given as goal

abbrev pub invariant-loop-turn : goal.invariant-loop-turn
invariant-loop-turn l = IsGoing l.program l.config
