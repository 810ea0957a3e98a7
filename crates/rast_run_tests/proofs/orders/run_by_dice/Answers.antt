use Rattle.rast_core.specs.Shown.{run_code}
use Rattle.rast_laws.proofs.Begun.{ready_starts}
use Rattle.rast_run_tests.proofs.orders.run_by_dice.Goals as goal

pub start-requires : goal.start-requires
start-requires c = ready_starts (run_code c.args.program.now c.in_ok-plan.plan) (c.requires.runnable c.in_ok-plan.plan c.in_ok-plan.ensures)
