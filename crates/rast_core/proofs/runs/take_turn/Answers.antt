use Rattle.rast_core.proofs.LookLemmas.{over_limit, over_nothing}
use Rattle.rast_core.proofs.runs.take_turn.Goals as goal

pub returns-in-Limit : goal.returns-in-Limit
returns-in-Limit c = over_limit c.args.program.now c.loop-pid.config c.args.config.now c.in-Limit.pid c.in-Limit.value c.loop-pid.invariant c.in-Limit.ensures

pub returns-in-Nothing : goal.returns-in-Nothing
returns-in-Nothing c = over_nothing c.args.program.now c.loop-pid.config c.args.config.now c.loop-pid.invariant c.in-Nothing.ensures
