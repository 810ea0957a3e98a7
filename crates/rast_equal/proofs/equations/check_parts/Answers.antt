use Rattle.rast_equal.specs.Walk.{left, parts_served}
use Rattle.rast_equal.proofs.Premises.{last_fails, last_passes}
use Rattle.rast_equal.proofs.equations.check_parts.Goals as goal

pub returns-in-Ok : goal.returns-in-Ok
returns-in-Ok c = last_passes 5 (parts_served c.args.equations.now c.args.refs.now (left c.args.parts)) c.in-Ok.ensures

pub returns-in-Err : goal.returns-in-Err
returns-in-Err c = last_fails 5 (parts_served c.args.equations.now c.args.refs.now (left c.args.parts)) c.in-Err.why c.in-Err.ensures
