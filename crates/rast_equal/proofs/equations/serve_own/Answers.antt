use Rattle.rast_equal.proofs.Premises.{own_refused, own_served}
use Rattle.rast_equal.proofs.equations.serve_own.Goals as goal

pub returns-in-Ok : goal.returns-in-Ok
returns-in-Ok c = own_served c.args.equations.now c.args.own.now c.in-Ok.field-0 c.requires.plain c.in-Ok.ensures

pub returns-in-Err : goal.returns-in-Err
returns-in-Err c = own_refused c.args.equations.now c.args.own.now c.in-Err.why c.requires.plain c.in-Err.ensures
