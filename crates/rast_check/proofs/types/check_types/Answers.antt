use Rattle.rast_check.proofs.Declaring.{types_clear, types_refused}
use Rattle.rast_check.proofs.types.check_types.Goals as goal

pub returns-in-Ok : goal.returns-in-Ok
returns-in-Ok c = types_clear c.args.program.now c.in-Ok.ensures.first c.in-Ok.ensures.holds

pub returns-in-Err : goal.returns-in-Err
returns-in-Err c = types_refused c.args.program.now c.in-Err.why c.bad_type.result c.in-Err.ensures.first c.bad_type.ensures
