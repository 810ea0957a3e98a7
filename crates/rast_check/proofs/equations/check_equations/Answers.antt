use Rattle.rast_check.proofs.Declaring.{equations_clear, equations_refused}
use Rattle.rast_check.proofs.equations.check_equations.Goals as goal

pub returns-in-Ok : goal.returns-in-Ok
returns-in-Ok c = equations_clear c.args.program.now c.as_slice.result.now c.as_slice.ensures c.in-Ok.ensures.first c.in-Ok.ensures.holds

pub returns-in-Err : goal.returns-in-Err
returns-in-Err c =
    equations_refused c.args.program.now c.as_slice.result.now c.in-Err.why c.bad_equation.result c.as_slice.ensures c.in-Err.ensures.first c.bad_equation.ensures
