use Rattle.rast_equal.proofs.Premises.{fails_left}
use Rattle.rast_equal.proofs.equations.check_equation.Goals as goal

pub returns-in-Err : goal.returns-in-Err
returns-in-Err c = fails_left c.args.table.now.defs c.args.equations.now c.args.equation.now c.in-Err.why c.in-Err.ensures
