use Rattle.rast_equal.proofs.Premises.{fails_right}
use Rattle.rast_equal.proofs.equations.check_right.Goals as goal

pub returns-in-Err : goal.returns-in-Err
returns-in-Err c = fails_right c.args.table.now.defs c.args.equations.now c.args.equation.now c.in-Err.why c.requires.left c.in-Err.ensures
