use Rattle.rast_equal.proofs.Premises.{accepts_exposed, exposed_fit, fails_exposed}
use Rattle.rast_equal.proofs.equations.check_opened.Goals as goal

pub check_exposed-checked-requires-clause-left : goal.check_exposed-checked-requires-clause-left
check_exposed-checked-requires-clause-left c = exposed_fit c.args.table.now.defs c.args.equation.now.vars c.args.equation.now.left c.in-Ok.left c.requires.defs c.requires.fit.left c.in-Ok.ensures.0

pub check_exposed-checked-requires-clause-right : goal.check_exposed-checked-requires-clause-right
check_exposed-checked-requires-clause-right c = exposed_fit c.args.table.now.defs c.args.equation.now.vars c.args.equation.now.right c.in-Ok.right c.requires.defs c.requires.fit.right c.in-Ok.ensures.1

pub returns-in-Ok : goal.returns-in-Ok
returns-in-Ok c =
    accepts_exposed c.args.table.now.defs c.args.equations.now c.args.equation.now c.in-Ok.left c.in-Ok.right c.check_exposed-checked.result c.requires.left c.requires.right c.in-Ok.ensures c.check_exposed-checked.ensures

pub returns-in-Err : goal.returns-in-Err
returns-in-Err c = fails_exposed c.args.table.now.defs c.args.equations.now c.args.equation.now c.in-Err.why c.requires.left c.requires.right c.in-Err.ensures
