use Rattle.rast_formula.specs.Linears as terms
use Rattle.rast_resolve.specs.Scopes.{variable_of}
use Rattle.rast_resolve.proofs.Faults.{value_in, fails_in}
use Rattle.rast_resolve.proofs.written.linear.Goals as goal

pub returns-in-Ok : goal.returns-in-Ok
returns-in-Ok c = value_in c.args.item.now (terms.linear_of (variable_of c.args.walked c.args.vars.now) c.args.written.now) c.in-Ok.l c.in-Ok.ensures.gives

pub returns-in-Err : goal.returns-in-Err
returns-in-Err c = fails_in c.args.item.now (terms.linear_of (variable_of c.args.walked c.args.vars.now) c.args.written.now) c.in-Err.fault c.fault_in.result c.in-Err.ensures.gives c.fault_in.ensures
