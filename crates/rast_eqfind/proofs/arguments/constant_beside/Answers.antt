use Rattle.rast_index.specs.Linear.{variable}
use Rattle.rast_eqfind.proofs.Reading.{constant_great, constant_is, constant_not}
use Rattle.rast_eqfind.proofs.arguments.constant_beside.Goals as goal

pub returns-then-is_closed : goal.returns-then-is_closed
returns-then-is_closed c =
    constant_is c.args.term.now c.variable.result (variable c.args.number) c.variable.ensures c.in-Ok.rest c.is_closed.result c.in-Ok.ensures.difference c.is_closed.ensures.is c.if-is_closed.true

pub returns-else-is_closed : goal.returns-else-is_closed
returns-else-is_closed c =
    constant_not c.args.term.now c.variable.result (variable c.args.number) c.variable.ensures c.in-Ok.rest c.is_closed.result c.in-Ok.ensures.difference c.is_closed.ensures.is c.if-is_closed.false

pub returns-in-Err : goal.returns-in-Err
returns-in-Err c = constant_great c.args.term.now c.variable.result (variable c.args.number) c.variable.ensures c.in-Err.ensures.difference
