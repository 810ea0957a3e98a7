use Rattle.rast_equal.specs.Equated.{made}
use Rattle.rast_equal.proofs.Exposes.{equation_closed, equation_scope, ticks_false}
use Rattle.rast_equal.proofs.equations.check_ticks.Goals as goal

pub ask_equal-requires-clause-scope : goal.ask_equal-requires-clause-scope
ask_equal-requires-clause-scope c = equation_scope c.args.equation.now c.args.place.now c.requires.place c.requires.fit

pub ask_equal-requires-clause-left : goal.ask_equal-requires-clause-left
ask_equal-requires-clause-left c = equation_closed c.args.equation.now c.args.place.now c.args.sides.0.now.ticks c.requires.place c.requires.left.ticks

pub ask_equal-requires-clause-right : goal.ask_equal-requires-clause-right
ask_equal-requires-clause-right c = equation_closed c.args.equation.now c.args.place.now c.args.sides.1.now.ticks c.requires.place c.requires.right.ticks

pub returns-in-Err : goal.returns-in-Err
returns-in-Err c =
    ticks_false c.args.equations.now c.args.equation.now (made c.args.sides.0.now) (made c.args.sides.1.now) c.args.place.now c.requires.place c.in-Err.why c.in-Err.ensures
