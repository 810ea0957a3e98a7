use Rattle.std.proofs.Common.{arith}
use Rattle.std.specs.List.{list_all}
use Rattle.rast_index.specs.Linear.{is_small, tabulate}
use Rattle.rast_eqfind.specs.Read.{argument_of}
use Rattle.rast_eqfind.proofs.Reading.{argument_stops, gives_not, next_argument}
use Rattle.rast_eqfind.proofs.arguments.arguments_from.Goals as goal

pub returns-in_err-argument : goal.returns-in_err-argument
returns-in_err-argument c =
    let f = argument_of c.args.vars c.args.terms.now in
    gives_not (list_all is_small) (tabulate f 0 c.args.count) c.from_residual.result c.from_residual.ensures.1 (argument_stops f c.loop-i.i c.args.count (omega arith) c.in_err-argument.ensures)

pub loop-i-preserved : goal.loop-i-preserved
loop-i-preserved c =
    let next = next_argument (argument_of c.args.vars c.args.terms.now) c.loop-i.i c.loop-i.out c.push.new.self c.in_ok-argument.field-0 c.in_ok-push.ensures.ok c.loop-i.invariant.done c.loop-i.invariant.small c.in_ok-argument.ensures in
    record { done = next.0; small = next.1 }
