use Rattle.std.proofs.Common.{Some}
use Rattle.rast_equal.specs.Fault.{first_fault}
use Rattle.rast_equal.specs.Walk.{by_equation}
use Rattle.rast_eqfind.proofs.Choosing.{answers_of}
use Rattle.rast_eqfind.proofs.choice.test_instance.Goals as goal

pub returns : goal.returns
returns c =
    let points = by_equation (Some c.args.equation.now) c.args.args.now c.args.place.now c.args.left.now c.args.right.now in
    c.tested.ensures (first_fault points) (answers_of points c.ask_instance.result c.ask_instance.ensures)
