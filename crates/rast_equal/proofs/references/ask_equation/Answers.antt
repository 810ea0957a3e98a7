use Rattle.std.proofs.Common.{Option, subst}
use Rattle.rast_types.specs.declared.equation.Equation.{Equation}
use Rattle.rast_equal.specs.Fault.{Decides}
use Rattle.rast_equal.specs.Walk.{by_equation}
use Rattle.rast_equal.proofs.Served.{numbered_fit}
use Rattle.rast_equal.proofs.references.ask_equation.Goals as goal

pub ask_instance-requires-clause-equation : goal.ask_instance-requires-clause-equation
ask_instance-requires-clause-equation c = numbered_fit c.args.equations.now c.args.reference.0 c.in-Some.equation.now c.requires.equations c.in-Some.ensures

pub returns : goal.returns
returns c = subst (λ (o : Option Equation). Decides (by_equation o c.args.reference.1.now c.args.place.now c.args.left.now c.args.right.now) c.ask_instance.result) c.in-Some.ensures c.ask_instance.ensures
