use Rattle.rast_eqfind.proofs.Making.{new_fit}
use Rattle.rast_eqfind.proofs.make.make.Goals as goal

pub make_tested-requires-clause-equation : goal.make_tested-requires-clause-equation
make_tested-requires-clause-equation c = new_fit c.in_ok-equation.equation c.args.place.now c.args.left.now c.args.right.now c.in_ok-equation.ensures c.requires.fit
