use Rattle.rast_equal.proofs.Exposes.{equation_scope}
use Rattle.rast_eqfind.proofs.walk.open_sides.Goals as goal

pub open_heads-requires-clause-scope : goal.open_heads-requires-clause-scope
open_heads-requires-clause-scope c = equation_scope c.args.equation.now c.in_ok-place.place c.in_ok-place.ensures c.requires.fit
