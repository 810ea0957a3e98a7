use Rattle.std.proofs.Common.{subst, sym}
use Rattle.rast_equal.specs.Fit.{AreClosed}
use Rattle.rast_equal.proofs.Demands.{name_args}
use Rattle.rast_equal.proofs.demand.ask_name.Goals as goal

pub ask_equal_each-requires-clause-left : goal.ask_equal_each-requires-clause-left
ask_equal_each-requires-clause-left c = subst (AreClosed c.args.place.now.vars) (sym c.as_slice.ensures) (name_args c.args.place.now.vars c.args.left.now c.in-Named.k c.in-Named.xs c.in-Named.is c.requires.left)

pub ask_equal_each-requires-clause-right : goal.ask_equal_each-requires-clause-right
ask_equal_each-requires-clause-right c = subst (AreClosed c.args.place.now.vars) (sym c.as_slice-2.ensures) (name_args c.args.place.now.vars c.args.right.now c.in-Named-right.j c.in-Named-right.ys c.in-Named-right.is c.requires.right)
