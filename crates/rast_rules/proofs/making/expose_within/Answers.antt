use Rattle.rast_types.specs.Symbolic.{made_exposed}
use Rattle.rast_rules.proofs.making.expose_within.Goals as goal

pub returns : goal.returns
returns c = c.settled_head.ensures (made_exposed c.args.table.now.defs c.args.vars c.args.ty.now) c.expose.ensures
