use Rattle.rast_types.specs.Symbolic.{made_type, after_delay}
use Rattle.rast_rules.proofs.late.late_type.Goals as goal

pub returns : goal.returns
returns c = λ provided. c.settled.ensures (made_type c.args.vars (after_delay c.args.table.now.defs c.args.vars c.args.by.now provided c.args.ty.now)) (c.shifted.ensures provided)
