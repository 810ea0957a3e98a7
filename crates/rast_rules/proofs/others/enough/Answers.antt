use Rattle.rast_index.specs.Truth.{is_at_least}
use Rattle.rast_types.specs.Symbolic.{before_delay}
use Rattle.rast_rules.proofs.others.enough.Goals as goal

pub returns : goal.returns
returns c = λ n. c.truth.ensures (is_at_least (before_delay c.args.table.now.defs n c.args.ty.now).ticks c.args.ticks.now) (c.lasts.ensures n)
