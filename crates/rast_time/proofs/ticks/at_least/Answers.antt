use Rattle.rast_time.proofs.Delays.{small_said}
use Rattle.rast_index.specs.declared.formula.Rel.TheVariants.{Ge}
use Rattle.rast_time.proofs.ticks.at_least.Goals as goal

pub returns-clause-small : goal.returns-clause-small
returns-clause-small c = small_said Ge c.args.a.now c.args.b.now c.again.result c.again-2.result c.again.ensures.same c.again.ensures.small c.again-2.ensures.same c.again-2.ensures.small
