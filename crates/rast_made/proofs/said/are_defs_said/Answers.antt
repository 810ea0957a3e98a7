use Rattle.rast_made.specs.WellMade.{names_of_def}
use Rattle.rast_made.proofs.Saying.{said_apart}
use Rattle.rast_made.proofs.said.are_defs_said.Goals as goal

pub returns-then-defs-said : goal.returns-then-defs-said
returns-then-defs-said c = said_apart c.args.program.now names_of_def c.args.defs.now c.args.said.now c.if-defs-said.true
