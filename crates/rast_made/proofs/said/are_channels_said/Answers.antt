use Rattle.rast_made.specs.WellMade.{names_of_channels}
use Rattle.rast_made.proofs.Saying.{said_apart}
use Rattle.rast_made.proofs.said.are_channels_said.Goals as goal

pub returns-then-decls-said : goal.returns-then-decls-said
returns-then-decls-said c = said_apart c.args.program.now names_of_channels c.args.decls.now c.args.said.now c.if-decls-said.true
