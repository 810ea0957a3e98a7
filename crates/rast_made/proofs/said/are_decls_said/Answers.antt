use Rattle.rast_made.specs.WellMade.{names_of_decl}
use Rattle.rast_made.proofs.Saying.{said_apart}
use Rattle.rast_made.proofs.said.are_decls_said.Goals as goal

pub returns-then-decls-said : goal.returns-then-decls-said
returns-then-decls-said c = said_apart c.args.program.now names_of_decl c.args.decls.now c.args.said.now c.if-decls-said.true
