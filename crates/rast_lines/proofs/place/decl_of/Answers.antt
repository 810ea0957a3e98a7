use Rattle.std.proofs.Common.{rules}
use Rattle.rast_lines.proofs.Paths.{placed}
use Rattle.rast_lines.proofs.place.decl_of.Goals as goal

pub returns-clause-placed : goal.returns-clause-placed
returns-clause-placed c = λ k m path f b way. placed c.args.program.now f k m b path c.args.node way _ _ (search rules) c.requires
