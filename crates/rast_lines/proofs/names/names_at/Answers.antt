use Rattle.std.proofs.Common.{rules}
use Rattle.rast_lines.proofs.Paths.{names_placed}
use Rattle.rast_lines.proofs.names.names_at.Goals as goal

pub returns-clause-placed : goal.returns-clause-placed
returns-clause-placed c = λ k m path f b way. names_placed c.args.program.now f k m b path c.args.node way _ (search rules)
