use Rattle.rast_lex.proofs.Answered.{tokens_only, fault_only}
use Rattle.rast_lex.proofs.token.tokens.Goals as goal

pub returns-clause-only : goal.returns-clause-only
returns-clause-only c = tokens_only _ _ c.args.text.now c.cut.result c.cut.ensures

pub returns-clause-only_fault : goal.returns-clause-only_fault
returns-clause-only_fault c = fault_only _ _ c.args.text.now c.cut.result c.cut.ensures
