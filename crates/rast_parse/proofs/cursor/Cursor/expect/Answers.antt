use Rattle.std.proofs.Common.{sym, ◌∙◌}
use Rattle.rast_parse.proofs.Words.{fixed_done, fixed_bad}
use Rattle.rast_parse.proofs.Faults.{wrong_fails}
use Rattle.rast_parse.proofs.cursor.Cursor.expect.Goals as goal

pub returns-then-eq : goal.returns-then-eq
returns-then-eq c = fixed_done _ _ _ _ _ c.requires (c.in-Some.ensures.cases.0) (sym c.eq.ensures ∙ c.if-eq.true)

pub returns-else-eq : goal.returns-else-eq
returns-else-eq c = wrong_fails _ _ _ c.wrong.ensures (fixed_bad _ _ _ _ _ c.requires (c.in-Some.ensures.cases.0) (sym c.eq.ensures ∙ c.if-eq.false))
