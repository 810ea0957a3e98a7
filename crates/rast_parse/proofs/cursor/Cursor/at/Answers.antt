use Rattle.std.proofs.Common.{◌∙◌}
use Rattle.rast_parse.proofs.Words.{starts_first}
use Rattle.rast_parse.proofs.cursor.Cursor.at.Goals as goal

pub returns-in-Some : goal.returns-in-Some
returns-in-Some c = c.eq.ensures ∙ starts_first _ _ _ _ _ (c.in-Some.ensures.cases.0)
