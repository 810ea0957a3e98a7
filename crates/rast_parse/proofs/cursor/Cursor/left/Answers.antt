use Rattle.std.proofs.Common.{sym}
use Rattle.rast_parse.proofs.Words.{length-words}
use Rattle.rast_parse.proofs.cursor.Cursor.left.Goals as goal

pub returns : goal.returns
returns c = sym (length-words _ _)
