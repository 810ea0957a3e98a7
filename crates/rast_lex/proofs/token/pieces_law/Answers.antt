use Rattle.rast_lex.proofs.SeenLaws.{pieces_seen}
use Rattle.rast_lex.proofs.token.pieces_law.Goals as goal

pub returns : goal.returns
returns c = pieces_seen
