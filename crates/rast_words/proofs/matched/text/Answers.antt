use Rattle.std.proofs.Common.{refl}
use Rattle.clap.specs.Words.{found_of}
use Rattle.rast_words.proofs.MatchedLemmas.{text_of}
use Rattle.rast_words.proofs.matched.text.Goals as goal

pub returns : goal.returns
returns c = text_of (found_of c.args.matches.now) c.args.id.now c.get_str.result _ c.unwrap_or.result c.get_str.ensures refl c.unwrap_or.ensures
