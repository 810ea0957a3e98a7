use Rattle.std.proofs.Common.{◌∙◌}
use Rattle.std.specs.Str.Parse.{ParsesUnsigned, ExplainsUnsignedError, HasUnsignedDigitsIfOk}
use Rattle.clap.specs.Words.{found_of}
use Rattle.rast_words.proofs.MatchedLemmas.{number_of}
use Rattle.rast_words.proofs.matched.number.Goals as goal

pub returns : goal.returns
returns c = c.unwrap_or.ensures
    ∙ number_of _ (λ bs r. ParsesUnsigned 32 10 bs r × ExplainsUnsignedError 10 bs r × HasUnsignedDigitsIfOk bs r) (λ u x g. g.0) c.args.fallback (found_of c.args.matches.now) c.args.id.now
    c.get_one.result c.get_one.ensures.none c.get_one.ensures.value
