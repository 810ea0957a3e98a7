use Rattle.std.proofs.Common.{◌∙◌}
use Rattle.rast_rules.proofs.Single.{none_sound}
use Rattle.rast_rules.proofs.judged.judgements.Goals as goal

pub add_all-requires-clause-old : goal.add_all-requires-clause-old
add_all-requires-clause-old c = none_sound c.args.program.now c.in_ok-judged.judged (c.in_ok-judged.ensures.size ∙ c.len.ensures) c.in_ok-judged.ensures.none
