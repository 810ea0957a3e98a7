use Rattle.std.proofs.Common.{◌∙◌, sym}
use Rattle.rast_rules.specs.Rules.{at_args}
use Rattle.rast_rules.proofs.calls.ask_argument.Goals as goal

pub returns-in_ok-taken-in-Ok-clause-asks : goal.returns-in_ok-taken-in-Ok-clause-asks
returns-in_ok-taken-in-Ok-clause-asks c = λ more lasts. c.in_ok-taken-in-Ok.ensures.asks more (at_args c.args.at.now c.args.args.now c.args.ty.now) (sym c.in_ok-made.ensures ∙ c.in-Ok.is) lasts
