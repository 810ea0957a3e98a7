use Rattle.rast_core.proofs.FinishLemmas.{outcome_finishes}
use Rattle.rast_core.proofs.config.Config.outcome.Goals as goal

pub returns-clause-finished : goal.returns-clause-finished
returns-clause-finished c = outcome_finishes c.args.program.now c.args.self.now c.args.events c.args.budget c.how_far.result c.requires c.how_far.ensures
