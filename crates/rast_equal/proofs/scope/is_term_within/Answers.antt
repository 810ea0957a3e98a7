use Rattle.rast_index.specs.Linear.{is_closed}
use Rattle.rast_equal.proofs.Scopes.{tests_term}
use Rattle.rast_equal.proofs.scope.is_term_within.Goals as goal

pub returns : goal.returns
returns c = tests_term c.args.vars (λ m. is_closed m c.args.l.now) c.is_closed.result c.requires c.is_closed.ensures.is c.is_closed.ensures.more c.is_closed.ensures.all
