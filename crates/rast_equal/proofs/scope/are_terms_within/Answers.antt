use Rattle.rast_index.specs.Linear.{is_closed}
use Rattle.rast_equal.proofs.Scopes.{tests_stop, tests_taken}
use Rattle.rast_equal.proofs.scope.are_terms_within.Goals as goal

pub returns-then-not-is_term_within : goal.returns-then-not-is_term_within
returns-then-not-is_term_within c =
    tests_stop is_closed c.args.vars c.args.args.now c.loop-l.l-index c.l-item.result c.is_term_within.result c.loop-l-test.true c.l-item.is c.if-not-is_term_within.true c.is_term_within.ensures

pub loop-l-preserved : goal.loop-l-preserved
loop-l-preserved c =
    tests_taken is_closed c.args.vars c.args.args.now c.loop-l.l-index c.l-item.result c.is_term_within.result c.loop-l-test.true c.l-item.is c.if-not-is_term_within.false c.loop-l.invariant c.is_term_within.ensures
