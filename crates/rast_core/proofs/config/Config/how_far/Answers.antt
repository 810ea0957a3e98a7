use Rattle.std.proofs.Common.{true, false, eq-eqb, ne_eqb}
use Rattle.rast_core.proofs.LookLemmas.{outcome_event, outcome_limit, outcome_nothing}
use Rattle.rast_core.proofs.config.Config.how_far.Goals as goal

pub returns-then-events-budget : goal.returns-then-events-budget
returns-then-events-budget c = outcome_event c.args.program.now c.args.self.now c.in-Event.field-0 c.args.events c.args.budget true c.in-Event.ensures (eq-eqb c.args.events c.args.budget c.if-events-budget.true)

pub returns-else-events-budget : goal.returns-else-events-budget
returns-else-events-budget c = outcome_event c.args.program.now c.args.self.now c.in-Event.field-0 c.args.events c.args.budget false c.in-Event.ensures (ne_eqb c.args.events c.args.budget c.if-events-budget.false)

pub returns-in-Limit : goal.returns-in-Limit
returns-in-Limit c = outcome_limit c.args.program.now c.args.self.now c.in-Limit.pid c.in-Limit.value c.args.events c.args.budget c.in-Limit.ensures

pub returns-in-Nothing : goal.returns-in-Nothing
returns-in-Nothing c = outcome_nothing c.args.program.now c.args.self.now c.args.events c.args.budget c.in-Nothing.ensures
