use Rattle.std.proofs.Common.{arith, refl, ap, subst, ◌∙◌}
use Rattle.std.proofs.lemmas.Option.{slice_get_within}
use Rattle.rast_core.specs.Words.{Client, Provider, Side, P, Proc}
use Rattle.rast_items.specs.Step.{is_proc}
use Rattle.rast_items.specs.Slack.{IsItemSlack}
use Rattle.rast_items.specs.declared.action.Action.{Action}
use Rattle.rast_items.specs.declared.action.Action.TheVariants as action
use Rattle.rast_core.specs.Shown.{run_code}
use Rattle.rast_core.specs.Edits.{KeepsPid}
use Rattle.rast_core.proofs.Cuts.{free_before}
use Rattle.rast_core.proofs.MessageSteps.{potential_within}
use Rattle.rast_equal.proofs.Every.{all_get}
use Rattle.rast_core.proofs.DecideLemmas.{of_action, rule_of, put_decided, turn_decided, work_decided, delay_decided, make_decided}
use Rattle.rast_core.proofs.decide.decide_action.Goals as goal

pub take_below-requires-clause-own : goal.take_below-requires-clause-own
take_below-requires-clause-own c = omega (arith, potential_within c.args.items.now c.args.place (P c.args.proc.now) c.requires.at, c.requires.potential)

pub take_below-requires-clause-fits : goal.take_below-requires-clause-fits
take_below-requires-clause-fits c = rule_of c.args.program.now c.args.items.now c.args.place c.args.proc.now c.args.action (action.Take c.in-Take.link Client) c.requires.rule (c.in-Take.is ∙ ap (λ (s : Side). action.Take c.in-Take.link s) c.in-Client.is)

pub take_above-requires-clause-fits : goal.take_above-requires-clause-fits
take_above-requires-clause-fits c = rule_of c.args.program.now c.args.items.now c.args.place c.args.proc.now c.args.action (action.Take c.in-Take.link Provider) c.requires.rule (c.in-Take.is ∙ ap (λ (s : Side). action.Take c.in-Take.link s) c.in-Provider.is)

pub unreachable-requires : goal.unreachable-requires
unreachable-requires c = (rule_of c.args.program.now c.args.items.now c.args.place c.args.proc.now c.args.action action.Breaks c.requires.rule c.in-Breaks.is).1 refl

pub take_above-requires-clause-at : goal.take_above-requires-clause-at
take_above-requires-clause-at c = slice_get_within c.args.items.now c.args.place (P c.args.proc.now) c.requires.at

pub take_above-requires-clause-slack : goal.take_above-requires-clause-slack
take_above-requires-clause-slack c = (all_get (IsItemSlack 1) c.args.items.now c.args.place (P c.args.proc.now) c.requires.slack c.requires.at).0

pub take_above-requires-clause-own : goal.take_above-requires-clause-own
take_above-requires-clause-own c = omega (arith, potential_within c.args.items.now c.args.place (P c.args.proc.now) c.requires.at, c.requires.potential)

pub forward-requires : goal.forward-requires
forward-requires c = slice_get_within c.args.items.now c.args.place (P c.args.proc.now) c.requires.at

pub returns-in-Put : goal.returns-in-Put
returns-in-Put c = λ plan d e.
    of_action (run_code c.args.program.now plan) c.args.items.now c.args.place c.args.proc.now _ c.args.action (action.Put c.in-Put.msg c.in-Put.rest) d
    (put_decided (run_code c.args.program.now plan) c.args.items.now c.args.place c.args.proc.now c.proc.inside.pid c.in-Put.msg c.in-Put.rest c.put.result (slice_get_within c.args.items.now c.args.place (P c.args.proc.now) c.requires.at) (ap (λ (q : Proc). q.pid) c.proc.view_is) c.put.ensures) (c.in-Put.is) e

pub returns-in-Client : goal.returns-in-Client
returns-in-Client c = λ plan d e.
    of_action (run_code c.args.program.now plan) c.args.items.now c.args.place c.args.proc.now _ c.args.action (action.Take c.in-Take.link Client) d
    (c.take_below.ensures plan) (c.in-Take.is ∙ ap (λ (s : Side). action.Take c.in-Take.link s) c.in-Client.is) e

pub returns-in-Provider : goal.returns-in-Provider
returns-in-Provider c = λ plan d e.
    of_action (run_code c.args.program.now plan) c.args.items.now c.args.place c.args.proc.now _ c.args.action (action.Take c.in-Take.link Provider) d
    (c.take_above.ensures plan) (c.in-Take.is ∙ ap (λ (s : Side). action.Take c.in-Take.link s) c.in-Provider.is) e

pub returns-in-Move : goal.returns-in-Move
returns-in-Move c = λ plan d e.
    of_action (run_code c.args.program.now plan) c.args.items.now c.args.place c.args.proc.now _ c.args.action (action.Move c.in-Move.other c.in-Move.wait) d
    (c.forward.ensures) (c.in-Move.is) e

pub returns-in-Make : goal.returns-in-Make
returns-in-Make c = λ plan d e.
    of_action (run_code c.args.program.now plan) c.args.items.now c.args.place c.args.proc.now _ c.args.action (action.Make c.in-Make.child c.in-Make.rest c.in-Make.decl) d
    (make_decided (run_code c.args.program.now plan) c.args.items.now c.args.place c.args.proc.now c.in-Make.child c.in-Make.rest c.proc.inside.pid c.child.inside.pid c.in-Make.decl c.rest.inside.moment c.rest-in-Make.inside.spawned (slice_get_within c.args.items.now c.args.place (P c.args.proc.now) c.requires.at) (free_before (is_proc c.args.proc.now.pid) c.args.items.now c.args.place c.requires.here) (subst (λ (a : Action). KeepsPid c.args.proc.now.pid a) c.in-Make.is c.requires.pid) (ap (λ (q : Proc). q.pid) c.proc.view_is) (ap (λ (q : Proc). q.pid) c.child.view_is) (ap (λ (q : Proc). q.moment) c.rest.view_is) (ap (λ (q : Proc). q.spawned) c.rest-in-Make.view_is)) (c.in-Make.is) e

pub returns-in-Turn : goal.returns-in-Turn
returns-in-Turn c = λ plan d e.
    of_action (run_code c.args.program.now plan) c.args.items.now c.args.place c.args.proc.now _ c.args.action (action.Turn c.in-Turn.rest c.in-Turn.decl) d
    (turn_decided (run_code c.args.program.now plan) c.args.items.now c.args.place c.args.proc.now c.in-Turn.rest c.proc.inside.pid c.in-Turn.decl c.rest-in-Turn.inside.moment (slice_get_within c.args.items.now c.args.place (P c.args.proc.now) c.requires.at) (ap (λ (q : Proc). q.pid) c.proc.view_is) (ap (λ (q : Proc). q.moment) c.rest-in-Turn.view_is)) (c.in-Turn.is) e

pub returns-in-Work : goal.returns-in-Work
returns-in-Work c = λ plan d e.
    of_action (run_code c.args.program.now plan) c.args.items.now c.args.place c.args.proc.now _ c.args.action (action.Work c.in-Work.amount c.in-Work.rest) d
    (work_decided (run_code c.args.program.now plan) c.args.items.now c.args.place c.args.proc.now c.in-Work.rest c.proc.inside.pid c.in-Work.amount c.rest-in-Work.inside.moment (slice_get_within c.args.items.now c.args.place (P c.args.proc.now) c.requires.at) (ap (λ (q : Proc). q.pid) c.proc.view_is) (ap (λ (q : Proc). q.moment) c.rest-in-Work.view_is)) (c.in-Work.is) e

pub returns-in-Delay : goal.returns-in-Delay
returns-in-Delay c = λ plan d e.
    of_action (run_code c.args.program.now plan) c.args.items.now c.args.place c.args.proc.now _ c.args.action (action.Delay c.in-Delay.ticks c.in-Delay.rest) d
    (delay_decided (run_code c.args.program.now plan) c.args.items.now c.args.place c.args.proc.now c.in-Delay.rest c.proc.inside.pid c.in-Delay.ticks c.rest-in-Delay.inside.moment (slice_get_within c.args.items.now c.args.place (P c.args.proc.now) c.requires.at) (ap (λ (q : Proc). q.pid) c.proc.view_is) (ap (λ (q : Proc). q.moment) c.rest-in-Delay.view_is)) (c.in-Delay.is) e
