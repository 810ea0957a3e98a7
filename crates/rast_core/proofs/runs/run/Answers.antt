use Rattle.std.proofs.Common.{◌+◌, List, length, sym, subst}
use Rattle.rast_core.specs.Words.{Event}
use Rattle.rast_laws.proofs.Begun.{ready_starts}
use Rattle.rast_core.specs.Shown.{run_code}
use Rattle.rast_core.specs.Promises.{IsTurn}
use Rattle.rast_core.specs.declared.runs.Turn.{Turn}
use Rattle.rast_core.proofs.FullRuns.{IsPartRun, part_goes_on, part_going, run_quiet, quiet_outcome, run_used, used_outcome}
use Rattle.rast_core.proofs.runs.run.Goals as goal

pub start-requires : goal.start-requires
start-requires c = ready_starts (run_code c.args.program.now c.args.plan) c.requires

pub take_turn-requires-clause-going : goal.take_turn-requires-clause-going
take_turn-requires-clause-going c = part_going c.args.program.now c.args.plan c.args.budget c.loop-done.config c.loop-done.history.items c.loop-done._done c.requires c.loop-done.invariant

pub returns-in-Over-clause-run : goal.returns-in-Over-clause-run
returns-in-Over-clause-run c =
    run_quiet c.args.program.now c.args.plan c.args.budget c.loop-done.config c.take_turn.new.config c.loop-done.history.items c.loop-done._done c.in-Over.outcome c.requires c.loop-done.invariant
    (subst (λ (t : Turn). IsTurn c.args.program.now c.loop-done.config t c.take_turn.new.config) c.in-Over.is c.in_ok-event.ensures)

pub returns-in-Over-clause-outcome : goal.returns-in-Over-clause-outcome
returns-in-Over-clause-outcome c =
    quiet_outcome c.args.program.now c.loop-done.config c.take_turn.new.config (length c.loop-done.history.items) c.args.budget c.in-Over.outcome
    (subst (λ (t : Turn). IsTurn c.args.program.now c.loop-done.config t c.take_turn.new.config) c.in-Over.is c.in_ok-event.ensures)

pub loop-done-preserved : goal.loop-done-preserved
loop-done-preserved c =
    let t = part_goes_on c.args.program.now c.args.plan c.args.budget c.loop-done.config c.take_turn.new.config c.loop-done.history.items c.loop-done._done c.in-Did.event c.loop-done.invariant
    (subst (λ (t : Turn). IsTurn c.args.program.now c.loop-done.config t c.take_turn.new.config) c.in-Did.is c.in_ok-event.ensures) in
    subst (λ (es : List Event). IsPartRun c.args.program.now c.args.plan c.args.budget c.take_turn.new.config es (c.loop-done._done + 1)) (sym c.in_ok-push-in-Did.ensures.items) t

pub outcome-outcome-requires : goal.outcome-outcome-requires
outcome-outcome-requires c = part_going c.args.program.now c.args.plan c.args.budget c.loop-done.config c.loop-done.history.items c.loop-done._done c.requires c.loop-done.invariant

pub returns-clause-run : goal.returns-clause-run
returns-clause-run c = run_used c.args.program.now c.args.plan c.args.budget c.loop-done.config c.loop-done.history.items c.loop-done._done c.requires c.loop-done.invariant c.loop-done-test.false

pub returns-clause-outcome : goal.returns-clause-outcome
returns-clause-outcome c = used_outcome c.args.program.now c.args.plan c.args.budget c.loop-done.config c.loop-done.history.items c.loop-done._done c.outcome-outcome.result c.loop-done.invariant c.loop-done-test.false c.outcome-outcome.ensures.value
