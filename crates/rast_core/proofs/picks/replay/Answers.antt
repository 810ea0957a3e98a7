use Rattle.std.proofs.Common.{arith, ◌≡◌, ◌+◌, List, Some, refl, sym, subst, get_or}
use Rattle.std.specs.Prelude.{slice_get}
use Rattle.std.proofs.lemmas.Option.{slice_get-get_or}
use Rattle.rast_core.specs.Words.{Event}
use Rattle.rast_items.specs.Items.{pid_at}
use Rattle.rast_laws.proofs.Begun.{ready_starts}
use Rattle.rast_core.specs.Shown.{run_code}
use Rattle.rast_core.specs.Promises.{IsRefusedAt}
use Rattle.rast_core.proofs.PickLemmas.{IsPartReplay, picks_going, picks_go_on, picks_stop, picks_end}
use Rattle.rast_core.proofs.picks.replay.Goals as goal

pub start-requires : goal.start-requires
start-requires c = ready_starts (run_code c.args.program.now c.args.plan) c.requires.ready

pub step-requires-clause-going : goal.step-requires-clause-going
step-requires-clause-going c = picks_going c.args.program.now c.args.plan c.args.picks.now c.loop-place.config c.loop-place.history.items c.loop-place.place c.requires.ready c.loop-place.invariant

pub returns-in_default : goal.returns-in_default
returns-in_default c =
    let picks = c.args.picks.now in
    let place = c.loop-place.place in
    let pid = get_or picks place (pid_at 0) in
    let h : slice_get picks place ≡ Some pid = slice_get-get_or picks place (pid_at 0) c.loop-place-test.true in
    let stop = picks_stop c.args.program.now c.args.plan picks c.loop-place.config c.step.new.self c.loop-place.history.items place pid c.step.result c.loop-place.invariant h c.step.ensures.step c.in_default.not-Ready in
    record { run = tt; refused = subst (IsRefusedAt c.args.program.now c.args.plan picks) (sym c.refused.ensures) stop }

pub loop-place-preserved : goal.loop-place-preserved
loop-place-preserved c =
    let g = c.args.program.now in
    let picks = c.args.picks.now in
    let place = c.loop-place.place in
    let e = c.in-Ready.event in
    let pid = get_or picks place (pid_at 0) in
    let h : slice_get picks place ≡ Some pid = slice_get-get_or picks place (pid_at 0) c.loop-place-test.true in
    let t = picks_go_on g c.args.plan picks c.loop-place.config c.step.new.self c.loop-place.history.items place pid e c.loop-place.invariant h c.in-Ready.ensures.step (c.in-Ready.ensures.potential e refl) in
    subst (λ (es : List Event). IsPartReplay g c.args.plan picks c.step.new.self es (place + 1)) (sym c.in_ok-push-in-Ready.ensures.items) t

pub returns-clause-run : goal.returns-clause-run
returns-clause-run c = picks_end c.args.program.now c.args.plan c.args.picks.now c.loop-place.config c.loop-place.history.items c.loop-place.place c.requires.ready c.loop-place.invariant (let k = c.loop-place-test.false in omega (arith, k))
