use Rattle.std.proofs.Common.{[], ◌∷◌, ◌+◌, drop}
use Rattle.rast_equal.specs.Valid.{nonneg}
use Rattle.rast_equal.specs.Walk.{Asks, natural_points}
use Rattle.rast_equal.proofs.Faults.{decides_from, natural_next}
use Rattle.rast_equal.proofs.Fits.{term_closed}
use Rattle.rast_equal.proofs.Served.{reduces_step, reduces_stop}
use Rattle.rast_equal.proofs.demand.ask_natural_each.Goals as goal

pub ask_natural-requires-clause-within : goal.ask_natural-requires-clause-within
ask_natural-requires-clause-within c = term_closed c.args.place.now.vars c.args.args.now c.loop-l.l-index c.l-item.result c.loop-l-test.true c.l-item.is c.requires.args

pub returns-in_err-ask_natural : goal.returns-in_err-ask_natural
returns-in_err-ask_natural c =
    let p = c.args.place.now in
    let xs = c.args.args.now in
    let i = c.loop-l.l-index in
    decides_from (natural_points p xs) c.in_err-ask_natural.field-0.0 c.from_residual.result c.from_residual.ensures.1
    (reduces_stop (natural_points p xs) (natural_points p (drop i xs)) (Asks p (nonneg c.l-item.result) ∷ []) (natural_points p (drop (i + 1) xs))
    c.in_err-ask_natural.field-0.0 c.loop-l.invariant (natural_next p xs i c.l-item.result c.loop-l-test.true c.l-item.is) c.in_err-ask_natural.ensures)

pub loop-l-preserved : goal.loop-l-preserved
loop-l-preserved c =
    let p = c.args.place.now in
    let xs = c.args.args.now in
    let i = c.loop-l.l-index in
    reduces_step (natural_points p xs) (natural_points p (drop i xs)) (Asks p (nonneg c.l-item.result) ∷ []) (natural_points p (drop (i + 1) xs))
    c.loop-l.invariant (natural_next p xs i c.l-item.result c.loop-l-test.true c.l-item.is) c.in_ok-ask_natural.ensures
