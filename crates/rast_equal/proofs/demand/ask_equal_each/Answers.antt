use Rattle.std.proofs.Common.{[], ◌∷◌, ◌+◌, drop, arith}
use Rattle.rast_index.specs.Truth.{is_equal}
use Rattle.rast_equal.specs.Walk.{Asks, equal_points}
use Rattle.rast_equal.proofs.Faults.{decides_from, equal_next, equal_end}
use Rattle.rast_equal.proofs.Fits.{term_closed}
use Rattle.rast_equal.proofs.Served.{reduces_step, reduces_stop, nothing_left}
use Rattle.rast_equal.proofs.demand.ask_equal_each.Goals as goal

pub ask_equal-requires-clause-left : goal.ask_equal-requires-clause-left
ask_equal-requires-clause-left c = term_closed c.args.place.now.vars c.args.xs.now c.loop-i.i c.index-xs-i.result (omega arith) c.index-xs-i.is c.requires.left

pub ask_equal-requires-clause-right : goal.ask_equal-requires-clause-right
ask_equal-requires-clause-right c = term_closed c.args.place.now.vars c.args.ys.now c.loop-i.i c.index-ys-i.result (omega arith) c.index-ys-i.is c.requires.right

pub returns-in_err-ask_equal : goal.returns-in_err-ask_equal
returns-in_err-ask_equal c =
    let p = c.args.place.now in
    let xs = c.args.xs.now in
    let ys = c.args.ys.now in
    let i = c.loop-i.i in
    decides_from (equal_points p xs ys) c.in_err-ask_equal.field-0.0 c.from_residual.result c.from_residual.ensures.1
    (reduces_stop (equal_points p xs ys) (equal_points p (drop i xs) (drop i ys)) (Asks p (is_equal c.index-xs-i.result c.index-ys-i.result) ∷ []) (equal_points p (drop (i + 1) xs) (drop (i + 1) ys))
    c.in_err-ask_equal.field-0.0 c.loop-i.invariant (equal_next p xs ys i c.index-xs-i.result c.index-ys-i.result (omega arith) (omega arith) c.index-xs-i.is c.index-ys-i.is) c.in_err-ask_equal.ensures)

pub loop-i-preserved : goal.loop-i-preserved
loop-i-preserved c =
    let p = c.args.place.now in
    let xs = c.args.xs.now in
    let ys = c.args.ys.now in
    let i = c.loop-i.i in
    reduces_step (equal_points p xs ys) (equal_points p (drop i xs) (drop i ys)) (Asks p (is_equal c.index-xs-i.result c.index-ys-i.result) ∷ []) (equal_points p (drop (i + 1) xs) (drop (i + 1) ys))
    c.loop-i.invariant (equal_next p xs ys i c.index-xs-i.result c.index-ys-i.result (omega arith) (omega arith) c.index-xs-i.is c.index-ys-i.is) c.in_ok-ask_equal.ensures

pub returns : goal.returns
returns c =
    let p = c.args.place.now in
    let xs = c.args.xs.now in
    let ys = c.args.ys.now in
    nothing_left (equal_points p xs ys) (equal_points p (drop c.loop-i.i xs) (drop c.loop-i.i ys)) c.loop-i.invariant (equal_end p xs ys c.loop-i.i (omega arith))
