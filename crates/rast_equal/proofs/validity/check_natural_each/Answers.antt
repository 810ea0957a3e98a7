use Rattle.std.proofs.Common.{[], ◌∷◌, ◌+◌, drop}
use Rattle.rast_equal.specs.Invalid.{natural_claims}
use Rattle.rast_equal.specs.Valid.{Asks, nonneg}
use Rattle.rast_equal.proofs.Claims.{judges_from, leaves_more, leaves_refused, natural_next}
use Rattle.rast_equal.proofs.Fits.{term_closed}
use Rattle.rast_equal.proofs.validity.check_natural_each.Goals as goal

pub check_natural-requires-clause-within : goal.check_natural-requires-clause-within
check_natural-requires-clause-within c = term_closed c.args.ctx.now.vars c.args.terms.now c.loop-l.l-index c.l-item.result c.loop-l-test.true c.l-item.is c.requires.within

pub returns-in_err-check_natural : goal.returns-in_err-check_natural
returns-in_err-check_natural c =
    let n = c.args.ctx.now.vars in
    let ps = c.args.ctx.now.premises in
    let ls = c.args.terms.now in
    let i = c.loop-l.l-index in
    judges_from (natural_claims n ps ls) c.in_err-check_natural.field-0.0 c.from_residual.result c.from_residual.ensures.1
    (leaves_refused (natural_claims n ps ls) (natural_claims n ps (drop i ls)) (Asks 2 n ps (nonneg c.l-item.result) ∷ []) (natural_claims n ps (drop (i + 1) ls))
    c.in_err-check_natural.field-0.0 c.loop-l.invariant (natural_next n ps ls i c.l-item.result c.loop-l-test.true c.l-item.is) c.in_err-check_natural.ensures)

pub loop-l-preserved : goal.loop-l-preserved
loop-l-preserved c =
    let n = c.args.ctx.now.vars in
    let ps = c.args.ctx.now.premises in
    let ls = c.args.terms.now in
    let i = c.loop-l.l-index in
    leaves_more (natural_claims n ps ls) (natural_claims n ps (drop i ls)) (Asks 2 n ps (nonneg c.l-item.result) ∷ []) (natural_claims n ps (drop (i + 1) ls))
    c.loop-l.invariant (natural_next n ps ls i c.l-item.result c.loop-l-test.true c.l-item.is) c.in_ok-check_natural.ensures
