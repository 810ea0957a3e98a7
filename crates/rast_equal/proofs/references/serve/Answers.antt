use Rattle.std.proofs.Common.{subst}
use Rattle.rast_equal.specs.Shown.{BringsNext}
use Rattle.rast_equal.proofs.Serving.{brought, serving_left, serving_stop}
use Rattle.rast_equal.proofs.references.serve.Goals as goal

pub returns-in_err-used : goal.returns-in_err-used
returns-in_err-used c =
    serving_stop c.args.equations.now c.args.refs.now c.args.pairs c.loop-pairs.used c.loop-pairs.pairs c.next.new.pairs c.as_slice.result.now c.in_err-used.field-0.0 c.from_residual-in_err-used.result
    c.loop-pairs.invariant.reduced (brought c.loop-pairs.pairs c.next.new.pairs c.in_ok-mets.field-0 c.in-Some.mets c.as_slice.result.now c.in_ok-mets.ensures c.in-Some.is c.as_slice.ensures)
    c.in_err-used.ensures c.from_residual-in_err-used.ensures.1

pub returns-then-used-refs : goal.returns-then-used-refs
returns-then-used-refs c =
    serving_left c.args.equations.now c.args.refs.now c.args.pairs c.loop-pairs.used c.loop-pairs.pairs c.loop-pairs.invariant.reduced
    (subst (BringsNext c.loop-pairs.pairs c.next.new.pairs) c.in_default.is c.in_ok-mets.ensures) c.if-used-refs.true
