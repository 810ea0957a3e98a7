use Rattle.rast_equal.proofs.Faults.{serves_from, serves_stop}
use Rattle.rast_equal.proofs.references.serve_each.Goals as goal

pub returns-in_err-used : goal.returns-in_err-used
returns-in_err-used c =
    serves_from c.args.equations.now c.args.refs.now c.args.used c.args.mets.now c.in_err-used.field-0.0 c.from_residual.result c.from_residual.ensures.1
    (serves_stop c.args.equations.now c.args.refs.now c.args.used c.loop-met.used c.args.mets.now c.loop-met.met-index c.met-item.result c.in_err-used.field-0.0 c.loop-met-test.true c.met-item.is c.loop-met.invariant c.in_err-used.ensures)
