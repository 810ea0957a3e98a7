use Rattle.std.proofs.Common.{◌+◌, drop}
use Rattle.std.specs.Prelude.{flat_map}
use Rattle.rast_equal.specs.Walk.{alike_at}
use Rattle.rast_equal.proofs.Faults.{decides_from}
use Rattle.rast_equal.proofs.Served.{reduces_step, reduces_stop, alike_next}
use Rattle.rast_equal.proofs.references.alike_each.Goals as goal

pub returns-in_err-alike_at : goal.returns-in_err-alike_at
returns-in_err-alike_at c =
    let ms = c.args.mets.now in
    let i = c.loop-met.met-index in
    decides_from (flat_map alike_at ms) c.in_err-alike_at.field-0.0 c.from_residual.result c.from_residual.ensures.1
    (reduces_stop (flat_map alike_at ms) (flat_map alike_at (drop i ms)) (alike_at c.met-item.result) (flat_map alike_at (drop (i + 1) ms))
    c.in_err-alike_at.field-0.0 c.loop-met.invariant (alike_next ms i c.met-item.result c.loop-met-test.true c.met-item.is) c.in_err-alike_at.ensures)

pub loop-met-preserved : goal.loop-met-preserved
loop-met-preserved c =
    let ms = c.args.mets.now in
    let i = c.loop-met.met-index in
    reduces_step (flat_map alike_at ms) (flat_map alike_at (drop i ms)) (alike_at c.met-item.result) (flat_map alike_at (drop (i + 1) ms))
    c.loop-met.invariant (alike_next ms i c.met-item.result c.loop-met-test.true c.met-item.is) c.in_ok-alike_at.ensures
