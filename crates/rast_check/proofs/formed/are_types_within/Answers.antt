use Rattle.std.proofs.Common.{sym, ◌∙◌}
use Rattle.rast_equal.specs.Fit.{is_within_type, IsWithinType}
use Rattle.rast_check.proofs.Testing.{test_step, taken_step}
use Rattle.rast_check.proofs.formed.are_types_within.Goals as goal

pub loop-a-preserved : goal.loop-a-preserved
loop-a-preserved c =
    let xs = c.args.types.now in
    let i = c.loop-a.a-index in
    let x = c.a-item.result in
    record {
      is = test_step (is_within_type c.args.vars) xs i x c.loop-a-test.true c.a-item.is (sym c.is_type_fit.ensures.is ∙ c.if-not-is_type_fit.false) c.loop-a.invariant.is;
      more = taken_step (IsWithinType c.args.vars) xs i x c.loop-a-test.true c.a-item.is (c.is_type_fit.ensures.more c.if-not-is_type_fit.false) c.loop-a.invariant.more;
    }
