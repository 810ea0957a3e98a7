use Rattle.std.proofs.Common.{sym, ◌∙◌}
use Rattle.rast_check.specs.Formed.{is_fit_def}
use Rattle.rast_equal.specs.Fit.{IsFitTypeDef}
use Rattle.rast_check.proofs.Testing.{test_step, taken_step}
use Rattle.rast_check.proofs.formed.are_defs_fit.Goals as goal

pub loop-def-preserved : goal.loop-def-preserved
loop-def-preserved c =
    let xs = c.args.defs.now in
    let i = c.loop-def.def-index in
    let x = c.def-item.result in
    record {
      is = test_step is_fit_def xs i x c.loop-def-test.true c.def-item.is (sym c.is_fit_def.ensures.is ∙ c.if-not-is_fit_def.false) c.loop-def.invariant.is;
      more = taken_step IsFitTypeDef xs i x c.loop-def-test.true c.def-item.is (c.is_fit_def.ensures.more c.if-not-is_fit_def.false) c.loop-def.invariant.more;
    }
