use Rattle.std.proofs.Common.{sym, ◌∙◌}
use Rattle.rast_check.specs.Formed.{is_fit_decl, IsFitDecl}
use Rattle.rast_check.proofs.Testing.{taken_all, taken_step, test_step}
use Rattle.rast_check.proofs.formed.are_decls_fit.Goals as goal

pub loop-decl-preserved : goal.loop-decl-preserved
loop-decl-preserved c =
    let xs = c.args.decls.now in
    let i = c.loop-decl.decl-index in
    let x = c.decl-item.result in
    record {
      is = test_step is_fit_decl xs i x c.loop-decl-test.true c.decl-item.is (sym c.is_fit_decl.ensures.is ∙ c.if-not-is_fit_decl.false) c.loop-decl.invariant.is;
      more = taken_step IsFitDecl xs i x c.loop-decl-test.true c.decl-item.is (c.is_fit_decl.ensures.more c.if-not-is_fit_decl.false) c.loop-decl.invariant.more;
    }

pub returns-clause-more : goal.returns-clause-more
returns-clause-more c = λ done. taken_all IsFitDecl c.args.decls.now c.loop-decl.decl-index c.loop-decl-test.false c.loop-decl.invariant.more
