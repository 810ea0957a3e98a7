use Rattle.std.proofs.Common.{◌+◌, drop, map}
use Rattle.rast_check.specs.Questions.{OfDecl, decl_claims, decl_questions}
use Rattle.rast_check.proofs.Declaring.{decls_asked, decls_next}
use Rattle.rast_check.proofs.Leads.{asked_stop, leads_step}
use Rattle.rast_check.proofs.decls.check_decls.Goals as goal

pub returns-in_err-check_decl : goal.returns-in_err-check_decl
returns-in_err-check_decl c =
    let g = c.args.program.now in
    let i = c.loop-i.i in
    let d = c.index-decls-i.result in
    asked_stop g (decl_questions g) (decls_asked g i (drop i g.decls)) (map (OfDecl i) (decl_claims g d)) (decls_asked g (i + 1) (drop (i + 1) g.decls))
    c.in_err-check_decl.field-0.0 c.from_residual.result c.loop-i.invariant (decls_next g c.as_slice-decls.result.now i d c.as_slice-decls.ensures c.loop-i-test.true c.index-decls-i.is) c.from_residual.ensures.1 c.in_err-check_decl.ensures

pub loop-i-preserved : goal.loop-i-preserved
loop-i-preserved c =
    let g = c.args.program.now in
    let i = c.loop-i.i in
    let d = c.index-decls-i.result in
    leads_step g (decl_questions g) (decls_asked g i (drop i g.decls)) (map (OfDecl i) (decl_claims g d)) (decls_asked g (i + 1) (drop (i + 1) g.decls))
    c.loop-i.invariant (decls_next g c.as_slice-decls.result.now i d c.as_slice-decls.ensures c.loop-i-test.true c.index-decls-i.is) c.in_ok-check_decl.ensures
