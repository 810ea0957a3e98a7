use Rattle.std.proofs.Common.{◌+◌, drop}
use Rattle.rast_check.specs.Questions.{body_questions}
use Rattle.rast_check.proofs.Leads.{asked_stop, leads_step}
use Rattle.rast_check.proofs.Roots.{bodies_asked, bodies_next, body_asked}
use Rattle.rast_check.proofs.body.check_bodies.Goals as goal

pub returns-in_err-check_body : goal.returns-in_err-check_body
returns-in_err-check_body c =
    let g = c.args.program.now in
    let i = c.loop-i.i in
    let d = c.index-decls-i.result in
    asked_stop g (body_questions g) (bodies_asked g i (drop i g.decls)) (body_asked g (i, d)) (bodies_asked g (i + 1) (drop (i + 1) g.decls))
    c.in_err-check_body.field-0.0 c.from_residual.result c.loop-i.invariant (bodies_next g c.as_slice-decls.result.now i d c.as_slice-decls.ensures c.loop-i-test.true c.index-decls-i.is) c.from_residual.ensures.1 c.in_err-check_body.ensures

pub loop-i-preserved : goal.loop-i-preserved
loop-i-preserved c =
    let g = c.args.program.now in
    let i = c.loop-i.i in
    let d = c.index-decls-i.result in
    leads_step g (body_questions g) (bodies_asked g i (drop i g.decls)) (body_asked g (i, d)) (bodies_asked g (i + 1) (drop (i + 1) g.decls))
    c.loop-i.invariant (bodies_next g c.as_slice-decls.result.now i d c.as_slice-decls.ensures c.loop-i-test.true c.index-decls-i.is) c.in_ok-check_body.ensures
