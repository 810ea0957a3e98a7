use Rattle.std.proofs.Common.{◌+◌, [], drop, map, refl}
use Rattle.rast_equal.specs.Valid.{claims_of}
use Rattle.rast_rules.specs.Rules.{defs}
use Rattle.rast_check.specs.Questions.{OfDecl}
use Rattle.rast_check.proofs.Declaring.{uses_asked, uses_next}
use Rattle.rast_check.proofs.Leads.{asked_stop, leads_start, leads_step}
use Rattle.rast_check.proofs.decls.check_uses.Goals as goal

pub loop-a-init : goal.loop-a-init
loop-a-init c = let u = uses_asked c.args.program.now c.args.number c.args.ctx.now.vars c.args.uses.now in leads_start c.args.program.now u u refl

pub loop-a-preserved : goal.loop-a-preserved
loop-a-preserved c =
    let g = c.args.program.now in
    let n = c.args.ctx.now.vars in
    let us = c.args.uses.now in
    let i = c.loop-a.a-index in
    leads_step g (uses_asked g c.args.number n us) (uses_asked g c.args.number n (drop i us)) (map (OfDecl c.args.number) (claims_of (defs g) n [] c.a-item.result)) (uses_asked g c.args.number n (drop (i + 1) us))
    c.loop-a.invariant (uses_next g c.args.number n us i c.a-item.result c.loop-a-test.true c.a-item.is) c.in_ok-check_type.ensures

pub returns-in_err-check_type : goal.returns-in_err-check_type
returns-in_err-check_type c =
    let g = c.args.program.now in
    let n = c.args.ctx.now.vars in
    let us = c.args.uses.now in
    let i = c.loop-a.a-index in
    asked_stop g (uses_asked g c.args.number n us) (uses_asked g c.args.number n (drop i us)) (map (OfDecl c.args.number) (claims_of (defs g) n [] c.a-item.result)) (uses_asked g c.args.number n (drop (i + 1) us))
    c.in_err-check_type.field-0.0 c.from_residual.result c.loop-a.invariant (uses_next g c.args.number n us i c.a-item.result c.loop-a-test.true c.a-item.is) c.from_residual.ensures.1 c.in_err-check_type.ensures
