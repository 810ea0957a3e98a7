use Rattle.rast_check.proofs.Declaring.{type_clear, type_refused}
use Rattle.rast_check.proofs.decls.check_type.Goals as goal

pub returns-in-Ok : goal.returns-in-Ok
returns-in-Ok c = type_clear c.args.program.now c.args.number c.args.ctx.now.vars c.args.ctx.now.premises c.args.a.now c.requires.premises c.in-Ok.ensures.first c.in-Ok.ensures.holds

pub returns-in-Err : goal.returns-in-Err
returns-in-Err c = type_refused c.args.program.now c.args.number c.args.ctx.now.vars c.args.ctx.now.premises c.args.a.now c.in-Err.why c.bad_decl.result c.requires.premises c.in-Err.ensures.first c.bad_decl.ensures
