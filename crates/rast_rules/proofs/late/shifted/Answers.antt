use Rattle.rast_rules.proofs.Lates.{shift_made, shift_failed}
use Rattle.rast_rules.proofs.late.shifted.Goals as goal

pub returns-in-Ok : goal.returns-in-Ok
returns-in-Ok c = λ provided. shift_made c.args.table.now.defs c.args.vars c.args.by.now provided c.args.ty.now c.requires _ c.in-Ok.shifted c.in-Ok.ensures

pub returns-in-Err : goal.returns-in-Err
returns-in-Err c = λ provided. shift_failed c.args.table.now.defs c.args.vars c.args.by.now provided c.args.ty.now c.requires c.in-Err.e c.in-Err.ensures
