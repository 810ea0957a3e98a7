use Rattle.std.proofs.Common.{◌∙◌, sym}
use Rattle.rast_time.proofs.Shifts.{unfolded_ok, unfolded_err, copied_ok, copied_err}
use Rattle.rast_time.proofs.shifting.before.Goals as goal

pub returns-in-Ok : goal.returns-in-Ok
returns-in-Ok c = unfolded_ok c.args.table.now.defs c.args.vars c.args.ty.now (sym (c.is_timed.ensures c.args.vars) ∙ c.if-is_timed.true) c.in-Ok.unfolded c.taken_off.result c.in-Ok.ensures c.taken_off.ensures

pub returns-in-Err : goal.returns-in-Err
returns-in-Err c = unfolded_err c.args.table.now.defs c.args.vars c.args.ty.now (sym (c.is_timed.ensures c.args.vars) ∙ c.if-is_timed.true) c.in-Err.e c.in-Err.ensures

pub returns-in-Ok-copy_within : goal.returns-in-Ok-copy_within
returns-in-Ok-copy_within c = copied_ok c.args.table.now.defs c.args.vars c.args.ty.now (sym (c.is_timed.ensures c.args.vars) ∙ c.if-is_timed.false) c.nought.result c.in-Ok-copy_within.head c.nought.ensures c.in-Ok-copy_within.ensures

pub returns-in-Err-copy_within : goal.returns-in-Err-copy_within
returns-in-Err-copy_within c = copied_err c.args.table.now.defs c.args.vars c.args.ty.now (sym (c.is_timed.ensures c.args.vars) ∙ c.if-is_timed.false) c.in-Err-copy_within.e c.in-Err-copy_within.ensures
