use Rattle.rast_time.proofs.Shifts.{shift_ok, shift_great, shift_err}
use Rattle.rast_time.proofs.shifting.shift.Goals as goal

pub returns-in_ok-sooner-in-Ok-sub : goal.returns-in_ok-sooner-in-Ok-sub
returns-in_ok-sooner-in-Ok-sub c =
    shift_ok c.args.table.now.defs c.args.vars c.args.ty.now c.args.by.now c.in-Ok.found c.in-Ok-sub.rest c.at_least-goal.result c.in_ok-sooner-in-Ok-sub.sooner c.in-Ok.ensures c.in-Ok-sub.ensures.difference c.at_least-goal.ensures.same c.in_ok-sooner-in-Ok-sub.ensures

pub returns-in-Err-sub : goal.returns-in-Err-sub
returns-in-Err-sub c = shift_great c.args.table.now.defs c.args.vars c.args.ty.now c.args.by.now c.in-Ok.found c.in-Ok.ensures c.in-Err-sub.ensures.difference

pub returns-in-Err : goal.returns-in-Err
returns-in-Err c = shift_err c.args.table.now.defs c.args.vars c.args.ty.now c.args.by.now c.in-Err.e c.in-Err.ensures
