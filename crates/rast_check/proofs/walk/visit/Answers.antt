use Rattle.rast_check.proofs.Visiting.{limit_refused}
use Rattle.rast_check.proofs.walk.visit.Goals as goal

pub returns-in-Err : goal.returns-in-Err
returns-in-Err c = limit_refused c.args.program.now c.args.waiting c.in-Err.stop c.requires.placed c.in-Err.is
