use Rattle.rast_time.proofs.Delays.{said_least, unsaid}
use Rattle.rast_index.specs.declared.formula.Rel.TheVariants.{Ge}
use Rattle.rast_time.proofs.ticks.lasts.Goals as goal

pub returns-in-Ok : goal.returns-in-Ok
returns-in-Ok c = λ n. said_least _ c.in-Ok.ticks c.args.by.now c.at_least.result (c.in-Ok.ensures n).0 c.at_least.ensures.same c.at_least.ensures.small

pub returns-in-Err : goal.returns-in-Err
returns-in-Err c = λ n. unsaid Ge _ c.args.by.now (c.in-Err.ensures n)
