use Rattle.rast_rules.proofs.Makings.{afforded_ok, afforded_err}
use Rattle.rast_rules.proofs.formulas.afforded.Goals as goal

pub returns-in-Ok : goal.returns-in-Ok
returns-in-Ok c = λ l e. afforded_ok c.args.have.now l _ c.in-Ok.want c.affords.result e c.in-Ok.is c.affords.ensures.same c.affords.ensures.small

pub returns-in-Err : goal.returns-in-Err
returns-in-Err c = λ l e. afforded_err c.args.have.now l _ _ e c.in-Err.is
