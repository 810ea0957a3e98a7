use Rattle.rast_rules.proofs.Makings.{truth_ok, truth_err}
use Rattle.rast_rules.proofs.formulas.truth.Goals as goal

pub returns-in-Ok : goal.returns-in-Ok
returns-in-Ok c = λ f h. truth_ok f c.in-Ok.goal _ c.in-Ok.is h

pub returns-in-Err : goal.returns-in-Err
returns-in-Err c = λ f h. truth_err f _ _ c.in-Err.is h
