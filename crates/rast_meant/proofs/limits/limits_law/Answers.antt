use Rattle.rast_meant.proofs.Few.{limited}
use Rattle.rast_meant.proofs.limits.limits_law.Goals as goal

pub returns : goal.returns
returns c = limited
