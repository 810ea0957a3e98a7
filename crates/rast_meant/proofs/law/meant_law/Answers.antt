use Rattle.rast_meant.proofs.Meant.{meant}
use Rattle.rast_meant.proofs.law.meant_law.Goals as goal

pub returns : goal.returns
returns c = meant
