use Rattle.rast_resolve.proofs.Executed.{main_declared}
use Rattle.rast_resolve.proofs.mains.main_law.Goals as goal

pub returns : goal.returns
returns c = main_declared
