use Rattle.rast_order.proofs.Pids.{run_keeps_pids}
use Rattle.rast_order.proofs.order.numbers_law.Goals as goal

pub returns : goal.returns
returns c = run_keeps_pids
