use Rattle.rast_order.proofs.Runs.{run_is_ordered}
use Rattle.rast_order.proofs.order.order_law.Goals as goal

pub returns : goal.returns
returns c = run_is_ordered
