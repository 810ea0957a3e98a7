use Rattle.rast_order.proofs.Runs.{run_keeps_links}
use Rattle.rast_order.proofs.order.links_law.Goals as goal

pub returns : goal.returns
returns c = run_keeps_links
