use Rattle.rast_rules.proofs.Makings.{exposed_ok}
use Rattle.rast_rules.proofs.touching.ask_head.Goals as goal

pub returns-in-Ok : goal.returns-in-Ok
returns-in-Ok c = c.ask_exposed-asked.ensures (exposed_ok _ c.in_ok-made.made c.in-Ok.exposed c.in_ok-made.ensures c.in-Ok.is)
