use Rattle.std.proofs.Common.{◌<◌, ◌^◌, subst}
use Rattle.rast_items.specs.Items.{held}
use Rattle.rast_core.specs.Shown.{Shown}
use Rattle.rast_core.proofs.config.Config.items.Goals as goal

pub returns-clause-potential : goal.returns-clause-potential
returns-clause-potential c = subst (λ (s : Shown). held s.items < 2 ^ 32) c.self.view_is c.self.invariant.2.potential
