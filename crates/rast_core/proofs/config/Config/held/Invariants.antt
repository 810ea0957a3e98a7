use Rattle.std.proofs.Common.{◌≡◌, ◌+◌}
use Rattle.rast_items.specs.Items.{held}
use Rattle.rast_core.proofs.config.Config.held.Given as goal

abbrev pub invariant-loop-item : goal.invariant-loop-item
invariant-loop-item l = l.total + held l.item-iterator ≡ held l.self.items
