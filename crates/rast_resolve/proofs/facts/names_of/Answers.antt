use Rattle.std.proofs.Common.{rules, ◌≡◌}
use Rattle.rast_resolve.specs.Scopes.{once_from}
use Rattle.rast_resolve.specs.Names.{item_names}
use Rattle.rast_resolve.proofs.Loops.{names_turn}
use Rattle.rast_resolve.proofs.facts.names_of.Goals as goal

pub loop-item-preserved : goal.loop-item-preserved
loop-item-preserved c =
    let more : c.add_item.new.names ≡ once_from c.loop-item.names (item_names c.item-item.result) = search rules in
    names_turn item_names c.args.items.now c.loop-item.item-index c.item-item.result c.loop-item.names _ c.loop-item.invariant c.loop-item-test.true c.item-item.is c.add_item.new.names more
