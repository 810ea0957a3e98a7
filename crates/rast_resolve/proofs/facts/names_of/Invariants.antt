use Rattle.std.proofs.Common.{◌≡◌, [], drop}
use Rattle.std.specs.List.{flat_map}
use Rattle.rast_resolve.specs.Scopes.{once_from}
use Rattle.rast_resolve.specs.Names.{item_names}
use Rattle.rast_resolve.proofs.facts.names_of.Given as goal

abbrev pub invariant-loop-item : goal.invariant-loop-item
invariant-loop-item l = once_from l.names (flat_map item_names (drop l.item-index l.items)) ≡ once_from [] (flat_map item_names l.items)
