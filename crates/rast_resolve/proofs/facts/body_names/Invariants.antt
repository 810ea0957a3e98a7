use Rattle.std.proofs.Common.{◌≡◌, take}
use Rattle.std.specs.List.{flat_map}
use Rattle.rast_resolve.specs.Names.{body_names}
use Rattle.rast_resolve.proofs.facts.body_names.Given as goal

abbrev pub invariant-loop-item : goal.invariant-loop-item
invariant-loop-item l = l.names ≡ flat_map body_names (take l.item-index l.items)
