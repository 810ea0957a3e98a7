use Rattle.std.proofs.Common.{◌≡◌, take}
use Rattle.std.specs.List.{flat_map}
use Rattle.rast_resolve.specs.Names.{def_params}
use Rattle.rast_resolve.proofs.facts.def_params.Given as goal

abbrev pub invariant-loop-item : goal.invariant-loop-item
invariant-loop-item l = l.out ≡ flat_map def_params (take l.item-index l.items)
