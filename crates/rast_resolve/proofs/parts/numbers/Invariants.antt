use Rattle.std.proofs.Common.{◌≡◌, map, take}
use Rattle.rast_resolve.specs.Scopes.{number_in}
use Rattle.rast_resolve.proofs.parts.numbers.Given as goal

abbrev pub invariant-loop-name : goal.invariant-loop-name
invariant-loop-name l = l.out ≡ map (number_in l.known.names) (take l.name-index l.names)
