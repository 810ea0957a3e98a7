use Rattle.std.proofs.Common.{◌≡◌, ◌++◌, drop}
use Rattle.rast_made.specs.Made.{no_places}
use Rattle.rast_made.proofs.places.no_places.Given as goal

abbrev pub invariant-loop-node : goal.invariant-loop-node
invariant-loop-node l = (l.places ++ no_places (drop l._node-index l.nodes)) ≡ no_places l.nodes
