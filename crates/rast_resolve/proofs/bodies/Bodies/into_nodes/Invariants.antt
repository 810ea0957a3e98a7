use Rattle.std.proofs.Common.{◌≡◌}
use Rattle.std.specs.List.{flat_map}
use Rattle.rast_resolve.proofs.bodies.Bodies.into_nodes.Given as goal

abbrev pub invariant-loop-body : goal.invariant-loop-body
invariant-loop-body l = l.nodes ≡ flat_map (λ b. b) l.yielded
