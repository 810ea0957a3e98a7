use Rattle.std.proofs.Common.{◌≡◌, [], replicate}
use Rattle.rast_resolve.proofs.bodies.Bodies.empty.Given as goal

abbrev pub invariant-loop-turn : goal.invariant-loop-turn
invariant-loop-turn l = l.bodies.items ≡ replicate l._turn []
