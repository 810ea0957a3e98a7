use Rattle.std.proofs.Common.{◌≡◌, ◌-◌}
use Rattle.rast_cooper.specs.Search.{ground, free}
use Rattle.rast_cooper.proofs.literal.Literal.is_ground.Given as goal

abbrev pub invariant-loop-x : goal.invariant-loop-x
invariant-loop-x l = ground l.self ≡ free l.x (16 - l.x) l.self
