use Rattle.std.proofs.Common.{◌≡◌}
use Rattle.rast_cooper.specs.Eliminate.{gcd}
use Rattle.rast_cooper.proofs.divisor.gcd.Given as goal

abbrev pub invariant-loop-y : goal.invariant-loop-y
invariant-loop-y l = gcd l.fn.a l.fn.b ≡ gcd l.x l.y

abbrev pub decreases-loop-y : goal.decreases-loop-y
decreases-loop-y l = l.y
