use Rattle.std.proofs.Common.{◌≡◌, ◌≤◌, length, drop, true}
use Rattle.rast_cooper.specs.Arithmetic.{at_most}
use Rattle.rast_cooper.specs.Eliminate.{common_over}
use Rattle.rast_cooper.proofs.divisor.common.Given as goal

abbrev pub invariant-loop-i : goal.invariant-loop-i
invariant-loop-i l = record {
  within : l.i ≤ length l.ls;
  value : l.l ≡ common_over l.fn.x (drop l.i l.ls) l.fn.start;
  fits : at_most l.l ≡ true;
}

abbrev pub decreases-loop-i : goal.decreases-loop-i
decreases-loop-i l = l.i
