use Rattle.std.proofs.Common.{◌≡◌, ◌≤◌, length, drop, true}
use Rattle.rast_cooper.specs.Arithmetic.{at_most}
use Rattle.rast_cooper.specs.Eliminate.{period}
use Rattle.rast_cooper.proofs.divisor.period.Given as goal

abbrev pub invariant-loop-i : goal.invariant-loop-i
invariant-loop-i l = record {
  within : l.i ≤ length l.ls;
  value : l.l ≡ period l.fn.x (drop l.i l.ls);
  fits : at_most l.l ≡ true;
}

abbrev pub decreases-loop-i : goal.decreases-loop-i
decreases-loop-i l = l.i
