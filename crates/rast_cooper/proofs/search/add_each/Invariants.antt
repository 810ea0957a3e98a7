use Rattle.std.proofs.Common.{◌≤◌, length, drop}
use Rattle.rast_cooper.specs.Frames.{Adds}
use Rattle.rast_cooper.specs.Stack.{wholes}
use Rattle.rast_cooper.proofs.search.add_each.Given as goal

abbrev pub invariant-loop-i : goal.invariant-loop-i
invariant-loop-i l = record {
  within : l.i ≤ length l.fs;
  adds : Adds l.fn.claims.items l.claims.items (wholes l.fn.wanted (drop l.i l.fs)) l.fn.rest l.top;
}

abbrev pub decreases-loop-i : goal.decreases-loop-i
decreases-loop-i l = l.i
