use Rattle.std.proofs.Common.{◌≤◌, ◌+◌, ◌*◌, take}
use Rattle.rast_cooper.specs.declared.explore.Course.TheVariants.{Done}
use Rattle.rast_cooper.specs.Course.{Explores}
use Rattle.rast_cooper.specs.Eliminate.{bounds}
use Rattle.rast_cooper.specs.Search.{point_states, bound_states}
use Rattle.rast_cooper.proofs.explore.+explore.Given as goal

abbrev pub decreases-bare : goal.decreases-bare
decreases-bare l = 7 * l.left + 6

abbrev pub decreases-bounds : goal.decreases-bounds
decreases-bounds l = 7 * l.most + 4

abbrev pub decreases-explore : goal.decreases-explore
decreases-explore l = 7 * l.left

abbrev pub decreases-point : goal.decreases-point
decreases-point l = 7 * l.left + 2

abbrev pub decreases-points : goal.decreases-points
decreases-points l = 7 * l.most + 3

abbrev pub decreases-replace : goal.decreases-replace
decreases-replace l = 7 * l.left + 1

abbrev pub decreases-substitute : goal.decreases-substitute
decreases-substitute l = 7 * l.left + 2

abbrev pub decreases-test : goal.decreases-test
decreases-test l = 7 * l.left + 5

abbrev pub invariant-bounds-loop-lit : goal.invariant-bounds-loop-lit
invariant-bounds-loop-lit l = record {
  course : Explores l.fn.most (bound_states l.fn.x (bounds l.fn.x (take l.lit-index l.ls)) l.fn.period l.ls l.rows) (Done l.left);
  at_most : l.left ≤ l.fn.most;
}

abbrev pub invariant-points-loop-j : goal.invariant-points-loop-j
invariant-points-loop-j l = record {
  course : Explores l.fn.most (point_states l.fn.x l.bound 0 l.j l.ls l.rows) (Done l.left);
  at_most : l.left ≤ l.fn.most;
}
