use Rattle.std.proofs.Common.{◌≡◌, ◌≤◌, ◌++◌, length, map, reverse, zip}
use Rattle.rast_terms.specs.Nodes.{kids}
use Rattle.rast_check.specs.Walk.{waits}
use Rattle.rast_check.proofs.walk.push_all.Given as goal

abbrev pub invariant-loop-judgement : goal.invariant-loop-judgement
invariant-loop-judgement l = record {
  few : length l.below ≤ length (kids l.parent);
  left : l.stack ++ reverse (map (waits l.depth) (zip (kids l.parent) l.below)) ≡ l.fn.stack ++ reverse (map (waits l.depth) (zip (kids l.parent) l.fn.below));
}

abbrev pub decreases-loop-judgement : goal.decreases-loop-judgement
decreases-loop-judgement l = length l.below
