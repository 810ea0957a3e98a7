use Rattle.std.proofs.Common.{◌≡◌, ◌++◌}
use Rattle.rast_lines.specs.Places.{above}
use Rattle.rast_lines.proofs.place.nodes_above.Given as goal

abbrev pub invariant-loop-number : goal.invariant-loop-number
invariant-loop-number l = l.above ++ above l.program l.number l.child ≡ above l.program l.fn.node l.fn.node

abbrev pub decreases-loop-number : goal.decreases-loop-number
decreases-loop-number l = l.number
