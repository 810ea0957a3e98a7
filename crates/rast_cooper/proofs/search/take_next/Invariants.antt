use Rattle.std.proofs.Common.{◌≡◌, List, length}
use Rattle.rast_cooper.specs.declared.literal.Literal.{Literal}
use Rattle.rast_cooper.specs.Frames.{IsStack, waiting}
use Rattle.rast_cooper.proofs.search.take_next.Given as goal

abbrev pub invariant-loop-frame : goal.invariant-loop-frame
invariant-loop-frame l = record {
  states : (rows : List Literal) → waiting rows l.fn.stack ≡ waiting rows l.stack;
  stack : IsStack l.stack;
}

abbrev pub decreases-loop-frame : goal.decreases-loop-frame
decreases-loop-frame l = length l.stack.frames.items
