use Rattle.std.proofs.Common.{◌≡◌, take, None}
use Rattle.rast_items.specs.Step.{cut, is_msg}
use Rattle.rast_core.proofs.find.find_message.Given as goal

abbrev pub invariant-loop-i : goal.invariant-loop-i
invariant-loop-i l = cut (is_msg l.link l.side) (take l.i l.items) ≡ None
