use Rattle.std.proofs.Common.{◌≡◌, take, None}
use Rattle.rast_items.specs.Step.{cut, is_proc}
use Rattle.rast_core.proofs.find.find_process.Given as goal

abbrev pub invariant-loop-i : goal.invariant-loop-i
invariant-loop-i l = cut (is_proc l.pid) (take l.i l.items) ≡ None
