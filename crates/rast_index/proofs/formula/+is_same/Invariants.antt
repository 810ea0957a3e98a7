use Rattle.std.proofs.Common.{◌≡◌, take}
use Rattle.rast_index.proofs.formula.+is_same.Given as goal

abbrev pub invariant-are_same-loop-i : goal.invariant-are_same-loop-i
invariant-are_same-loop-i l = take l.i l.fs ≡ take l.i l.gs
