use Rattle.std.proofs.Common.{◌≡◌, drop}
use Rattle.rast_index.specs.Keys.{find_key}
use Rattle.rast_equal.proofs.walk.find.Given as goal

abbrev pub invariant-loop-other : goal.invariant-loop-other
invariant-loop-other l = find_key l.label (drop l.other-index l.ts) ≡ find_key l.label l.ts
