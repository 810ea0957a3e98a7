use Rattle.std.proofs.Common.{◌≡◌, drop}
use Rattle.rast_index.specs.Keys.{find_key}
use Rattle.rast_items.proofs.took.branch.Given as goal

abbrev pub invariant-loop-name : goal.invariant-loop-name
invariant-loop-name l = find_key l.label (drop l.name-index l.branches) ≡ find_key l.label l.branches
