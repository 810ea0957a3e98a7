use Rattle.std.proofs.Common.{◌≡◌, drop}
use Rattle.rast_index.specs.Keys.{find_key}
use Rattle.rast_rules.proofs.head.has_branch.Given as goal

abbrev pub invariant-loop-key : goal.invariant-loop-key
invariant-loop-key l = find_key l.label (drop l.key-index l.branches) ≡ find_key l.label l.branches
