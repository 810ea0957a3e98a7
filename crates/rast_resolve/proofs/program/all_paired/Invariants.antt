use Rattle.std.proofs.Common.{◌≡◌, drop}
use Rattle.rast_resolve.specs.Programs.{none_fails, paired}
use Rattle.rast_resolve.proofs.program.all_paired.Given as goal

abbrev pub invariant-loop-item : goal.invariant-loop-item
invariant-loop-item l = none_fails (paired l.known) (drop l.item-index l.items) ≡ none_fails (paired l.known) l.items
