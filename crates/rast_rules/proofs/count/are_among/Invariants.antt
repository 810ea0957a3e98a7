use Rattle.std.proofs.Common.{◌≡◌, drop}
use Rattle.std.specs.List.{list_all}
use Rattle.rast_equal.specs.Walk.{is_among}
use Rattle.rast_rules.proofs.count.are_among.Given as goal

abbrev pub invariant-loop-label : goal.invariant-loop-label
invariant-loop-label l = list_all (is_among l.us) (drop l.label-index l.ts) ≡ list_all (is_among l.us) l.ts
