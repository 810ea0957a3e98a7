use Rattle.std.proofs.Common.{◌≡◌, drop}
use Rattle.std.specs.List.{list_all}
use Rattle.rast_equal.specs.Walk.{is_among}
use Rattle.rast_equal.proofs.walk.are_among.Given as goal

abbrev pub invariant-loop-label : goal.invariant-loop-label
invariant-loop-label l = list_all (is_among l.ts) (drop l.label-index l.us) ≡ list_all (is_among l.ts) l.us
