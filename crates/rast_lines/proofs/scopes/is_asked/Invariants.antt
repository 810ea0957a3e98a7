use Rattle.std.proofs.Common.{◌≡◌, drop}
use Rattle.std.specs.List.{list_all}
use Rattle.rast_cooper.specs.Verdicts.{is_within}
use Rattle.rast_lines.proofs.scopes.is_asked.Given as goal

abbrev pub invariant-loop-premise : goal.invariant-loop-premise
invariant-loop-premise l = list_all (is_within l.place.vars) (drop l.premise-index l.place.premises) ≡ list_all (is_within l.place.vars) l.place.premises
