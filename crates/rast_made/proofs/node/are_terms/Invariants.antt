use Rattle.std.proofs.Common.{◌≡◌, drop}
use Rattle.std.specs.List.{list_all}
use Rattle.rast_index.specs.Linear.{is_closed}
use Rattle.rast_made.proofs.node.are_terms.Given as goal

abbrev pub invariant-loop-term : goal.invariant-loop-term
invariant-loop-term l = list_all (is_closed l.scope.vars) (drop l.term-index l.args) ≡ list_all (is_closed l.scope.vars) l.args
