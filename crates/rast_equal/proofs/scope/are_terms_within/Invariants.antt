use Rattle.std.proofs.Common.{take, true}
use Rattle.std.specs.List.{list_all}
use Rattle.rast_index.specs.Linear.{is_closed}
use Rattle.rast_equal.specs.Scoped.{Tests}
use Rattle.rast_equal.proofs.scope.are_terms_within.Given as goal

abbrev pub invariant-loop-l : goal.invariant-loop-l
invariant-loop-l l = Tests l.vars (λ m. list_all (is_closed m) (take l.l-index l.args)) true
