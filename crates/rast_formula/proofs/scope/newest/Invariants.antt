use Rattle.std.proofs.Common.{◌≡◌, drop}
use Rattle.rast_formula.specs.Scopes.{variable_of, newest_from}
use Rattle.rast_formula.proofs.scope.newest.Given as goal

abbrev pub invariant-loop-bound : goal.invariant-loop-bound
invariant-loop-bound l = newest_from l.found l.name (drop l.bound-index l.scope) ≡ variable_of l.scope l.name
