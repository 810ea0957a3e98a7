use Rattle.std.proofs.Common.{◌≡◌, ◌-◌}
use Rattle.rast_resolve.specs.Scopes.{walked_from}
use Rattle.rast_resolve.proofs.variables.walked_variable.Given as goal

abbrev pub invariant-loop-number : goal.invariant-loop-number
invariant-loop-number l = walked_from (16 - l.number) l.number l.name ≡ walked_from (16 - l.vars) l.vars l.name
