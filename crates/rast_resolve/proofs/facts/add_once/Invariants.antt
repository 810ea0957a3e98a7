use Rattle.std.proofs.Common.{◌≡◌, drop}
use Rattle.rast_resolve.specs.Scopes.{once_from}
use Rattle.rast_resolve.proofs.facts.add_once.Given as goal

abbrev pub invariant-loop-name : goal.invariant-loop-name
invariant-loop-name l = once_from l.names (drop l.name-index l.more) ≡ once_from l.initial.names l.more
