use Rattle.std.proofs.Common.{◌≡◌, drop}
use Rattle.rast_items.specs.Deeds.{large_in, argument_values}
use Rattle.rast_items.proofs.callee.first_large.Given as goal

abbrev pub invariant-loop-arg : goal.invariant-loop-arg
invariant-loop-arg l = large_in (argument_values l.proc (drop l.arg-index l.args)) ≡ large_in (argument_values l.proc l.args)
