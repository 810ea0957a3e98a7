use Rattle.std.proofs.Common.{◌≡◌, drop}
use Rattle.rast_eqfind.specs.Read.{first_read}
use Rattle.rast_eqfind.proofs.arguments.first_read.Given as goal

abbrev pub invariant-loop-term : goal.invariant-loop-term
invariant-loop-term l = first_read l.number l.terms ≡ first_read l.number (drop l.term-index l.terms)
