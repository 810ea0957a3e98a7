use Rattle.rast_index.specs.Linear.{mixed}
use Rattle.rast_index.proofs.Filled.{Filled}
use Rattle.rast_index.proofs.arithmetic.subst.Given as goal

abbrev pub invariant-loop-j : goal.invariant-loop-j
invariant-loop-j l = Filled (mixed l.a l.args) 17 l.numbers l.j
