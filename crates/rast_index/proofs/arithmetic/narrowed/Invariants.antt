use Rattle.rast_index.proofs.Filled.{Narrowed}
use Rattle.rast_index.proofs.arithmetic.narrowed.Given as goal

abbrev pub invariant-loop-j : goal.invariant-loop-j
invariant-loop-j l = Narrowed l.numbers l.coefficient l.j
