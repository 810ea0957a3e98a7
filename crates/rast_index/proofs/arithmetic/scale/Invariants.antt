use Rattle.std.proofs.Common.{◌*ℤ◌, pos}
use Rattle.rast_index.specs.Linear.{part}
use Rattle.rast_index.proofs.Filled.{Filled}
use Rattle.rast_index.proofs.arithmetic.scale.Given as goal

abbrev pub invariant-loop-j : goal.invariant-loop-j
invariant-loop-j l = Filled (λ j. pos l.k *ℤ part l.a j) 17 l.numbers l.j
