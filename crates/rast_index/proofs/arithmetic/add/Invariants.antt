use Rattle.std.proofs.Common.{◌+ℤ◌}
use Rattle.rast_index.specs.Linear.{part}
use Rattle.rast_index.proofs.Filled.{Filled}
use Rattle.rast_index.proofs.arithmetic.add.Given as goal

abbrev pub invariant-loop-j : goal.invariant-loop-j
invariant-loop-j l = Filled (λ j. part l.a j +ℤ part l.b j) 17 l.numbers l.j
