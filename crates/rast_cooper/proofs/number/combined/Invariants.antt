use Rattle.rast_cooper.specs.Arithmetic.{sums}
use Rattle.rast_cooper.proofs.Filled.{IsFilled}
use Rattle.rast_cooper.proofs.number.combined.Given as goal

abbrev pub invariant-loop-i : goal.invariant-loop-i
invariant-loop-i l = IsFilled (sums l.base l.fn.factor l.numbers) l.sums l.i
