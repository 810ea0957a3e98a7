use Rattle.std.proofs.Common.{map}
use Rattle.rast_index.specs.Linear.{value, whole}
use Rattle.rast_types.proofs.Valued.{Reads}
use Rattle.rast_types.proofs.timing.values_of.Given as goal

abbrev pub invariant-loop-i : goal.invariant-loop-i
invariant-loop-i l = Reads (map (λ x. value x (whole l.values)) l.terms) l.out l.i
