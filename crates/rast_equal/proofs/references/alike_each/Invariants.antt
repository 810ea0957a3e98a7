use Rattle.std.proofs.Common.{drop}
use Rattle.std.specs.Prelude.{flat_map}
use Rattle.rast_equal.specs.Fault.{Reduces}
use Rattle.rast_equal.specs.Walk.{alike_at}
use Rattle.rast_equal.proofs.references.alike_each.Given as goal

abbrev pub invariant-loop-met : goal.invariant-loop-met
invariant-loop-met l = Reduces (flat_map alike_at l.mets) (flat_map alike_at (drop l.met-index l.mets))
