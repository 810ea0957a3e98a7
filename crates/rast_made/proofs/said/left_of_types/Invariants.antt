use Rattle.std.proofs.Common.{◌≡◌, ◌+◌, take}
use Rattle.std.specs.Prelude.{sum_by}
use Rattle.rast_equal.specs.WellMadeTypes.{quantifiers}
use Rattle.rast_made.proofs.said.left_of_types.Given as goal

abbrev pub invariant-loop-a : goal.invariant-loop-a
invariant-loop-a l = l.rest + sum_by quantifiers (take l.a-index l.types) ≡ l.have
