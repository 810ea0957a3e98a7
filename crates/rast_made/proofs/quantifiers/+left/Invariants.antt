use Rattle.std.proofs.Common.{◌≡◌, ◌+◌, take}
use Rattle.std.specs.Prelude.{sum_by}
use Rattle.rast_equal.specs.WellMadeTypes.{quantifiers}
use Rattle.rast_made.proofs.quantifiers.+left.Given as goal

abbrev pub invariant-left_each-loop-a : goal.invariant-left_each-loop-a
invariant-left_each-loop-a l = l.rest + sum_by (λ e. quantifiers e.1) (take l.a-index l.ts) ≡ l.have
