use Rattle.std.proofs.Common.{◌≡◌, drop}
use Rattle.std.specs.Prelude.{sum_by}
use Rattle.rast_equal.specs.WellMadeTypes.{quantifiers}
use Rattle.rast_lines.proofs.scopes.+past.Given as goal

abbrev pub invariant-past_each-loop-a : goal.invariant-past_each-loop-a
invariant-past_each-loop-a l = drop (sum_by (λ e. quantifiers e.1) (drop l.a-index l.ts)) l.rest ≡ drop (sum_by (λ e. quantifiers e.1) l.ts) l.left
