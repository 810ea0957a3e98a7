use Rattle.std.proofs.Common.{ℕ, take, true}
use Rattle.std.specs.List.{list_all}
use Rattle.rast_types.specs.declared.ty.Ty.{Ty}
use Rattle.rast_equal.specs.Fit.{is_within_type}
use Rattle.rast_equal.specs.Scoped.{Tests}
use Rattle.rast_equal.proofs.scope.+is_type_within.Given as goal

abbrev pub invariant-are_types_within-loop-a : goal.invariant-are_types_within-loop-a
invariant-are_types_within-loop-a l = Tests l.vars (λ m. list_all (λ (e : ℕ × Ty). is_within_type m e.1) (take l.a-index l.ts)) true
