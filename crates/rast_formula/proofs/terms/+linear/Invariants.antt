use Rattle.std.proofs.Common.{◌≡◌, ℕ, drop, map, true}
use Rattle.rast_formula.specs.Scopes.{FindsBelow, is_scoped}
use Rattle.rast_formula.specs.Linears.{sums, signed_of}
use Rattle.rast_formula.proofs.Sizes.{lin_size, rest_size, term_size}
use Rattle.rast_formula.proofs.terms.+linear.Given as goal

abbrev pub decreases-linear_of : goal.decreases-linear_of
decreases-linear_of g l = lin_size l.lin.now

abbrev pub decreases-sum : goal.decreases-sum
decreases-sum g l = rest_size l.rest.now

abbrev pub decreases-term : goal.decreases-term
decreases-term g l = term_size l.term.now

abbrev pub invariant-sum-loop-sign : goal.invariant-sum-loop-sign
invariant-sum-loop-sign g l = record {
  is : sums l.total (map (signed_of (g.S.Scope.find l.scope)) (drop l.sign-index l.rest)) ≡ sums l.initial.total (map (signed_of (g.S.Scope.find l.scope)) l.rest);
  scoped : (n : ℕ) → FindsBelow n (g.S.Scope.find l.scope) → is_scoped n l.initial.total ≡ true → is_scoped n l.total ≡ true;
}
