use Rattle.std.proofs.Common.{◌≡◌, ◌≤◌, List, ℤ, length, map}
use Rattle.rast_index.specs.Linear.{value}
use Rattle.rast_index.specs.Truth.{truth}
use Rattle.rast_index.specs.declared.formula.Formula.{Formula}
use Rattle.rast_index.proofs.Each.{of_gives}
use Rattle.rast_index.proofs.Replaced.{truth_put}
use Rattle.rast_index.proofs.substitution.subst_formula.Goals as goal

pub returns : goal.returns
returns c = record {
  replaced = c.replaced.ensures;
  truth = of_gives (λ (f : Formula). (vs : List ℤ) → length vs ≤ 16 → truth f vs ≡ truth c.args.a.now (map (λ x. value x vs) c.args.args.now)) _ _ c.replaced.ensures (λ vs h. truth_put c.args.args.now vs h c.args.a.now);
}
