-- What true relations say of values.
use Rattle.std.proofs.Common.{◌≡◌, ℕ, ℤ, pos, negsuc, ◌≤◌, Bool, true, false, not, List, refl, sym, ap, ◌∙◌, subst, arith}
use Rattle.std.specs.Prelude.{int_lt}
use Rattle.std.proofs.lemmas.Int.{ints}
use Rattle.rast_index.specs.Linear.{Linear, value, fixed}
use Rattle.rast_index.specs.Truth.{truth, truth_step, related, is_equal, is_at_least}
use Rattle.rast_index.proofs.Values.{value_fixed}
use Rattle.rast_index.proofs.Scope.{int_eq_true}
use Rattle.rast_index.specs.declared.formula.Rel.{Rel}
use Rattle.rast_index.specs.declared.formula.Rel.TheVariants as rel
use Rattle.rast_index.specs.declared.formula.Formula.TheVariants as form
use Rattle.rast_index.specs.declared.formula.Formula.TheOpen as open'
use Rattle.rast_index.specs.declared.formula.Formula.TheFolds.{fold-roll-Formula}
use Rattle.rast_equal.specs.Valid.{nonneg}

pub truth_rel : (a : Linear) (r : Rel) (b : Linear) (vs : List ℤ) → truth (form.Rel a r b) vs ≡ related r (value a vs) (value b vs)
truth_rel a r b vs = ap (λ f. truth f vs) (sym (form.rolls-Rel a r b)) ∙ ap (λ h. h vs) (fold-roll-Formula (List ℤ → Bool) truth_step (open'.Rel a r b))

pub truth_false : (vs : List ℤ) → truth form.False vs ≡ false
truth_false vs = ap (λ f. truth f vs) (sym form.rolls-False) ∙ ap (λ h. h vs) (fold-roll-Formula (List ℤ → Bool) truth_step open'.False)

pub equal_true : (a b : Linear) (vs : List ℤ) → truth (is_equal a b) vs ≡ true → value a vs ≡ value b vs
equal_true a b vs h = int_eq_true (value a vs) (value b vs) (sym (truth_rel a rel.Eq b vs) ∙ h)

not_less : (x : ℤ) (q : ℕ) → not (int_lt x (pos q)) ≡ true → (n : ℕ) × (x ≡ pos n) × (q ≤ n)
not_less (pos n) q h = (n, refl, grind (arith, ints))
not_less (negsuc n) q h = absurd (grind (arith, ints))

-- a term that is at least another with a natural value has a natural value too
pub at_least_true : (a b : Linear) (vs : List ℤ) (q : ℕ) → value b vs ≡ pos q → truth (is_at_least a b) vs ≡ true → (n : ℕ) × (value a vs ≡ pos n) × (q ≤ n)
at_least_true a b vs q e h = not_less (value a vs) q (subst (λ z. not (int_lt (value a vs) z) ≡ true) e (sym (truth_rel a rel.Ge b vs) ∙ h))

pub nonneg_true : (l : Linear) (vs : List ℤ) → truth (nonneg l) vs ≡ true → (n : ℕ) × (value l vs ≡ pos n)
nonneg_true l vs h = let r = at_least_true l (fixed (pos 0)) vs 0 (value_fixed (pos 0) vs) h in (r.0, r.1)
