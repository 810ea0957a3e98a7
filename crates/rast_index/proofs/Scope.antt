-- Terms and formulas without variables from some number on: numbers added behind a valuation do not matter.
use Rattle.std.proofs.Common.{◌≡◌, ℕ, zero, suc, ◌+◌, ◌<◌, ◌≤◌, List, [], ◌∷◌, ◌++◌, length, get_or, map, sym, ◌∙◌, ap, ap₂, refl, arith, ℤ, pos, ◌+ℤ◌, ◌*ℤ◌, Bool, true, false, not, ◌&&◌, ◌||◌, int_lt, ◌==◌, if◌then◌else◌, cond, eq-eqb}
use Rattle.std.specs.List.{list_all, list_any}
use Rattle.std.proofs.lemmas.Int.{ints}
use Rattle.std.proofs.lemmas.Bool.{ne_eqb}
use Rattle.rast_index.specs.Linear.{Linear, value, weighted, tabulate, int_eq, is_closed, variable}
use Rattle.rast_index.specs.Truth.{truth, truth_step, is_closed_formula, closed_step, related, divides}
use Rattle.rast_index.specs.declared.formula.Formula.{Formula, roll-Formula}
use Rattle.rast_index.specs.declared.formula.Formula.TheOpen.{Formula-F, True, False, Rel, Div, Not, And, Or, Imp}
use Rattle.rast_index.specs.declared.formula.Formula.TheFolds.{map-Formula, fold-roll-Formula}
use Rattle.rast_index.proofs.Whole.{zero_mul_ℤ}
use Rattle.rast_index.proofs.Values.{tabulate_suc, weighted_none, listed}
use Rattle.rast_index.proofs.Replaced.{Such, bare, induction, truth_at}

pub both_true : (a b : Bool) → (a && b) ≡ true → (a ≡ true) × (b ≡ true)
both_true true b e = (refl, e)
both_true false b e = absurd (cc)

not_true : (b : Bool) → not b ≡ true → b ≡ false
not_true true e = absurd (cc)
not_true false e = refl

not_apart : (a b : ℤ) → int_lt a b ≡ false → int_lt b a ≡ false → a ≡ b
not_apart a b e f = grind (arith, ints)

-- what the test of two numbers tells
pub int_eq_true : (a b : ℤ) → int_eq a b ≡ true → a ≡ b
int_eq_true a b e = let h = both_true (not (int_lt a b)) _ e in not_apart a b (not_true _ h.0) (not_true _ h.1)

all_zero : (cs vs : List ℤ) → list_all (λ c. int_eq c (pos 0)) cs ≡ true → weighted cs vs ≡ pos 0
all_zero [] vs e = refl
all_zero (c ∷ cs) [] e = refl
all_zero (c ∷ cs) (v ∷ vs) e =
    let h = both_true (int_eq c (pos 0)) _ e in
    let z = int_eq_true c (pos 0) h.0 in
    let p = zero_mul_ℤ v in
    let q = ap (λ x. x *ℤ v) z in
    omega (arith, ints, p, q, all_zero cs vs h.1)

closed_list : (k : ℕ) (cs vs ws : List ℤ) → length ws ≤ k → list_all (λ c. int_eq c (pos 0)) (tabulate (λ j. get_or cs j (pos 0)) (length vs) k) ≡ true →
    weighted cs (vs ++ ws) ≡ weighted cs vs
closed_list k cs [] ws few h = sym (listed cs k ws few) ∙ all_zero (tabulate (λ j. get_or cs j (pos 0)) 0 k) ws h ∙ sym (weighted_none cs)
closed_list k [] (v ∷ vs) ws few h = refl
closed_list k (c ∷ cs) (v ∷ vs) ws few h =
    ap (λ z. (c *ℤ v) +ℤ z) (closed_list k cs vs ws few (ap (list_all (λ x. int_eq x (pos 0))) (sym (tabulate_suc (λ j. get_or (c ∷ cs) j (pos 0)) (length vs) k)) ∙ h))

-- the value of a term does not depend on numbers behind its variables
pub value_closed : (l : Linear) (vs ws : List ℤ) → length ws ≤ 16 → is_closed (length vs) l ≡ true → value l (vs ++ ws) ≡ value l vs
value_closed l vs ws few h = ap (λ z. l.constant +ℤ z) (closed_list 16 l.coefficients vs ws few h)

at_place : ℕ → ℕ → ℤ
at_place p j = if j == p then pos 1 else pos 0

here : (p k : ℕ) → k ≡ p → at_place p k ≡ pos 1
unfolding at_place
here p k e = ap (λ b. cond b (pos 1) (pos 0)) (eq-eqb k p e)

elsewhere : (p k : ℕ) → (k ≡ p → ⊥) → at_place p k ≡ pos 0
unfolding at_place
elsewhere p k e = ap (λ b. cond b (pos 1) (pos 0)) (ne_eqb k p e)

after : (p k n : ℕ) (vs : List ℤ) → p < k → weighted (tabulate (at_place p) k n) vs ≡ pos 0
after p k zero vs h = refl
after p k (suc n) [] h = refl
after p k (suc n) (v ∷ vs) h =
    let z = zero_mul_ℤ v in
    let e = ap (λ x. x *ℤ v) (elsewhere p k (λ q. omega arith)) in
    omega (arith, ints, z, e, after p (suc k) n vs (omega arith))

-- one coefficient of 1 at the place i behind k
unit : (p i k n : ℕ) (vs : List ℤ) → p ≡ k + i → i < n → weighted (tabulate (at_place p) k n) vs ≡ get_or vs i (pos 0)
unit p i k zero vs is h = absurd (omega arith)
unit p zero k (suc n) [] is h = refl
unit p (suc i) k (suc n) [] is h = refl
unit p zero k (suc n) (v ∷ vs) is h =
    let e = ap (λ x. x *ℤ v) (here p k (omega arith)) in
    omega (arith, ints, e, after p (suc k) n vs (omega arith))
unit p (suc i) k (suc n) (v ∷ vs) is h =
    let z = zero_mul_ℤ v in
    let e = ap (λ x. x *ℤ v) (elsewhere p k (λ q. omega arith)) in
    omega (arith, ints, z, e, unit p i (suc k) n vs (omega arith) (omega arith))

-- the value of a variable
pub value_variable : (i : ℕ) (vs : List ℤ) → i < 16 → value (variable i) vs ≡ get_or vs i (pos 0)
unfolding at_place
value_variable i vs h = let e = unit i i 0 16 vs (omega arith) h in omega (arith, ints, e)

-- ---- formulas

closed_at : (n : ℕ) (x : Formula-F Formula) → is_closed_formula n (roll-Formula x) ≡ closed_step n (map-Formula Formula Bool (is_closed_formula n) x)
closed_at n x = fold-roll-Formula Bool (closed_step n) x

module _ (vs ws : List ℤ) (few : length ws ≤ 16) where
  Stays : Formula → Type 0
  Stays f = is_closed_formula (length vs) f ≡ true → truth f (vs ++ ws) ≡ truth f vs

  at : (x : Formula-F Formula) →
      (closed_step (length vs) (map-Formula Formula Bool (is_closed_formula (length vs)) x) ≡ true →
      truth_step (map-Formula Formula (List ℤ → Bool) truth x) (vs ++ ws) ≡ truth_step (map-Formula Formula (List ℤ → Bool) truth x) vs) → Stays (roll-Formula x)
  unfolding Stays
  at x h c = truth_at x (vs ++ ws) ∙ h (sym (closed_at (length vs) x) ∙ c) ∙ sym (truth_at x vs)

  all_at : (ys : List (Such Stays)) → list_all (λ f. f) (map (is_closed_formula (length vs)) (map (λ e. e.0) ys)) ≡ true →
      list_all (λ f. f (vs ++ ws)) (map truth (map (λ e. e.0) ys)) ≡ list_all (λ f. f vs) (map truth (map (λ e. e.0) ys))
  unfolding Stays
  all_at [] h = refl
  all_at (y ∷ ys) h = let g = both_true _ _ h in ap₂ (λ a b. a && b) (y.1 g.0) (all_at ys g.1)

  any_at : (ys : List (Such Stays)) → list_all (λ f. f) (map (is_closed_formula (length vs)) (map (λ e. e.0) ys)) ≡ true →
      list_any (λ f. f (vs ++ ws)) (map truth (map (λ e. e.0) ys)) ≡ list_any (λ f. f vs) (map truth (map (λ e. e.0) ys))
  unfolding Stays
  any_at [] h = refl
  any_at (y ∷ ys) h = let g = both_true _ _ h in ap₂ (λ a b. a || b) (y.1 g.0) (any_at ys g.1)

  step : (y : Formula-F (Such Stays)) → Stays (roll-Formula (bare Stays y))
  unfolding Stays
  step True = at True (λ c. refl)
  step False = at False (λ c. refl)
  step (Rel a r b) = at (Rel a r b) (λ c. let g = both_true _ _ c in ap₂ (related r) (value_closed a vs ws few g.0) (value_closed b vs ws few g.1))
  step (Div d l) = at (Div d l) (λ c. ap (divides d) (value_closed l vs ws few c))
  step (Not f) = at (Not f.0) (λ c. ap not (f.1 c))
  step (And fs) = at (And (map (λ e. e.0) fs)) (λ c. all_at fs c)
  step (Or fs) = at (Or (map (λ e. e.0) fs)) (λ c. any_at fs c)
  step (Imp f g) = at (Imp f.0 g.0) (λ c. let h = both_true _ _ c in ap₂ (λ a b. not a || b) (f.1 h.0) (g.1 h.1))

  -- the truth of a formula does not depend on numbers behind its variables
  pub truth_closed : (f : Formula) → is_closed_formula (length vs) f ≡ true → truth f (vs ++ ws) ≡ truth f vs
  unfolding Stays
  truth_closed = induction Stays step
