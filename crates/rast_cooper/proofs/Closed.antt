-- Formulas in which no variable from a number on occurs.
use Rattle.std.proofs.Common.{◌≡◌, ⊎_elim, ℕ, zero, suc, ◌+◌, ◌-◌, ◌<◌, ◌≤◌, List, [], ◌∷◌, length, get_or, take, map, sym, ◌∙◌, ap, ap₂, refl, arith, ℤ, pos, ◌+ℤ◌, ◌*ℤ◌, Bool, true, false, not, ◌&&◌, ◌||◌, subst}
use Rattle.std.specs.Prelude.{int_lt, nat_lt}
use Rattle.std.specs.List.{list_all, list_any}
use Rattle.std.proofs.lemmas.Int.{ints}
use Rattle.rast_index.specs.Linear.{int_eq, is_closed, part, tabulate}
use Rattle.rast_index.specs.Truth.{truth, truth_step, related, divides, is_closed_formula, closed_step}
use Rattle.rast_cooper.specs.Divisors.{divisors_above_zero, divisors_step}
use Rattle.rast_index.specs.declared.formula.Rel.{Rel}
use Rattle.rast_index.specs.declared.formula.Rel.TheVariants.{Eq, Ne, Lt, Le, Gt, Ge}
use Rattle.rast_index.specs.declared.formula.Formula.{Formula, roll-Formula}
use Rattle.rast_index.specs.declared.formula.Formula.TheOpen.{Formula-F, True, False, Rel as Related, Div, Not, And, Or, Imp}
use Rattle.rast_index.specs.declared.formula.Formula.TheFolds.{map-Formula, fold-roll-Formula, ind-Formula}
use Rattle.rast_cooper.specs.Arithmetic.{Linear, weighted, value, coefficient, minus, less_one}
use Rattle.rast_cooper.specs.declared.literal.Literal.{Literal}
use Rattle.rast_cooper.specs.Eliminate.{is_divided}
use Rattle.rast_cooper.specs.Claims.{Claim, Whole, Compared, Node, Always, Never, Atom, Every, Some_of, Seen, seen, seen_step, node_step, node_of, compared, opposite}
use Rattle.rast_cooper.proofs.Points.{In}
use Rattle.rast_cooper.proofs.Apart.{formula_known}
use Rattle.rast_cooper.proofs.States.{weighted_zero}
use Rattle.rast_cooper.proofs.Occurs.{zero_minus}

pub and_true : (a b : Bool) → (a && b) ≡ true → (a ≡ true) × (b ≡ true)
and_true true b e = (refl, e)
and_true false b e = absurd (cc)

-- ---- terms
abbrev pub ClosedTerm : ℕ → Linear → Type 0
ClosedTerm n l = (x : ℕ) → n ≤ x → x < 16 → coefficient l x ≡ pos 0

equal_zero : (c : ℤ) → int_eq c (pos 0) ≡ true → c ≡ pos 0
equal_zero c e = by (int_lt c (pos 0)) (int_lt (pos 0) c) refl refl e
  where
    by : (p q : Bool) → int_lt c (pos 0) ≡ p → int_lt (pos 0) c ≡ q → (not p && not q) ≡ true → c ≡ pos 0
    by true q f g h = absurd (cc)
    by false true f g h = absurd (cc)
    by false false f g h = omega (arith, ints, f, g)

all_at : (p : ℤ → Bool) (f : ℕ → ℤ) (i n k : ℕ) → list_all p (tabulate f i n) ≡ true → k < n → p (f (i + k)) ≡ true
all_at p f i zero k e h = absurd (omega arith)
all_at p f i (suc n) zero e h = subst (λ j. p (f j) ≡ true) (let g : i ≡ i + 0 = omega arith in g) (and_true _ _ e).0
all_at p f i (suc n) (suc k) e h = subst (λ j. p (f j) ≡ true) (let g : suc i + k ≡ i + suc k = omega arith in g) (all_at p f (suc i) n k (and_true _ _ e).1 (omega arith))

pub closed_term : (n : ℕ) (l : Linear) → is_closed n l ≡ true → ClosedTerm n l
closed_term n l e x h k =
    let same : n + (x - n) ≡ x = omega arith in
    subst (λ j. get_or l.coefficients j (pos 0) ≡ pos 0) same
    (equal_zero _ (all_at (λ c. int_eq c (pos 0)) (λ j. part l (suc j)) n 16 (x - n) e (omega arith)))

-- its value at the first n numbers alone
value_by : (n : ℕ) (cs vs : List ℤ) → ((i : ℕ) → n ≤ i → i < length vs → get_or cs i (pos 0) ≡ pos 0) → weighted cs vs ≡ weighted cs (take n vs)
value_by n [] vs h = refl
value_by zero (c ∷ cs) vs h = weighted_zero (c ∷ cs) vs (λ i k. h i (omega arith) k)
value_by (suc n) (c ∷ cs) [] h = refl
value_by (suc n) (c ∷ cs) (v ∷ vs) h = ap (λ z. (c *ℤ v) +ℤ z) (value_by n cs vs (λ i k m. h (suc i) (omega arith) (omega arith)))

pub value_closed : (n : ℕ) (l : Linear) (vs : List ℤ) → length vs ≡ 16 → ClosedTerm n l → value l vs ≡ value l (take n vs)
value_closed n l vs e h = ap (λ z. l.constant +ℤ z) (value_by n l.coefficients vs (λ i k m. h i k (omega arith)))

closed_minus : (n : ℕ) (a b : Linear) → ClosedTerm n a → ClosedTerm n b → ClosedTerm n (minus a b)
closed_minus n a b h k x i j = zero_minus a b x (h x i j) (k x i j)

closed_less : (n : ℕ) (l : Linear) → ClosedTerm n l → ClosedTerm n (less_one l)
closed_less n l h x i j = h x i j

-- ---- claims
abbrev pub ClosedClaim : ℕ → Claim → Type 0
ClosedClaim n (Whole f b) = (is_closed_formula n f ≡ true) × (divisors_above_zero f ≡ true)
ClosedClaim n (Compared a r b) = ClosedTerm n a × ClosedTerm n b

abbrev pub ClosedClaims : ℕ → List Claim → Type 0
ClosedClaims n cs = (c : Claim) → In c cs → ClosedClaim n c

abbrev pub ClosedLiteral : ℕ → Literal → Type 0
ClosedLiteral n lit = ClosedTerm n lit.term × (is_divided lit.sort ≡ true → 0 < lit.divisor)

abbrev pub ClosedNode : ℕ → Node → Type 0
ClosedNode n Always = Unit {0}
ClosedNode n Never = Unit {0}
ClosedNode n (Atom lit) = ClosedLiteral n lit
ClosedNode n (Every cs) = ClosedClaims n cs
ClosedNode n (Some_of cs) = ClosedClaims n cs

module _ (n : ℕ) where
  pub closed_compared : (a b : Linear) (r : Rel) → ClosedTerm n a → ClosedTerm n b → ClosedNode n (compared a r b)
  closed_compared a b Eq h k = (closed_minus n b a k h, λ e. absurd (cc))
  closed_compared a b Ne h k = λ c i. ⊎_elim (λ e. subst (ClosedClaim n) (sym e) (h, k)) (λ j. ⊎_elim (λ e. subst (ClosedClaim n) (sym e) (h, k)) (λ e. absurd e) j) i
  closed_compared a b Lt h k = (closed_less n (minus b a) (closed_minus n b a k h), λ e. absurd (cc))
  closed_compared a b Le h k = (closed_minus n b a k h, λ e. absurd (cc))
  closed_compared a b Gt h k = (closed_less n (minus a b) (closed_minus n a b h k), λ e. absurd (cc))
  closed_compared a b Ge h k = (closed_minus n a b h k, λ e. absurd (cc))

  abbrev Wanted : Formula → Type 0
  Wanted f = is_closed_formula n f ≡ true → divisors_above_zero f ≡ true → (b : Bool) → ClosedNode n ((seen f).node b)

  abbrev Such : Type 0
  Such = (f : Formula) × Wanted f

  abbrev formula_of : Such → Formula
  formula_of s = s.0

  abbrev parts : Formula-F Such → Formula-F Formula
  parts = map-Formula Such Formula formula_of

  seen_at : (x : Formula-F Formula) → seen (roll-Formula x) ≡ seen_step (map-Formula Formula Seen seen x)
  unfolding seen
  seen_at x = fold-roll-Formula Seen seen_step x

  closed_at : (x : Formula-F Formula) → is_closed_formula n (roll-Formula x) ≡ closed_step n (map-Formula Formula Bool (is_closed_formula n) x)
  closed_at x = fold-roll-Formula Bool (closed_step n) x

  divisors_at : (x : Formula-F Formula) → divisors_above_zero (roll-Formula x) ≡ divisors_step (map-Formula Formula Bool divisors_above_zero x)
  divisors_at x = fold-roll-Formula Bool divisors_step x

  self : (f : Formula) → (seen f).self ≡ f
  self f = (formula_known [] f).0

  claim_closed : (f : Formula) (b : Bool) → is_closed_formula n f ≡ true → divisors_above_zero f ≡ true → ClosedClaim n (Whole (seen f).self b)
  claim_closed f b e d = subst (λ g. ClosedClaim n (Whole g b)) (sym (self f)) (e, d)

  each_closed : (fs : List Such) (b : Bool) → list_all (λ p. p) (map (is_closed_formula n) (map formula_of fs)) ≡ true → list_all (λ p. p) (map divisors_above_zero (map formula_of fs)) ≡ true →
      ClosedClaims n (map (λ (s : Seen). Whole s.self b) (map seen (map formula_of fs)))
  each_closed [] b e d c i = absurd i
  each_closed (f ∷ fs) b e d c i =
      let p = and_true _ _ e in let q = and_true _ _ d in
      ⊎_elim (λ g. subst (ClosedClaim n) (sym g) (claim_closed f.0 b p.0 q.0)) (λ j. each_closed fs b p.1 q.1 c j) i

  two_closed : (f g : Such) (p q : Bool) → (is_closed_formula n f.0 && is_closed_formula n g.0) ≡ true → (divisors_above_zero f.0 && divisors_above_zero g.0) ≡ true →
      ClosedClaims n (Whole (seen f.0).self p ∷ Whole (seen g.0).self q ∷ [])
  two_closed f g p q e d c i =
      let u = and_true _ _ e in let v = and_true _ _ d in
      ⊎_elim (λ h. subst (ClosedClaim n) (sym h) (claim_closed f.0 p u.0 v.0)) (λ j. ⊎_elim (λ h. subst (ClosedClaim n) (sym h) (claim_closed g.0 q u.1 v.1)) (λ h. absurd h) j) i

  above_of : (d : ℕ) → nat_lt 0 d ≡ true → 0 < d
  above_of zero e = absurd (cc)
  above_of (suc d) e = omega arith

  layer : (y : Formula-F Such) → closed_step n (map-Formula Formula Bool (is_closed_formula n) (parts y)) ≡ true → divisors_step (map-Formula Formula Bool divisors_above_zero (parts y)) ≡ true →
      (b : Bool) → ClosedNode n (node_step (map-Formula Formula Seen seen (parts y)) b)
  layer True e d true = tt
  layer True e d false = tt
  layer False e d true = tt
  layer False e d false = tt
  layer (Related a r c) e d true = let p = and_true _ _ e in closed_compared a c r (closed_term n a p.0) (closed_term n c p.1)
  layer (Related a r c) e d false = let p = and_true _ _ e in closed_compared a c (opposite r) (closed_term n a p.0) (closed_term n c p.1)
  layer (Div k l) e d true = (closed_term n l e, λ f. above_of k d)
  layer (Div k l) e d false = (closed_term n l e, λ f. above_of k d)
  layer (Not f) e d b = f.1 e d (not b)
  layer (And fs) e d true = each_closed fs true e d
  layer (And fs) e d false = each_closed fs false e d
  layer (Or fs) e d true = each_closed fs true e d
  layer (Or fs) e d false = each_closed fs false e d
  layer (Imp f g) e d true = two_closed f g false true e d
  layer (Imp f g) e d false = two_closed f g true false e d

  wanted_at : (x : Formula-F Formula) →
      (closed_step n (map-Formula Formula Bool (is_closed_formula n) x) ≡ true → divisors_step (map-Formula Formula Bool divisors_above_zero x) ≡ true → (b : Bool) → ClosedNode n (node_step (map-Formula Formula Seen seen x) b)) →
      Wanted (roll-Formula x)
  wanted_at x h e d b = subst (ClosedNode n) (ap (λ (s : Seen). s.node b) (sym (seen_at x))) (h (sym (closed_at x) ∙ e) (sym (divisors_at x) ∙ d) b)

  formula_closed : (f : Formula) → Wanted f
  formula_closed = ind-Formula Wanted (λ x y e. subst (λ z. Wanted (roll-Formula z)) e (wanted_at (parts y) (layer y)))

  pub node_closed : (c : Claim) → ClosedClaim n c → ClosedNode n (node_of c)
  node_closed (Whole f b) h = formula_closed f h.0 h.1 b
  node_closed (Compared a r b) h = closed_compared a b r h.0 h.1

-- ---- the truth at the first n numbers alone
module _ (n : ℕ) (vs : List ℤ) (sized : length vs ≡ 16) where
  abbrev Same : Formula → Type 0
  Same f = is_closed_formula n f ≡ true → truth f vs ≡ truth f (take n vs)

  abbrev Holder : Type 0
  Holder = (f : Formula) × Same f

  abbrev held : Holder → Formula
  held s = s.0

  abbrev inside : Formula-F Holder → Formula-F Formula
  inside = map-Formula Holder Formula held

  truth_at : (x : Formula-F Formula) (us : List ℤ) → truth (roll-Formula x) us ≡ truth_step (map-Formula Formula (List ℤ → Bool) truth x) us
  truth_at x us = ap (λ g. g us) (fold-roll-Formula (List ℤ → Bool) truth_step x)

  all_same : (fs : List Holder) → list_all (λ p. p) (map (is_closed_formula n) (map held fs)) ≡ true →
      list_all (λ f. f vs) (map truth (map held fs)) ≡ list_all (λ f. f (take n vs)) (map truth (map held fs))
  all_same [] e = refl
  all_same (f ∷ fs) e = let p = and_true _ _ e in ap₂ (λ a b. a && b) (f.1 p.0) (all_same fs p.1)

  any_same : (fs : List Holder) → list_all (λ p. p) (map (is_closed_formula n) (map held fs)) ≡ true →
      list_any (λ f. f vs) (map truth (map held fs)) ≡ list_any (λ f. f (take n vs)) (map truth (map held fs))
  any_same [] e = refl
  any_same (f ∷ fs) e = let p = and_true _ _ e in ap₂ (λ a b. a || b) (f.1 p.0) (any_same fs p.1)

  layer_same : (y : Formula-F Holder) → closed_step n (map-Formula Formula Bool (is_closed_formula n) (inside y)) ≡ true →
      truth_step (map-Formula Formula (List ℤ → Bool) truth (inside y)) vs ≡ truth_step (map-Formula Formula (List ℤ → Bool) truth (inside y)) (take n vs)
  layer_same True e = refl
  layer_same False e = refl
  layer_same (Related a r c) e = let p = and_true _ _ e in ap₂ (related r) (value_closed n a vs sized (closed_term n a p.0)) (value_closed n c vs sized (closed_term n c p.1))
  layer_same (Div k l) e = ap (divides k) (value_closed n l vs sized (closed_term n l e))
  layer_same (Not f) e = ap not (f.1 e)
  layer_same (And fs) e = all_same fs e
  layer_same (Or fs) e = any_same fs e
  layer_same (Imp f g) e = let p = and_true _ _ e in ap₂ (λ a b. not a || b) (f.1 p.0) (g.1 p.1)

  same_at : (x : Formula-F Formula) →
      (closed_step n (map-Formula Formula Bool (is_closed_formula n) x) ≡ true → truth_step (map-Formula Formula (List ℤ → Bool) truth x) vs ≡ truth_step (map-Formula Formula (List ℤ → Bool) truth x) (take n vs)) →
      Same (roll-Formula x)
  same_at x h e = truth_at x vs ∙ h (sym (fold-roll-Formula Bool (closed_step n) x) ∙ e) ∙ sym (truth_at x (take n vs))

  pub truth_closed : (f : Formula) → Same f
  truth_closed = ind-Formula Same (λ x y e. subst (λ z. Same (roll-Formula z)) e (same_at (inside y) (layer_same y)))
