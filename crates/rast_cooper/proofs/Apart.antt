-- A claim is true exactly where what it comes to is.
use Rattle.std.proofs.Common.{◌≡◌, ◌⊎◌, inl, inr, ⊎_elim, ℕ, suc, ◌*◌, ◌%◌, ◌/◌, ◌↔◌, List, [], ◌∷◌, map, sym, ◌∙◌, ap, ap₂, refl, arith, ℤ, pos, negsuc, ◌+ℤ◌, ◌*ℤ◌, ◌≤ℤ◌, Bool, true, false, not, ◌&&◌, ◌||◌, subst, unsigned_abs, eqb, int_lt, div-add-mod', eqb-true}
use Rattle.std.specs.List.{list_all, list_any}
use Rattle.std.proofs.lemmas.Int.{ints, unsigned_abs-mul}
use Rattle.std.proofs.Math.Nat.{add-mul-mod_self_right, zero-mod}
use Rattle.rast_index.proofs.Whole.{mul_assoc_ℤ}
use Rattle.rast_index.specs.Truth.{truth, truth_step, related, divides}
use Rattle.rast_index.specs.Linear.{magnitude, int_eq}
use Rattle.rast_index.specs.declared.formula.Rel.{Rel}
use Rattle.rast_index.specs.declared.formula.Rel.TheVariants.{Eq, Ne, Lt, Le, Gt, Ge}
use Rattle.rast_index.specs.declared.formula.Formula.{Formula, roll-Formula}
use Rattle.rast_index.specs.declared.formula.Formula.TheOpen.{Formula-F, True, False, Rel as Related, Div, Not, And, Or, Imp}
use Rattle.rast_index.specs.declared.formula.Formula.TheFolds.{map-Formula, fold-roll-Formula, ind-Formula}
use Rattle.rast_cooper.specs.Arithmetic.{Linear, value, times, minus, less_one}
use Rattle.rast_cooper.specs.Meaning.{Divides, Holds}
use Rattle.rast_cooper.specs.Claims.{Claim, Whole, Compared, Node, Always, Never, Atom, Every, Some_of, compared, opposite, Seen, seen, seen_step, node_step, node_of}
use Rattle.rast_cooper.proofs.Values.{value_times, value_added}

-- ---- what is claimed
abbrev pub ClaimTrue : Claim → List ℤ → Type 0
ClaimTrue (Whole f b) vs = truth f vs ≡ b
ClaimTrue (Compared a r b) vs = related r (value a vs) (value b vs) ≡ true

abbrev pub ClaimsTrue : List Claim → List ℤ → Type 0
ClaimsTrue [] vs = Unit {0}
ClaimsTrue (c ∷ cs) vs = ClaimTrue c vs × ClaimsTrue cs vs

abbrev pub AnyTrue : List Claim → List ℤ → Type 0
AnyTrue [] vs = ⊥
AnyTrue (c ∷ cs) vs = ClaimTrue c vs ⊎ AnyTrue cs vs

abbrev pub NodeTrue : Node → List ℤ → Type 0
NodeTrue Always vs = Unit {0}
NodeTrue Never vs = ⊥
NodeTrue (Atom lit) vs = Holds lit vs
NodeTrue (Every cs) vs = ClaimsTrue cs vs
NodeTrue (Some_of cs) vs = AnyTrue cs vs

-- ---- relations
value_minus : (a b : Linear) (vs : List ℤ) → value (minus a b) vs ≡ value a vs +ℤ (negsuc 0 *ℤ value b vs)
value_minus a b vs = value_added a (times (negsuc 0) b) vs ∙ ap (λ z. value a vs +ℤ z) (value_times (negsuc 0) b vs)

value_less : (l : Linear) (vs : List ℤ) → value (less_one l) vs ≡ value l vs +ℤ negsuc 0
value_less l vs = omega (arith, ints)

true_not : (b : Bool) → not b ≡ true → b ≡ false
true_not true e = absurd (cc)
true_not false e = refl

less_at : (z w d : ℤ) → d ≡ (w +ℤ (negsuc 0 *ℤ z)) +ℤ negsuc 0 → int_lt z w ≡ true ↔ pos 0 ≤ℤ d
less_at z w d e = (λ h. omega (arith, ints, h, e), λ h. sym (omega (arith, ints, h, e)))

most_at : (z w d : ℤ) → d ≡ w +ℤ (negsuc 0 *ℤ z) → not (int_lt w z) ≡ true ↔ pos 0 ≤ℤ d
most_at z w d e = (λ h. let g : int_lt w z ≡ false = true_not _ h in omega (arith, ints, g, e), λ h. let g : false ≡ int_lt w z = omega (arith, ints, h, e) in ap not (sym g))

same_at : (z w d : ℤ) → d ≡ w +ℤ (negsuc 0 *ℤ z) → int_eq z w ≡ true ↔ d ≡ pos 0
same_at z w d e = (forth, back)
  where
    by : (p q : Bool) → (not p && not q) ≡ true → (p ≡ false) × (q ≡ false)
    by true q h = absurd (cc)
    by false true h = absurd (cc)
    by false false h = (refl, refl)

    forth : int_eq z w ≡ true → d ≡ pos 0
    forth h = let g = by (int_lt z w) (int_lt w z) h in omega (arith, ints, g.0, g.1, e)

    back : d ≡ pos 0 → int_eq z w ≡ true
    back h =
        let p : false ≡ int_lt z w = omega (arith, ints, h, e) in
        let q : false ≡ int_lt w z = omega (arith, ints, h, e) in
        ap₂ (λ a b. not a && not b) (sym p) (sym q)

apart_at : (p q : Bool) → not (not p && not q) ≡ true ↔ ((p ≡ true) ⊎ (q ≡ true) ⊎ ⊥)
apart_at true q = (λ h. inl refl, λ h. refl)
apart_at false true = (λ h. inr (inl refl), λ h. refl)
apart_at false false = (λ h. absurd (cc), λ h. ⊎_elim (λ e. absurd (cc)) (λ r. ⊎_elim (λ e. absurd (cc)) (λ e. absurd e) r) h)

pub compared_same : (a b : Linear) (r : Rel) (vs : List ℤ) → related r (value a vs) (value b vs) ≡ true ↔ NodeTrue (compared a r b) vs
compared_same a b Eq vs = same_at (value a vs) (value b vs) _ (value_minus b a vs)
compared_same a b Ne vs = apart_at (int_lt (value a vs) (value b vs)) (int_lt (value b vs) (value a vs))
compared_same a b Lt vs = less_at (value a vs) (value b vs) _ (value_less (minus b a) vs ∙ ap (λ z. z +ℤ negsuc 0) (value_minus b a vs))
compared_same a b Le vs = most_at (value a vs) (value b vs) _ (value_minus b a vs)
compared_same a b Gt vs = less_at (value b vs) (value a vs) _ (value_less (minus a b) vs ∙ ap (λ z. z +ℤ negsuc 0) (value_minus a b vs))
compared_same a b Ge vs = most_at (value b vs) (value a vs) _ (value_minus a b vs)

flip : (b : Bool) → b ≡ false ↔ not b ≡ true
flip true = (λ e. absurd (cc), λ e. absurd (cc))
flip false = (λ e. refl, λ e. refl)

flop : (b : Bool) → not b ≡ false ↔ b ≡ true
flop true = (λ e. refl, λ e. refl)
flop false = (λ e. absurd (cc), λ e. absurd (cc))

opposite_same : (r : Rel) (z w : ℤ) → related r z w ≡ false ↔ related (opposite r) z w ≡ true
opposite_same Eq z w = flip (int_eq z w)
opposite_same Ne z w = flop (int_eq z w)
opposite_same Lt z w = flip (int_lt z w)
opposite_same Le z w = flop (int_lt w z)
opposite_same Gt z w = flip (int_lt w z)
opposite_same Ge z w = flop (int_lt z w)

-- ---- divisors
eqb_zero : (n : ℕ) → eqb n 0 ≡ true ↔ n ≡ 0
eqb_zero n = (λ e. eqb-true n 0 e, λ e. ap (λ k. eqb k 0) e)

times_magnitude : (z : ℤ) (d k : ℕ) → magnitude z ≡ k * d → Divides d z
times_magnitude (pos n) d k e = (pos k, ap pos e)
times_magnitude (negsuc n) d k e =
    let f : negsuc n ≡ negsuc 0 *ℤ pos (suc n) = omega (arith, ints) in
    (negsuc 0 *ℤ pos k, f ∙ ap (λ m. negsuc 0 *ℤ pos m) e ∙ sym (mul_assoc_ℤ (negsuc 0) (pos k) (pos d)))

mod_multiple : (k d : ℕ) → (k * d) % d ≡ 0
mod_multiple k d = ap (λ n. n % d) (omega arith) ∙ add-mul-mod_self_right 0 k d ∙ zero-mod d

magnitude_is : (z : ℤ) → magnitude z ≡ unsigned_abs z
magnitude_is (pos n) = refl
magnitude_is (negsuc n) = refl

magnitude_times : (k : ℤ) (d : ℕ) → magnitude (k *ℤ pos d) ≡ magnitude k * d
magnitude_times k d = magnitude_is (k *ℤ pos d) ∙ unsigned_abs-mul k (pos d) ∙ ap (λ n. n * d) (sym (magnitude_is k))

pub divides_same : (d : ℕ) (z : ℤ) → divides d z ≡ true ↔ Divides d z
divides_same d z = (
  λ h. let g = (eqb_zero (magnitude z % d)).0 h in times_magnitude z d (magnitude z / d) (omega (arith, div-add-mod' (magnitude z) d, g)),
  λ p. (eqb_zero (magnitude z % d)).1 (ap (λ n. n % d) (ap magnitude p.1 ∙ magnitude_times p.0 d) ∙ mod_multiple (magnitude p.0) d),
)

-- ---- formulas
module _ (vs : List ℤ) where
  abbrev Known : Formula → Type 0
  Known f = ((seen f).self ≡ f) × ((b : Bool) → NodeTrue ((seen f).node b) vs ↔ truth f vs ≡ b)

  abbrev Such : Type 0
  Such = (f : Formula) × Known f

  abbrev formula_of : Such → Formula
  formula_of s = s.0

  abbrev parts : Formula-F Such → Formula-F Formula
  parts = map-Formula Such Formula formula_of

  seen_at : (x : Formula-F Formula) → seen (roll-Formula x) ≡ seen_step (map-Formula Formula Seen seen x)
  unfolding seen
  seen_at x = fold-roll-Formula Seen seen_step x

  truth_at : (x : Formula-F Formula) → truth (roll-Formula x) vs ≡ truth_step (map-Formula Formula (List ℤ → Bool) truth x) vs
  truth_at x = ap (λ g. g vs) (fold-roll-Formula (List ℤ → Bool) truth_step x)

  known_at : (x : Formula-F Formula) →
      (roll-Formula (map-Formula Seen Formula (λ (s : Seen). s.self) (map-Formula Formula Seen seen x)) ≡ roll-Formula x) →
      ((b : Bool) → NodeTrue (node_step (map-Formula Formula Seen seen x) b) vs ↔ truth_step (map-Formula Formula (List ℤ → Bool) truth x) vs ≡ b) →
      Known (roll-Formula x)
  known_at x e f = (
    ap (λ (s : Seen). s.self) (seen_at x) ∙ e,
    λ b. subst (λ n. NodeTrue n vs ↔ truth (roll-Formula x) vs ≡ b) (ap (λ (s : Seen). s.node b) (sym (seen_at x)))
        (subst (λ t. NodeTrue (node_step (map-Formula Formula Seen seen x) b) vs ↔ t ≡ b) (sym (truth_at x)) (f b)),
  )

  selves : (fs : List Such) → map (λ (s : Seen). s.self) (map seen (map formula_of fs)) ≡ map formula_of fs
  selves [] = refl
  selves (f ∷ fs) = ap₂ (λ a b. a ∷ b) f.1.0 (selves fs)

  claim_same : (f : Such) (b : Bool) → ClaimTrue (Whole (seen f.0).self b) vs ↔ truth f.0 vs ≡ b
  claim_same f b = (λ h. ap (λ g. truth g vs) (sym f.1.0) ∙ h, λ h. ap (λ g. truth g vs) f.1.0 ∙ h)

  abbrev claims : Bool → List Such → List Claim
  claims b fs = map (λ (s : Seen). Whole s.self b) (map seen (map formula_of fs))

  abbrev truths : List Such → List (List ℤ → Bool)
  truths fs = map truth (map formula_of fs)

  all_true : (fs : List Such) → ClaimsTrue (claims true fs) vs ↔ list_all (λ f. f vs) (truths fs) ≡ true
  all_true [] = (λ h. refl, λ h. tt)
  all_true (f ∷ fs) =
      let p = claim_same f true in
      let r = all_true fs in
      (λ h. ap₂ (λ a b. a && b) (p.0 h.0) (r.0 h.1), λ h. let g = both_true _ _ h in (p.1 g.0, r.1 g.1))
    where
      both_true : (a b : Bool) → (a && b) ≡ true → (a ≡ true) × (b ≡ true)
      both_true true true e = (refl, refl)
      both_true true false e = absurd (cc)
      both_true false b e = absurd (cc)

  any_false : (fs : List Such) → AnyTrue (claims false fs) vs ↔ list_all (λ f. f vs) (truths fs) ≡ false
  any_false [] = (λ h. absurd h, λ h. absurd (cc))
  any_false (f ∷ fs) =
      let p = claim_same f false in
      let r = any_false fs in (
        λ h. ⊎_elim (λ e. ap (λ a. a && list_all (λ g. g vs) (truths fs)) (p.0 e)) (λ e. and_false _ _ (r.0 e)) h,
        λ h. ⊎_elim (λ e. inl (p.1 e)) (λ e. inr (r.1 e)) (one_false _ _ h),
      )
    where
      and_false : (a b : Bool) → b ≡ false → (a && b) ≡ false
      and_false true b e = e
      and_false false b e = refl

      one_false : (a b : Bool) → (a && b) ≡ false → (a ≡ false) ⊎ (b ≡ false)
      one_false true b e = inr e
      one_false false b e = inl refl

  any_true : (fs : List Such) → AnyTrue (claims true fs) vs ↔ list_any (λ f. f vs) (truths fs) ≡ true
  any_true [] = (λ h. absurd h, λ h. absurd (cc))
  any_true (f ∷ fs) =
      let p = claim_same f true in
      let r = any_true fs in (
        λ h. ⊎_elim (λ e. ap (λ a. a || list_any (λ g. g vs) (truths fs)) (p.0 e)) (λ e. or_true _ _ (r.0 e)) h,
        λ h. ⊎_elim (λ e. inl (p.1 e)) (λ e. inr (r.1 e)) (one_true _ _ h),
      )
    where
      or_true : (a b : Bool) → b ≡ true → (a || b) ≡ true
      or_true true b e = refl
      or_true false b e = e

      one_true : (a b : Bool) → (a || b) ≡ true → (a ≡ true) ⊎ (b ≡ true)
      one_true true b e = inl refl
      one_true false b e = inr e

  all_false : (fs : List Such) → ClaimsTrue (claims false fs) vs ↔ list_any (λ f. f vs) (truths fs) ≡ false
  all_false [] = (λ h. refl, λ h. tt)
  all_false (f ∷ fs) =
      let p = claim_same f false in
      let r = all_false fs in
      (λ h. ap₂ (λ a b. a || b) (p.0 h.0) (r.0 h.1), λ h. let g = both_false _ _ h in (p.1 g.0, r.1 g.1))
    where
      both_false : (a b : Bool) → (a || b) ≡ false → (a ≡ false) × (b ≡ false)
      both_false true b e = absurd (cc)
      both_false false true e = absurd (cc)
      both_false false false e = (refl, refl)

  implies_true : (f g : Such) → AnyTrue (Whole (seen f.0).self false ∷ Whole (seen g.0).self true ∷ []) vs ↔ (not (truth f.0 vs) || truth g.0 vs) ≡ true
  implies_true f g = let p = claim_same f false in let q = claim_same g true in (
    λ h. ⊎_elim (λ e. ap (λ a. not a || truth g.0 vs) (p.0 e)) (λ k. ⊎_elim (λ e. or_true _ _ (q.0 e)) (λ e. absurd e) k) h,
    λ h. ⊎_elim (λ e. inl (p.1 e)) (λ e. inr (inl (q.1 e))) (one _ _ h),
  )
    where
      or_true : (a b : Bool) → b ≡ true → (a || b) ≡ true
      or_true true b e = refl
      or_true false b e = e

      one : (a b : Bool) → (not a || b) ≡ true → (a ≡ false) ⊎ (b ≡ true)
      one true b e = inr e
      one false b e = inl refl

  implies_false : (f g : Such) → ClaimsTrue (Whole (seen f.0).self true ∷ Whole (seen g.0).self false ∷ []) vs ↔ (not (truth f.0 vs) || truth g.0 vs) ≡ false
  implies_false f g = let p = claim_same f true in let q = claim_same g false in
      (λ h. ap₂ (λ a b. not a || b) (p.0 h.0) (q.0 h.1.0), λ h. let k = two _ _ h in (p.1 k.0, (q.1 k.1, tt)))
    where
      two : (a b : Bool) → (not a || b) ≡ false → (a ≡ true) × (b ≡ false)
      two true b e = (refl, e)
      two false b e = absurd (cc)

  same_of : (A B C : Type 0) → A ↔ B → A ↔ C → B ↔ C
  same_of A B C p q = (λ b. q.0 (p.1 b), λ c. p.0 (q.1 c))

  turned : (t b : Bool) → t ≡ not b ↔ not t ≡ b
  turned true true = (λ e. absurd (cc), λ e. absurd (cc))
  turned true false = (λ e. refl, λ e. refl)
  turned false true = (λ e. refl, λ e. refl)
  turned false false = (λ e. absurd (cc), λ e. absurd (cc))

  layer_is : (y : Formula-F Such) → roll-Formula (map-Formula Seen Formula (λ (s : Seen). s.self) (map-Formula Formula Seen seen (parts y))) ≡ roll-Formula (parts y)
  layer_is True = refl
  layer_is False = refl
  layer_is (Related a r b) = refl
  layer_is (Div d l) = refl
  layer_is (Not f) = ap (λ g. roll-Formula (Not g)) f.1.0
  layer_is (And fs) = ap (λ g. roll-Formula (And g)) (selves fs)
  layer_is (Or fs) = ap (λ g. roll-Formula (Or g)) (selves fs)
  layer_is (Imp f g) = ap₂ (λ a b. roll-Formula (Imp a b)) f.1.0 g.1.0

  layer_true : (y : Formula-F Such) (b : Bool) → NodeTrue (node_step (map-Formula Formula Seen seen (parts y)) b) vs ↔ truth_step (map-Formula Formula (List ℤ → Bool) truth (parts y)) vs ≡ b
  layer_true True true = (λ h. refl, λ h. tt)
  layer_true True false = (λ h. absurd h, λ h. absurd (cc))
  layer_true False true = (λ h. absurd h, λ h. absurd (cc))
  layer_true False false = (λ h. refl, λ h. tt)
  layer_true (Related a r c) true = let p = compared_same a c r vs in (p.1, p.0)
  layer_true (Related a r c) false = let p = compared_same a c (opposite r) vs in let q = opposite_same r (value a vs) (value c vs) in (λ h. q.1 (p.1 h), λ h. p.0 (q.0 h))
  layer_true (Div d l) true = let p = divides_same d (value l vs) in (p.1, p.0)
  layer_true (Div d l) false = let p = divides_same d (value l vs) in (λ h. refuted _ (λ e. h (p.0 e)), λ h k. clash (divides d (value l vs)) h (p.1 k))
    where
      refuted : (t : Bool) → (t ≡ true → ⊥) → t ≡ false
      refuted true n = absurd (n refl)
      refuted false n = refl

      clash : (t : Bool) → t ≡ false → t ≡ true → ⊥
      clash true e f = absurd (let g : true ≡ false = e in cc)
      clash false e f = absurd (let g : false ≡ true = f in cc)
  layer_true (Not f) b = let p = f.1.1 (not b) in let q = turned (truth f.0 vs) b in (λ h. q.0 (p.0 h), λ h. p.1 (q.1 h))
  layer_true (And fs) true = all_true fs
  layer_true (And fs) false = any_false fs
  layer_true (Or fs) true = any_true fs
  layer_true (Or fs) false = all_false fs
  layer_true (Imp f g) true = implies_true f g
  layer_true (Imp f g) false = implies_false f g

  pub formula_known : (f : Formula) → Known f
  formula_known = ind-Formula Known (λ x y e. subst (λ z. Known (roll-Formula z)) e (known_at (parts y) (layer_is y) (layer_true y)))

  pub node_same : (c : Claim) → ClaimTrue c vs ↔ NodeTrue (node_of c) vs
  node_same (Whole f b) = let p = (formula_known f).1 b in (p.1, p.0)
  node_same (Compared a r b) = compared_same a b r vs
