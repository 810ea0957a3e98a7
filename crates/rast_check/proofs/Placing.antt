-- Types and formulas with their variables replaced by terms of whose first 16 variables only the first n occur are in scope. No length of the terms is needed.
use Rattle.std.proofs.Common.{◌≡◌, ℕ, suc, zero, ◌+◌, ◌<◌, ◌≤◌, ◌⊎◌, inl, inr, Bool, true, false, ◌&&◌, List, [], ◌∷◌, ◌++◌, map, get_or, sym, ◌∙◌, ap, ap₂, refl, arith, ℤ, pos, ◌*ℤ◌}
use Rattle.std.specs.Prelude.{nat_lt}
use Rattle.std.specs.List.{list_all, AllByRecursion}
use Rattle.std.proofs.lemmas.Int.{ints}
use Rattle.std.proofs.lemmas.Bool.{ltb-true, ltb-false}
use Rattle.rast_index.specs.Linear.{Linear, is_closed, int_eq, tabulate, part, mixed, replaced, from_parts, variable, weighted}
use Rattle.rast_index.specs.Truth.{put, is_closed_formula, closed_step}
use Rattle.rast_index.specs.declared.formula.Formula.{Formula, roll-Formula}
use Rattle.rast_index.specs.declared.formula.Formula.TheVariants as form
use Rattle.rast_index.specs.declared.formula.Formula.TheOpen as open'
use Rattle.rast_index.specs.declared.formula.Formula.TheFolds.{map-Formula, fold-roll-Formula}
use Rattle.rast_index.proofs.Replaced as formulas
use Rattle.rast_index.proofs.Scope.{both_true}
use Rattle.rast_index.proofs.Trees.{is_closed-And, is_closed-Or}
use Rattle.rast_index.proofs.Values.{weighted_none}
use Rattle.rast_index.proofs.Whole.{mul_comm_ℤ, zero_mul_ℤ}
use Rattle.rast_cooper.specs.Divisors.{divisors_above_zero, divisors_step}
use Rattle.rast_cooper.specs.Verdicts.{is_within}
use Rattle.rast_cooper.proofs.Closed.{closed_term}
use Rattle.rast_types.specs.declared.ty.Ty.{Ty, roll-Ty}
use Rattle.rast_types.specs.declared.ty.Ty.TheVariants as ty
use Rattle.rast_types.specs.declared.ty.Ty.TheOpen.{Ty-F, One, Plus, With, Tensor, Lolli, Named, Ex, All, Assert, Assume, Pays, Gets, Next}
use Rattle.rast_types.specs.declared.ty.Ty.TheFolds.{map-Ty}
use Rattle.rast_types.specs.Closed.{Layer}
use Rattle.rast_types.specs.Symbolic.{put_type, put_step as type_step}
use Rattle.rast_types.proofs.Binders.{Such, bare, induction}
use Rattle.rast_types.proofs.Layers.{puts, put_at}
use Rattle.rast_types.proofs.Puts.{put_choices, parts_put}
use Rattle.rast_equal.proofs.Instances.{variable_closed}
use Rattle.rast_equal.specs.Fit.{is_within_type, within_step, IsWithin, IsWithinType}
use Rattle.rast_check.proofs.Every.{every_append, every_to}
use Rattle.rast_equal.proofs.Fits.{within_at, within_plus, within_with, within_tensor, within_lolli, within_named, within_ex, within_all, within_assert, within_assume, within_pays, within_gets, within_next}

-- ---- terms

at_tabulate : (f : ℕ → ℤ) (i n j : ℕ) (d : ℤ) → j < n → get_or (tabulate f i n) j d ≡ f (i + j)
at_tabulate f i zero j d h = absurd (omega arith)
at_tabulate f i (suc n) zero d h = ap f (omega arith)
at_tabulate f i (suc n) (suc j) d h = at_tabulate f (suc i) n j d (omega arith) ∙ ap f (omega arith)

past_tabulate : (f : ℕ → ℤ) (i n j : ℕ) (d : ℤ) → n ≤ j → get_or (tabulate f i n) j d ≡ d
past_tabulate f i zero j d h = refl
past_tabulate f i (suc n) zero d h = absurd (omega arith)
past_tabulate f i (suc n) (suc j) d h = past_tabulate f (suc i) n j d (omega arith)

all_zero : (f : ℕ → ℤ) (i n : ℕ) → ((j : ℕ) → i ≤ j → f j ≡ pos 0) → list_all (λ c. int_eq c (pos 0)) (tabulate f i n) ≡ true
all_zero f i zero h = refl
all_zero f i (suc n) h = ap₂ (λ z b. int_eq z (pos 0) && b) (h i (omega arith)) (all_zero f (suc i) n (λ j k. h j (omega arith)))

-- from this number on none of the first 16 variables occurs
abbrev pub StopsBy : ℕ → Linear → Type 0
StopsBy n a = (j : ℕ) → n ≤ j → j < 16 → part a (suc j) ≡ pos 0

abbrev pub AllStop : ℕ → List Linear → Type 0
AllStop n args = AllByRecursion (StopsBy n) args

pub closed_stop : (n : ℕ) (args : List Linear) → list_all (is_closed n) args ≡ true → AllStop n args
closed_stop n [] h = tt
closed_stop n (a ∷ args) h = let g = both_true (is_closed n a) (list_all (is_closed n) args) h in (λ j k lt. closed_term n a g.0 j k lt, closed_stop n args g.1)

zeros : (n j : ℕ) (cs : List ℤ) (args : List Linear) → AllStop n args → n ≤ j → j < 16 → weighted cs (map (λ a. part a (suc j)) args) ≡ pos 0
zeros n j cs [] h k lt = weighted_none cs
zeros n j [] (a ∷ args) h k lt = refl
zeros n j (c ∷ cs) (a ∷ args) h k lt =
    let e = ap (λ z. c *ℤ z) (h.0 j k lt) in
    let f = mul_comm_ℤ c (pos 0) in
    let z = zero_mul_ℤ c in
    omega (arith, ints, e, f, z, zeros n j cs args h.1 k lt)

split : (j : ℕ) → (j < 16) ⊎ (16 ≤ j)
split j = cases (nat_lt j 16) refl
  where
    cases : (b : Bool) → nat_lt j 16 ≡ b → (j < 16) ⊎ (16 ≤ j)
    cases true e = inl (ltb-true j 16 e)
    cases false e = inr (ltb-false j 16 e)

replaced_closed : (n m : ℕ) (args : List Linear) (l : Linear) → n ≤ m → AllStop n args → is_closed m (replaced args l) ≡ true
unfolding from_parts
replaced_closed n m args l le h = all_zero (λ j. part (replaced args l) (suc j)) m 16 (λ j k. at j k (split j))
  where
    at : (j : ℕ) → m ≤ j → (j < 16) ⊎ (16 ≤ j) → part (replaced args l) (suc j) ≡ pos 0
    at j k (inl lt) = at_tabulate (mixed l args) 1 16 j (pos 0) lt ∙ ap (mixed l args) (let g : 1 + j ≡ suc j = omega arith in g) ∙ (let z = zeros n j l.coefficients args h (omega arith) lt in omega (arith, ints, z))
    at j k (inr past) = past_tabulate (mixed l args) 1 16 j (pos 0) past

each_replaced : (n m : ℕ) (args es : List Linear) → n ≤ m → AllStop n args → list_all (is_closed m) (map (replaced args) es) ≡ true
each_replaced n m args [] le h = refl
each_replaced n m args (e ∷ es) le h = ap₂ (λ a b. a && b) (replaced_closed n m args e le h) (each_replaced n m args es le h)

-- ---- formulas

closed_at : (n : ℕ) (x : open'.Formula-F Formula) → is_closed_formula n (roll-Formula x) ≡ closed_step n (map-Formula Formula Bool (is_closed_formula n) x)
closed_at n x = fold-roll-Formula Bool (closed_step n) x

divisors_at : (x : open'.Formula-F Formula) → divisors_above_zero (roll-Formula x) ≡ divisors_step (map-Formula Formula Bool divisors_above_zero x)
divisors_at x = fold-roll-Formula Bool divisors_step x

divisors_and : (fs : List Formula) → divisors_above_zero (form.And fs) ≡ list_all (λ f. f) (map divisors_above_zero fs)
divisors_and fs = ap divisors_above_zero (sym (form.rolls-And fs)) ∙ divisors_at (open'.And fs)

divisors_or : (fs : List Formula) → divisors_above_zero (form.Or fs) ≡ list_all (λ f. f) (map divisors_above_zero fs)
divisors_or fs = ap divisors_above_zero (sym (form.rolls-Or fs)) ∙ divisors_at (open'.Or fs)

module _ (n m : ℕ) (args : List Linear) (le : n ≤ m) (h : AllStop n args) where
  Good : Formula → Type 0
  Good f = (is_closed_formula m (put args f) ≡ true) × (divisors_above_zero (put args f) ≡ divisors_above_zero f)

  good_each : (fs : List (formulas.Such Good)) → list_all (is_closed_formula m) (map (put args) (map (λ e. e.0) fs)) ≡ true
  unfolding Good
  good_each [] = refl
  good_each (f ∷ fs) = ap₂ (λ a b. a && b) f.1.0 (good_each fs)

  same_each : (fs : List (formulas.Such Good)) →
      list_all (λ b. b) (map divisors_above_zero (map (put args) (map (λ e. e.0) fs))) ≡ list_all (λ b. b) (map divisors_above_zero (map (λ e. e.0) fs))
  unfolding Good
  same_each [] = refl
  same_each (f ∷ fs) = ap₂ (λ a b. a && b) f.1.1 (same_each fs)

  good_at : (x : open'.Formula-F Formula) (y : Formula) → put args (roll-Formula x) ≡ y → is_closed_formula m y ≡ true → divisors_above_zero y ≡ divisors_step (map-Formula Formula Bool divisors_above_zero x) → Good (roll-Formula x)
  unfolding Good
  good_at x y e c d = (ap (is_closed_formula m) e ∙ c, ap divisors_above_zero e ∙ d ∙ sym (divisors_at x))

  good_step : (y : open'.Formula-F (formulas.Such Good)) → Good (roll-Formula (formulas.bare Good y))
  unfolding Good
  good_step open'.True = good_at open'.True form.True (formulas.put_at args open'.True)
      (ap (is_closed_formula m) (sym form.rolls-True) ∙ closed_at m open'.True) (ap divisors_above_zero (sym form.rolls-True) ∙ divisors_at open'.True)
  good_step open'.False = good_at open'.False form.False (formulas.put_at args open'.False)
      (ap (is_closed_formula m) (sym form.rolls-False) ∙ closed_at m open'.False) (ap divisors_above_zero (sym form.rolls-False) ∙ divisors_at open'.False)
  good_step (open'.Rel a r b) =
      let x = replaced args a in
      let y = replaced args b in
      good_at (open'.Rel a r b) (form.Rel x r y) (formulas.put_at args (open'.Rel a r b))
      (ap (is_closed_formula m) (sym (form.rolls-Rel x r y)) ∙ closed_at m (open'.Rel x r y) ∙ ap₂ (λ p q. p && q) (replaced_closed n m args a le h) (replaced_closed n m args b le h))
      (ap divisors_above_zero (sym (form.rolls-Rel x r y)) ∙ divisors_at (open'.Rel x r y))
  good_step (open'.Div d l) =
      let x = replaced args l in
      good_at (open'.Div d l) (form.Div d x) (formulas.put_at args (open'.Div d l))
      (ap (is_closed_formula m) (sym (form.rolls-Div d x)) ∙ closed_at m (open'.Div d x) ∙ replaced_closed n m args l le h)
      (ap divisors_above_zero (sym (form.rolls-Div d x)) ∙ divisors_at (open'.Div d x))
  good_step (open'.Not f) =
      let x = put args f.0 in
      good_at (open'.Not f.0) (form.Not x) (formulas.put_at args (open'.Not f.0))
      (ap (is_closed_formula m) (sym (form.rolls-Not x)) ∙ closed_at m (open'.Not x) ∙ f.1.0)
      (ap divisors_above_zero (sym (form.rolls-Not x)) ∙ divisors_at (open'.Not x) ∙ f.1.1)
  good_step (open'.And fs) =
      let gs : List Formula = map (λ (e : formulas.Such Good). e.0) fs in
      good_at (open'.And gs) (form.And (map (put args) gs)) (formulas.put_at args (open'.And gs))
      (is_closed-And m (map (put args) gs) ∙ good_each fs) (divisors_and (map (put args) gs) ∙ same_each fs)
  good_step (open'.Or fs) =
      let gs : List Formula = map (λ (e : formulas.Such Good). e.0) fs in
      good_at (open'.Or gs) (form.Or (map (put args) gs)) (formulas.put_at args (open'.Or gs))
      (is_closed-Or m (map (put args) gs) ∙ good_each fs) (divisors_or (map (put args) gs) ∙ same_each fs)
  good_step (open'.Imp f g) =
      let x = put args f.0 in
      let y = put args g.0 in
      good_at (open'.Imp f.0 g.0) (form.Imp x y) (formulas.put_at args (open'.Imp f.0 g.0))
      (ap (is_closed_formula m) (sym (form.rolls-Imp x y)) ∙ closed_at m (open'.Imp x y) ∙ ap₂ (λ p q. p && q) f.1.0 g.1.0)
      (ap divisors_above_zero (sym (form.rolls-Imp x y)) ∙ divisors_at (open'.Imp x y) ∙ ap₂ (λ p q. p && q) f.1.1 g.1.1)

  put_within : (k : ℕ) (f : Formula) → is_within k f ≡ true → is_within m (put args f) ≡ true
  unfolding Good
  put_within k f e = let g = formulas.induction Good good_step f in ap₂ (λ p q. p && q) g.0 (g.1 ∙ (both_true _ _ e).1)

-- ---- types

stops_more : (n : ℕ) (args : List Linear) → AllStop n args → AllStop (n + 1) (args ++ variable n ∷ [])
stops_more n args h =
    every_append (StopsBy (n + 1)) args (variable n ∷ [])
    (every_to (StopsBy n) (StopsBy (n + 1)) (λ a f j k lt. f j (omega arith) lt) args h)
    (λ j k lt. closed_term (n + 1) (variable n) (variable_closed n (n + 1) (omega arith)) j k lt, tt)

Fits : Ty → Type 0
Fits a = (k : ℕ) → is_within_type k a ≡ true → (n : ℕ) (args : List Linear) → AllStop n args → (m : ℕ) → n ≤ m → is_within_type m (put_type n args a) ≡ true

fits_at : (x : Layer) → ((k : ℕ) → within_step (map-Ty Ty (ℕ → Bool) (λ a j. is_within_type j a) x) k ≡ true → (n : ℕ) (args : List Linear) → AllStop n args → (m : ℕ) → n ≤ m → is_within_type m (type_step (puts x) n args) ≡ true) → Fits (roll-Ty x)
unfolding Fits
fits_at x h k e n args c m le = ap (is_within_type m) (put_at n args x) ∙ h k (sym (within_at k x) ∙ e) n args c m le

abbrev parts : List (ℕ × Such Fits) → List (ℕ × Ty)
parts ts = map (λ e. (e.0, e.1.0)) ts

fits_each : (ts : List (ℕ × Such Fits)) (k : ℕ) → list_all (λ (e : ℕ × (ℕ → Bool)). e.1 k) (map (λ (e : ℕ × Ty). (e.0, λ j. is_within_type j e.1)) (parts ts)) ≡ true →
    (n : ℕ) (args : List Linear) → AllStop n args → (m : ℕ) → n ≤ m → list_all (λ e. is_within_type m e.1) (put_choices n args (parts ts)) ≡ true
unfolding Fits
fits_each [] k e n args c m le = refl
fits_each (t ∷ ts) k e n args c m le =
    let g = both_true (is_within_type k t.1.0) _ e in
    ap₂ (λ a b. a && b) (t.1.1 k g.0 n args c m le) (fits_each ts k g.1 n args c m le)

fits_step : (y : Ty-F (Such Fits)) → Fits (roll-Ty (bare Fits y))
unfolding Fits
fits_step One = fits_at One (λ k e n args c m le. ap (is_within_type m) (sym ty.rolls-One) ∙ within_at m One)
fits_step (Plus ts) = fits_at (Plus (parts ts)) (λ k e n args c m le.
    ap (λ us. is_within_type m (ty.Plus us)) (parts_put n args (parts ts)) ∙ within_plus m (put_choices n args (parts ts)) ∙ fits_each ts k e n args c m le)
fits_step (With ts) = fits_at (With (parts ts)) (λ k e n args c m le.
    ap (λ us. is_within_type m (ty.With us)) (parts_put n args (parts ts)) ∙ within_with m (put_choices n args (parts ts)) ∙ fits_each ts k e n args c m le)
fits_step (Tensor a b) = fits_at (Tensor a.0 b.0) (λ k e n args c m le. let g = both_true _ _ e in
    within_tensor m (put_type n args a.0) (put_type n args b.0) ∙ ap₂ (λ p q. p && q) (a.1 k g.0 n args c m le) (b.1 k g.1 n args c m le))
fits_step (Lolli a b) = fits_at (Lolli a.0 b.0) (λ k e n args c m le. let g = both_true _ _ e in
    within_lolli m (put_type n args a.0) (put_type n args b.0) ∙ ap₂ (λ p q. p && q) (a.1 k g.0 n args c m le) (b.1 k g.1 n args c m le))
fits_step (Named i es) = fits_at (Named i es) (λ k e n args c m le. within_named m i (map (replaced args) es) ∙ each_replaced n m args es le c)
fits_step (Ex a) = fits_at (Ex a.0) (λ k e n args c m le.
    within_ex m (put_type (n + 1) (args ++ variable n ∷ []) a.0) ∙ a.1 (k + 1) e (n + 1) (args ++ variable n ∷ []) (stops_more n args c) (m + 1) (omega arith))
fits_step (All a) = fits_at (All a.0) (λ k e n args c m le.
    within_all m (put_type (n + 1) (args ++ variable n ∷ []) a.0) ∙ a.1 (k + 1) e (n + 1) (args ++ variable n ∷ []) (stops_more n args c) (m + 1) (omega arith))
fits_step (Assert f a) = fits_at (Assert f a.0) (λ k e n args c m le. let g = both_true _ _ e in
    within_assert m (put args f) (put_type n args a.0) ∙ ap₂ (λ p q. p && q) (put_within n m args le c k f g.0) (a.1 k g.1 n args c m le))
fits_step (Assume f a) = fits_at (Assume f a.0) (λ k e n args c m le. let g = both_true _ _ e in
    within_assume m (put args f) (put_type n args a.0) ∙ ap₂ (λ p q. p && q) (put_within n m args le c k f g.0) (a.1 k g.1 n args c m le))
fits_step (Pays l a) = fits_at (Pays l a.0) (λ k e n args c m le. let g = both_true _ _ e in
    within_pays m (replaced args l) (put_type n args a.0) ∙ ap₂ (λ p q. p && q) (replaced_closed n m args l le c) (a.1 k g.1 n args c m le))
fits_step (Gets l a) = fits_at (Gets l a.0) (λ k e n args c m le. let g = both_true _ _ e in
    within_gets m (replaced args l) (put_type n args a.0) ∙ ap₂ (λ p q. p && q) (replaced_closed n m args l le c) (a.1 k g.1 n args c m le))
fits_step (Next l a) = fits_at (Next l a.0) (λ k e n args c m le. let g = both_true _ _ e in
    within_next m (replaced args l) (put_type n args a.0) ∙ ap₂ (λ p q. p && q) (replaced_closed n m args l le c) (a.1 k g.1 n args c m le))

-- a type at such terms is in scope
pub type_placed : (k n : ℕ) (args : List Linear) (a : Ty) → IsWithinType k a → AllStop n args → IsWithinType n (put_type n args a)
unfolding Fits
type_placed k n args a h c m le = induction Fits fits_step a k (h k (omega arith)) n args c m le

pub formula_placed : (k n : ℕ) (args : List Linear) (f : Formula) → IsWithin k f → AllStop n args → IsWithin n (put args f)
formula_placed k n args f h c m le = put_within n m args le c k f (h k (omega arith))
