-- A type whose divisors are at least 1 and in which only variables in scope occur is in scope.
use Rattle.std.proofs.Common.{◌≡◌, ℕ, ◌+◌, Bool, true, ◌&&◌, List, [], ◌∷◌, map, refl, sym, ap, ◌∙◌, subst}
use Rattle.std.specs.List.{list_all}
use Rattle.std.proofs.lemmas.Bool.{and_from, and_parts}
use Rattle.rast_index.specs.Truth.{is_closed_formula}
use Rattle.rast_index.specs.declared.formula.Formula.{Formula}
use Rattle.rast_cooper.specs.Divisors.{divisors_above_zero}
use Rattle.rast_cooper.specs.Verdicts.{is_within}
use Rattle.rast_types.specs.declared.ty.Ty.{Ty, roll-Ty}
use Rattle.rast_types.specs.declared.ty.Ty.TheOpen.{Ty-F, One, Plus, With, Tensor, Lolli, Named, Ex, All, Assert, Assume, Pays, Gets, Next}
use Rattle.rast_types.specs.declared.ty.Ty.TheFolds.{map-Ty, fold-roll-Ty, ind-Ty}
use Rattle.rast_types.specs.Symbolic.{is_scoped, scoped_step}
use Rattle.rast_equal.specs.Fit.{is_within_type, within_step}

abbrev Such : (Ty → Type 0) → Type 0
Such P = (a : Ty) × P a

InScope : Ty → Type 0
InScope a = (n : ℕ) → is_within_type n a ≡ true → is_scoped n a ≡ true

abbrev bare : Ty-F (Such InScope) → Ty-F Ty
bare y = map-Ty (Such InScope) Ty (λ e. e.0) y

abbrev bare_entry : (ℕ × Such InScope) → ℕ × Ty
bare_entry e = (e.0, e.1.0)

-- a test of each part of a layer
abbrev tests : (ℕ → Ty → Bool) → Ty-F Ty → Ty-F (ℕ → Bool)
tests f x = map-Ty Ty (ℕ → Bool) (λ a m. f m a) x

at_layer : (x : Ty-F Ty) → ((n : ℕ) → within_step (tests is_within_type x) n ≡ true → scoped_step (tests is_scoped x) n ≡ true) → InScope (roll-Ty x)
unfolding InScope
at_layer x f n h = ap (λ (s : ℕ → Bool). s n) (fold-roll-Ty (ℕ → Bool) scoped_step x) ∙ f n (sym (ap (λ (s : ℕ → Bool). s n) (fold-roll-Ty (ℕ → Bool) within_step x)) ∙ h)

-- both tests are true where both were, the second with more
two : (a b c d : Bool) → (a ≡ true → c ≡ true) → (b ≡ true → d ≡ true) → (a && b) ≡ true → (c && d) ≡ true
two a b c d f g h = let p = and_parts a b h in and_from c d (f p.0) (g p.1)

closed_within : (n : ℕ) (f : Formula) → is_within n f ≡ true → is_closed_formula n f ≡ true
closed_within n f h = (and_parts (is_closed_formula n f) (divisors_above_zero f) h).0

entries : (n : ℕ) (ts : List (ℕ × Such InScope)) → list_all (λ (e : ℕ × (ℕ → Bool)). e.1 n) (map (λ (e : ℕ × Ty). (e.0, λ m. is_within_type m e.1)) (map bare_entry ts)) ≡ true →
    list_all (λ (e : ℕ × (ℕ → Bool)). e.1 n) (map (λ (e : ℕ × Ty). (e.0, λ m. is_scoped m e.1)) (map bare_entry ts)) ≡ true
unfolding InScope
entries n [] h = refl
entries n (t ∷ ts) h = two _ _ _ _ (t.1.1 n) (entries n ts) h

step : (y : Ty-F (Such InScope)) → InScope (roll-Ty (bare y))
unfolding InScope
step One = at_layer One (λ n h. refl)
step (Plus ts) = at_layer (Plus (map bare_entry ts)) (λ n h. entries n ts h)
step (With ts) = at_layer (With (map bare_entry ts)) (λ n h. entries n ts h)
step (Tensor a b) = at_layer (Tensor a.0 b.0) (λ n h. two _ _ _ _ (a.1 n) (b.1 n) h)
step (Lolli a b) = at_layer (Lolli a.0 b.0) (λ n h. two _ _ _ _ (a.1 n) (b.1 n) h)
step (Named k es) = at_layer (Named k es) (λ n h. h)
step (Ex a) = at_layer (Ex a.0) (λ n h. a.1 (n + 1) h)
step (All a) = at_layer (All a.0) (λ n h. a.1 (n + 1) h)
step (Assert f a) = at_layer (Assert f a.0) (λ n h. two _ _ _ _ (closed_within n f) (a.1 n) h)
step (Assume f a) = at_layer (Assume f a.0) (λ n h. two _ _ _ _ (closed_within n f) (a.1 n) h)
step (Pays p a) = at_layer (Pays p a.0) (λ n h. two _ _ _ _ (λ c. c) (a.1 n) h)
step (Gets p a) = at_layer (Gets p a.0) (λ n h. two _ _ _ _ (λ c. c) (a.1 n) h)
step (Next l a) = at_layer (Next l a.0) (λ n h. two _ _ _ _ (λ c. c) (a.1 n) h)

pub scoped_within : (n : ℕ) (a : Ty) → is_within_type n a ≡ true → is_scoped n a ≡ true
unfolding InScope
scoped_within n a h = ind-Ty InScope (λ x y e. subst (λ z. InScope (roll-Ty z)) e (step y)) a n h
