-- Formulas in which only variables below a number occur and each divisor is at least 1, from their parts.
use Rattle.std.proofs.Common.{◌≡◌, ℕ, zero, suc, Bool, true, false, not, ◌&&◌, List, [], ◌∷◌, map, refl, ap₂, ◌∙◌, arith, subst}
use Rattle.std.proofs.lemmas.Bool.{lt-ltb}
use Rattle.std.specs.Prelude.{nat_lt, ◌==◌}
use Rattle.std.specs.List.{list_all}
use Rattle.rast_index.specs.Linear.{Linear}
use Rattle.rast_index.specs.Truth.{is_closed_formula, closed_step}
use Rattle.rast_index.specs.declared.formula.Rel.{Rel as Relation}
use Rattle.rast_index.specs.declared.formula.Formula.{Formula, roll-Formula}
use Rattle.rast_index.specs.declared.formula.Formula.TheVariants.{True, False, Rel, Div, Not, And, Or, Imp, rolls-True, rolls-False, rolls-Rel, rolls-Div, rolls-Not, rolls-And, rolls-Or, rolls-Imp}
use Rattle.rast_index.specs.declared.formula.Formula.TheOpen as layer
use Rattle.rast_index.specs.declared.formula.Formula.TheFolds.{map-Formula, fold-roll-Formula}
use Rattle.rast_cooper.specs.Divisors.{divisors_above_zero, divisors_step}
use Rattle.rast_formula.specs.Scopes.{is_scoped, is_good}
use Rattle.rast_formula.specs.Formulas.{joined}

both : (a b : Bool) → (a && b) ≡ true → (a ≡ true) × (b ≡ true)
both true b e = (refl, e)
both false b e = absurd (cc)

-- one layer, from what its parts say
at : (n : ℕ) (f : Formula) (x : layer.Formula-F Formula) → roll-Formula x ≡ f → closed_step n (map-Formula Formula Bool (is_closed_formula n) x) ≡ true → divisors_step (map-Formula Formula Bool divisors_above_zero x) ≡ true
    → is_good n f ≡ true
unfolding is_good
at n f x is closed above =
    subst (λ g. (is_closed_formula n g && divisors_above_zero g) ≡ true) is
    (ap₂ (λ a b. a && b) (fold-roll-Formula Bool (closed_step n) x ∙ closed) (fold-roll-Formula Bool divisors_step x ∙ above))

halves : (n : ℕ) (f : Formula) → is_good n f ≡ true → (is_closed_formula n f ≡ true) × (divisors_above_zero f ≡ true)
unfolding is_good
halves n f h = both _ _ h

lists : (n : ℕ) (fs : List Formula) → list_all (is_good n) fs ≡ true → (list_all (λ p. p) (map (is_closed_formula n) fs) ≡ true) × (list_all (λ p. p) (map divisors_above_zero fs) ≡ true)
lists n [] h = (refl, refl)
lists n (f ∷ fs) h =
    let g = both (is_good n f) _ h in
    let a = halves n f g.0 in
    let b = lists n fs g.1 in
    (ap₂ (λ x y. x && y) a.0 b.0, ap₂ (λ x y. x && y) a.1 b.1)

pub good_true : (n : ℕ) → is_good n True ≡ true
good_true n = at n True layer.True rolls-True refl refl

pub good_false : (n : ℕ) → is_good n False ≡ true
good_false n = at n False layer.False rolls-False refl refl

pub good_rel : (n : ℕ) (a b : Linear) (r : Relation) → is_scoped n a ≡ true → is_scoped n b ≡ true → is_good n (Rel a r b) ≡ true
unfolding is_scoped
good_rel n a b r h g = at n (Rel a r b) (layer.Rel a r b) (rolls-Rel a r b) (ap₂ (λ x y. x && y) h g) refl

above : (k : ℕ) → not (k == 0) ≡ true → nat_lt 0 k ≡ true
above zero h = absurd (cc)
above (suc k) h = lt-ltb 0 (suc k) (omega arith)

pub good_div : (n k : ℕ) (l : Linear) → not (k == 0) ≡ true → is_scoped n l ≡ true → is_good n (Div k l) ≡ true
unfolding is_scoped
good_div n k l h g = at n (Div k l) (layer.Div k l) (rolls-Div k l) g (above k h)

pub good_not : (n : ℕ) (f : Formula) → is_good n f ≡ true → is_good n (Not f) ≡ true
good_not n f h = let a = halves n f h in at n (Not f) (layer.Not f) (rolls-Not f) a.0 a.1

pub good_and : (n : ℕ) (fs : List Formula) → list_all (is_good n) fs ≡ true → is_good n (And fs) ≡ true
good_and n fs h = let a = lists n fs h in at n (And fs) (layer.And fs) (rolls-And fs) a.0 a.1

pub good_or : (n : ℕ) (fs : List Formula) → list_all (is_good n) fs ≡ true → is_good n (Or fs) ≡ true
good_or n fs h = let a = lists n fs h in at n (Or fs) (layer.Or fs) (rolls-Or fs) a.0 a.1

pub good_imp : (n : ℕ) (f g : Formula) → is_good n f ≡ true → is_good n g ≡ true → is_good n (Imp f g) ≡ true
good_imp n f g h k =
    let a = halves n f h in
    let b = halves n g k in
    at n (Imp f g) (layer.Imp f g) (rolls-Imp f g) (ap₂ (λ x y. x && y) a.0 b.0) (ap₂ (λ x y. x && y) a.1 b.1)

pub ruleset layers = (good_true, good_false, good_rel, good_div, good_not, good_and, good_or, good_imp)

pub good_any : (n : ℕ) (f : Formula) (fs : List Formula) → is_good n f ≡ true → list_all (is_good n) fs ≡ true → is_good n (joined Or f fs) ≡ true
good_any n f [] h g = h
good_any n f (x ∷ fs) h g = good_or n (f ∷ x ∷ fs) (ap₂ (λ a b. a && b) h g)

pub good_every : (n : ℕ) (f : Formula) (fs : List Formula) → is_good n f ≡ true → list_all (is_good n) fs ≡ true → is_good n (joined And f fs) ≡ true
good_every n f [] h g = h
good_every n f (x ∷ fs) h g = good_and n (f ∷ x ∷ fs) (ap₂ (λ a b. a && b) h g)
