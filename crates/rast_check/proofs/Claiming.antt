-- What the rules ask of a type in scope is in scope.
use Rattle.std.proofs.Common.{arith, ◌≡◌, ℕ, ◌+◌, ◌<◌, ◌≤◌, ⊎_elim, Bool, true, ◌&&◌, List, [], ◌∷◌, ◌++◌, map, sym, ap, ap₂, ◌∙◌, subst}
use Rattle.std.specs.List.{list_all, AllByRecursion}
use Rattle.std.proofs.lemmas.Bool.{cases_lt, le-leb}
use Rattle.rast_cooper.proofs.Closed.{and_true}
use Rattle.rast_cooper.specs.Divisors.{divisors_step}
use Rattle.rast_cooper.specs.Verdicts.{is_within}
use Rattle.rast_equal.proofs.Claims.{claims_all, claims_assert, claims_assume, claims_ex, claims_gets, claims_lolli, claims_named, claims_next, claims_one, claims_over, claims_pays, claims_plus, claims_tensor, claims_with}
use Rattle.rast_equal.proofs.Fits.{all_append, all_part, assert_parts, assume_parts, ex_part, gets_parts, lolli_parts, next_parts, nought_closed, pays_parts, plus_parts, tensor_parts, with_parts, within_named}
use Rattle.rast_equal.specs.Fit.{AreWithin, AreWithinTypes, IsWithin, IsWithinType, is_within_type}
use Rattle.rast_equal.specs.Invalid.{choice_claims, natural_claims}
use Rattle.rast_equal.specs.Valid.{Claim, Asks, Shape, Over, claims_of, nonneg}
use Rattle.rast_index.specs.Linear.{Linear, is_closed, nought}
use Rattle.rast_index.specs.Truth.{closed_step}
use Rattle.rast_index.specs.declared.formula.Formula.{Formula}
use Rattle.rast_index.specs.declared.formula.Formula.TheFolds.{fold-roll-Formula}
use Rattle.rast_index.specs.declared.formula.Formula.TheOpen as open'
use Rattle.rast_index.specs.declared.formula.Formula.TheVariants as form
use Rattle.rast_index.specs.declared.formula.Rel.TheVariants as rel
use Rattle.rast_types.proofs.Binders.{Such, bare, induction}
use Rattle.rast_types.specs.Closed.{Table}
use Rattle.rast_types.specs.declared.ty.Ty.{Ty, roll-Ty}
use Rattle.rast_types.specs.declared.ty.Ty.TheOpen.{Ty-F, One, Plus, With, Tensor, Lolli, Named, Ex, All as Each, Assert, Assume, Pays, Gets, Next}
use Rattle.rast_types.specs.declared.ty.Ty.TheVariants as ty
use Rattle.rast_check.specs.Questions.{is_asked}
use Rattle.rast_check.proofs.Every.{every_append}

-- a rule on numbers in its scope
abbrev pub InScope : Claim → Type 0
InScope (Asks rule n ps goal) = is_asked n ps goal ≡ true
InScope (Shape rule n ok) = Unit {0}
InScope Over = Unit {0}

within_at_least : (m : ℕ) (a b : Linear) → is_within m (form.Rel a rel.Ge b) ≡ ((is_closed m a && is_closed m b) && true)
within_at_least m a b = ap (is_within m) (sym (form.rolls-Rel a rel.Ge b)) ∙ ap₂ (λ p q. p && q) (fold-roll-Formula Bool (closed_step m) (open'.Rel a rel.Ge b)) (fold-roll-Formula Bool divisors_step (open'.Rel a rel.Ge b))

natural_within : (n : ℕ) (l : Linear) → is_closed n l ≡ true → is_within n (nonneg l) ≡ true
natural_within n l h = within_at_least n l nought ∙ ap₂ (λ p q. (p && q) && true) h (nought_closed n n (omega arith))

asked_here : (n : ℕ) (ps : List Formula) (goal : Formula) → n ≤ 16 → AreWithin n ps → is_within n goal ≡ true → is_asked n ps goal ≡ true
asked_here n ps goal few w h = ap₂ (λ a b. a && b) (ap₂ (λ a b. a && b) (le-leb n 16 few) (w n (omega arith))) h

pub natural_asked : (n : ℕ) (ps : List Formula) (l : Linear) → n ≤ 16 → AreWithin n ps → is_closed n l ≡ true → is_asked n ps (nonneg l) ≡ true
natural_asked n ps l few w h = asked_here n ps (nonneg l) few w (natural_within n l h)

each_natural : (n : ℕ) (ps : List Formula) (ls : List Linear) → n ≤ 16 → AreWithin n ps → list_all (is_closed n) ls ≡ true → AllByRecursion InScope (natural_claims n ps ls)
each_natural n ps [] few w h = tt
each_natural n ps (l ∷ ls) few w h = let g = and_true (is_closed n l) (list_all (is_closed n) ls) h in (natural_asked n ps l few w g.0, each_natural n ps ls few w g.1)

more_premises : (n : ℕ) (ps : List Formula) (f : Formula) → AreWithin n ps → IsWithin n f → AreWithin n (ps ++ f ∷ [])
more_premises n ps f w h m le = all_append (is_within m) ps f (w m le) (h m le)

-- of a type in a scope of at most 16 variables
Scoped : Ty → Type 0
Scoped a = (t : Table) (n : ℕ) (ps : List Formula) → n ≤ 16 → AreWithin n ps → IsWithinType n a → AllByRecursion InScope (claims_of t n ps a)

is_claims : (xs ys : List Claim) → xs ≡ ys → AllByRecursion InScope ys → AllByRecursion InScope xs
is_claims xs ys e h = subst (AllByRecursion InScope) (sym e) h

-- in one more variable the rules stop, or it is in scope
one_more : (a : Ty) → Scoped a → (t : Table) (n : ℕ) (ps : List Formula) → AreWithin n ps → IsWithinType (n + 1) a → AllByRecursion InScope (claims_of t (n + 1) ps a)
unfolding Scoped
one_more a s t n ps w h =
    ⊎_elim (λ (lt : n + 1 < 17). s t (n + 1) ps (omega arith) (λ m le. w m (omega arith)) h)
    (λ (past : 17 ≤ n + 1). is_claims (claims_of t (n + 1) ps a) (Over ∷ []) (claims_over t (n + 1) ps a (omega arith)) (tt, tt)) (cases_lt (n + 1) 17)

abbrev parts : List (ℕ × Such Scoped) → List (ℕ × Ty)
parts ts = map (λ e. (e.0, e.1.0)) ts

scoped_each : (ts : List (ℕ × Such Scoped)) (t : Table) (n : ℕ) (ps : List Formula) → n ≤ 16 → AreWithin n ps → AreWithinTypes n (parts ts) → AllByRecursion InScope (choice_claims t n ps (parts ts))
unfolding Scoped
scoped_each [] t n ps few w h = tt
scoped_each (e ∷ ts) t n ps few w h =
    every_append InScope (claims_of t n ps e.1.0) (choice_claims t n ps (parts ts))
    (e.1.1 t n ps few w (λ m le. (and_true (is_within_type m e.1.0) (list_all (λ (x : ℕ × Ty). is_within_type m x.1) (parts ts)) (h m le)).0))
    (scoped_each ts t n ps few w (λ m le. (and_true (is_within_type m e.1.0) (list_all (λ (x : ℕ × Ty). is_within_type m x.1) (parts ts)) (h m le)).1))

scoped_step : (y : Ty-F (Such Scoped)) → Scoped (roll-Ty (bare Scoped y))
unfolding Scoped
scoped_step One = subst Scoped (sym ty.rolls-One) (λ t n ps few w h. is_claims _ [] (claims_one t n ps few) tt)
scoped_step (Plus ts) = subst Scoped (sym (ty.rolls-Plus (parts ts))) (λ t n ps few w h. is_claims _ (choice_claims t n ps (parts ts)) (claims_plus t n ps few (parts ts)) (scoped_each ts t n ps few w (plus_parts n (parts ts) h)))
scoped_step (With ts) = subst Scoped (sym (ty.rolls-With (parts ts))) (λ t n ps few w h. is_claims _ (choice_claims t n ps (parts ts)) (claims_with t n ps few (parts ts)) (scoped_each ts t n ps few w (with_parts n (parts ts) h)))
scoped_step (Tensor a b) = subst Scoped (sym (ty.rolls-Tensor a.0 b.0)) (λ t n ps few w h. let g = tensor_parts n a.0 b.0 h in
    is_claims _ (claims_of t n ps a.0 ++ claims_of t n ps b.0) (claims_tensor t n ps few a.0 b.0) (every_append InScope (claims_of t n ps a.0) (claims_of t n ps b.0) (a.1 t n ps few w g.0) (b.1 t n ps few w g.1)))
scoped_step (Lolli a b) = subst Scoped (sym (ty.rolls-Lolli a.0 b.0)) (λ t n ps few w h. let g = lolli_parts n a.0 b.0 h in
    is_claims _ (claims_of t n ps a.0 ++ claims_of t n ps b.0) (claims_lolli t n ps few a.0 b.0) (every_append InScope (claims_of t n ps a.0) (claims_of t n ps b.0) (a.1 t n ps few w g.0) (b.1 t n ps few w g.1)))
scoped_step (Named k es) = subst Scoped (sym (ty.rolls-Named k es)) (λ t n ps few w h.
    is_claims _ (natural_claims n ps es) (claims_named t n ps few k es) (each_natural n ps es few w (sym (within_named n k es) ∙ h n (omega arith))))
scoped_step (Ex a) = subst Scoped (sym (ty.rolls-Ex a.0)) (λ t n ps few w h. is_claims _ (claims_of t (n + 1) ps a.0) (claims_ex t n ps few a.0) (one_more a.0 a.1 t n ps w (ex_part n a.0 h)))
scoped_step (Each a) = subst Scoped (sym (ty.rolls-All a.0)) (λ t n ps few w h. is_claims _ (claims_of t (n + 1) ps a.0) (claims_all t n ps few a.0) (one_more a.0 a.1 t n ps w (all_part n a.0 h)))
scoped_step (Assert f a) = subst Scoped (sym (ty.rolls-Assert f a.0)) (λ t n ps few w h. let g = assert_parts n f a.0 h in
    is_claims _ (claims_of t n (ps ++ f ∷ []) a.0) (claims_assert t n ps few f a.0) (a.1 t n (ps ++ f ∷ []) few (more_premises n ps f w g.0) g.1))
scoped_step (Assume f a) = subst Scoped (sym (ty.rolls-Assume f a.0)) (λ t n ps few w h. let g = assume_parts n f a.0 h in
    is_claims _ (claims_of t n (ps ++ f ∷ []) a.0) (claims_assume t n ps few f a.0) (a.1 t n (ps ++ f ∷ []) few (more_premises n ps f w g.0) g.1))
scoped_step (Pays l a) = subst Scoped (sym (ty.rolls-Pays l a.0)) (λ t n ps few w h. let g = pays_parts n l a.0 h in
    is_claims _ ((Asks 3 n ps (nonneg l) ∷ []) ++ claims_of t n ps a.0) (claims_pays t n ps few l a.0) (natural_asked n ps l few w (g.0 n (omega arith)), a.1 t n ps few w g.1))
scoped_step (Gets l a) = subst Scoped (sym (ty.rolls-Gets l a.0)) (λ t n ps few w h. let g = gets_parts n l a.0 h in
    is_claims _ ((Asks 3 n ps (nonneg l) ∷ []) ++ claims_of t n ps a.0) (claims_gets t n ps few l a.0) (natural_asked n ps l few w (g.0 n (omega arith)), a.1 t n ps few w g.1))
scoped_step (Next l a) = subst Scoped (sym (ty.rolls-Next l a.0)) (λ t n ps few w h. let g = next_parts n l a.0 h in
    is_claims _ _ (claims_next t n ps few l a.0) (natural_asked n ps l few w (g.0 n (omega arith)), (tt, a.1 t n ps few w g.1)))

-- what the rules ask of a type in scope is in scope
pub claims_scoped : (t : Table) (n : ℕ) (ps : List Formula) (a : Ty) → n ≤ 16 → AreWithin n ps → IsWithinType n a → AllByRecursion InScope (claims_of t n ps a)
unfolding Scoped
claims_scoped t n ps a few w h = induction Scoped scoped_step a t n ps few w h
