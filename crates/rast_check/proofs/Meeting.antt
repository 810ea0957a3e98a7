-- What is met at two types in scope is in scope.
use Rattle.std.proofs.Common.{arith, ◌≡◌, ℕ, ◌+◌, ◌<◌, ◌≤◌, ◌||◌, ⊎_elim, Bool, true, false, cond, List, [], ◌∷◌, ◌++◌, map, Option, Some, None, refl, sym, ap, ◌∙◌, subst}
use Rattle.std.specs.Prelude.{flat_map}
use Rattle.std.specs.List.{list_all, AllByRecursion}
use Rattle.std.proofs.lemmas.Bool.{cases_lt, le-ltb, lt-ltb}
use Rattle.rast_cooper.proofs.Closed.{and_true}
use Rattle.rast_equal.proofs.Fits.{all_part, assert_parts, assume_parts, equal_within, ex_part, found_within, gets_parts, lolli_parts, nought_closed, pair_fit, bound_fit, pays_parts, plus_parts, tensor_parts, under_scope, with_parts}
use Rattle.rast_equal.proofs.Showing.{timed_fit}
use Rattle.rast_equal.proofs.Walks.{meets_heads, meets_left, meets_name, meets_over, meets_right}
use Rattle.rast_equal.specs.Fit.{AreWithinTypes, IsClosedFrom, IsFit, IsFitMet, IsScope, IsWithin, IsWithinType, is_within_type}
use Rattle.rast_equal.specs.Walk.{Walker, all_of, at_label, bind, both, choices, down, heads, heads_of, meets, pair, under, walker}
use Rattle.rast_equal.specs.declared.answer.Part.TheVariants.{Label, First, Second, Inner}
use Rattle.rast_equal.specs.declared.met.Met.{Met}
use Rattle.rast_equal.specs.declared.met.Met.TheVariants.{Wants, Names, Differs, Shuffled, Over}
use Rattle.rast_equal.specs.declared.place.Place.{Place}
use Rattle.rast_index.specs.Keys.{find_key}
use Rattle.rast_index.specs.Linear.{Linear, nought}
use Rattle.rast_index.specs.Truth.{is_equal}
use Rattle.rast_index.specs.declared.formula.Formula.{Formula}
use Rattle.rast_types.proofs.Binders.{Such, bare, induction}
use Rattle.rast_types.proofs.Layers.{timed_next, timed_none}
use Rattle.rast_types.specs.Closed.{Layer}
use Rattle.rast_types.specs.Symbolic.{is_name, is_next, is_next_layer, timed}
use Rattle.rast_types.specs.declared.ty.Ty.{Ty, out-Ty, roll-Ty, roll-out-Ty}
use Rattle.rast_types.specs.declared.ty.Ty.TheFolds.{map-Ty}
use Rattle.rast_types.specs.declared.ty.Ty.TheOpen.{Ty-F, One, Plus, With, Tensor, Lolli, Named, Ex, All as Each, Assert, Assume, Pays, Gets, Next}
use Rattle.rast_types.specs.declared.ty.Ty.TheVariants as ty
use Rattle.rast_check.proofs.Every.{every_append}

-- of two types at a place where both are in scope
Met_well : Ty → Ty → Type 0
Met_well a b = (p : Place) → IsFit (pair p a b) → AllByRecursion IsFitMet (meets a b p)

Meets : Ty → Type 0
Meets a = (b : Ty) → Met_well a b

-- of the heads of two types
HeadsFit : Ty → Type 0
HeadsFit a = (b : Ty) (p : Place) → IsScope p → IsWithinType p.vars a → IsWithinType p.vars b → AllByRecursion IsFitMet (all_of (heads_of a b p))

Whole : Ty → Type 0
Whole a = Meets a × HeadsFit a

is_mets : (xs ys : List Met) → xs ≡ ys → AllByRecursion IsFitMet ys → AllByRecursion IsFitMet xs
is_mets xs ys e h = subst (AllByRecursion IsFitMet) (sym e) h

abbrev parts : List (ℕ × Such Whole) → List (ℕ × Ty)
parts ts = map (λ e. (e.0, e.1.0)) ts

-- ---- two heads

one_label : (e : ℕ × Such Whole) (us : List (ℕ × Ty)) (p : Place) → IsScope p → IsWithinType p.vars e.1.0 → AreWithinTypes p.vars us → (o : Option Ty) → find_key e.0 us ≡ o → AllByRecursion IsFitMet (at_label p (e.0, walker e.1.0) o)
unfolding Whole Meets Met_well
one_label e us p s h k None f = tt
one_label e us p s h k (Some b) f = e.1.1.0 b (down (Label e.0) p) (pair_fit p (Label e.0) e.1.0 b s h (found_within p.vars e.0 us b f k))

each_label : (ts : List (ℕ × Such Whole)) (us : List (ℕ × Ty)) (p : Place) → IsScope p → AreWithinTypes p.vars (parts ts) → AreWithinTypes p.vars us →
    AllByRecursion IsFitMet (flat_map (λ (e : ℕ × Walker). at_label p e (find_key e.0 us)) (map (λ (e : ℕ × Ty). (e.0, walker e.1)) (parts ts)))
each_label [] us p s h k = tt
each_label (e ∷ ts) us p s h k =
    every_append IsFitMet (at_label p (e.0, walker e.1.0) (find_key e.0 us)) _
    (one_label e us p s (λ m le. (and_true (is_within_type m e.1.0) (list_all (λ (x : ℕ × Ty). is_within_type m x.1) (parts ts)) (h m le)).0) k (find_key e.0 us) refl)
    (each_label ts us p s (λ m le. (and_true (is_within_type m e.1.0) (list_all (λ (x : ℕ × Ty). is_within_type m x.1) (parts ts)) (h m le)).1) k)

order_fit : (b : Bool) (p : Place) → AllByRecursion IsFitMet (cond b [] (Shuffled p ∷ []))
order_fit true p = tt
order_fit false p = (tt, tt)

chosen_fit : (same order : Bool) (p : Place) (ms : List Met) → IsScope p → AllByRecursion IsFitMet ms → AllByRecursion IsFitMet (all_of (cond same (record { own = cond order [] (Shuffled p ∷ []); parts = ms }) (record { own = Differs p ∷ []; parts = [] })))
chosen_fit true order p ms s h = every_append IsFitMet (cond order [] (Shuffled p ∷ [])) ms (order_fit order p) h
chosen_fit false order p ms s h = (s, tt)

choices_fit : (ts : List (ℕ × Such Whole)) (us : List (ℕ × Ty)) (p : Place) → IsScope p → AreWithinTypes p.vars (parts ts) → AreWithinTypes p.vars us →
    AllByRecursion IsFitMet (all_of (choices (map (λ (e : ℕ × Ty). (e.0, walker e.1)) (parts ts)) us p))
choices_fit ts us p s h k = chosen_fit _ _ p _ s (each_label ts us p s h k)

abbrev Inside : ℕ → Layer → Type 0
Inside n x = IsWithinType n (roll-Ty x)

abbrev walked : Ty-F (Such Whole) → Ty-F Walker
walked y = map-Ty Ty Walker walker (bare Whole y)

abbrev FitHeads : Ty-F (Such Whole) → Layer → Place → Type 0
FitHeads y x p = IsScope p → Inside p.vars (bare Whole y) → Inside p.vars x → AllByRecursion IsFitMet (all_of (heads (walked y) x p))

-- what is known of a head that was rolled
rolled : (n : ℕ) (x : Layer) (a : Ty) → roll-Ty x ≡ a → Inside n x → IsWithinType n a
rolled n x a e h = subst (IsWithinType n) e h

two_fit : (a b : Such Whole) (c d : Ty) (p : Place) → IsScope p → IsWithinType p.vars a.0 × IsWithinType p.vars b.0 → IsWithinType p.vars c × IsWithinType p.vars d →
    AllByRecursion IsFitMet (meets a.0 c (down First p) ++ meets b.0 d (down Second p))
unfolding Whole Meets Met_well
two_fit a b c d p s g f =
    every_append IsFitMet (meets a.0 c (down First p)) (meets b.0 d (down Second p))
    (a.1.0 c (down First p) (pair_fit p First a.0 c s g.0 f.0)) (b.1.0 d (down Second p) (pair_fit p Second b.0 d s g.1 f.1))

bound_met : (a : Such Whole) (b : Ty) (p : Place) → IsScope p → IsWithinType (p.vars + 1) a.0 → IsWithinType (p.vars + 1) b → AllByRecursion IsFitMet (meets a.0 b (down Inner (bind p)))
unfolding Whole Meets Met_well
bound_met a b p s h k = a.1.0 b (down Inner (bind p)) (bound_fit p Inner a.0 b s h k)

formulas_fit : (f g : Formula) (a : Such Whole) (b : Ty) (p : Place) → IsScope p → IsWithin p.vars f × IsWithinType p.vars a.0 → IsWithin p.vars g × IsWithinType p.vars b →
    AllByRecursion IsFitMet (both f g p ++ meets a.0 b (down Inner (under f p)))
unfolding Whole Meets Met_well
formulas_fit f g a b p s i j =
    let u = under_scope p f s i.0 in
    let v = under_scope p g s j.0 in
    (record { scope = u; within = j.0 }, (record { scope = v; within = i.0 }, a.1.0 b (down Inner (under f p)) (pair_fit (under f p) Inner a.0 b u i.1 j.1)))

potentials_fit : (l m : Linear) (a : Such Whole) (b : Ty) (p : Place) → IsScope p → IsClosedFrom p.vars l × IsWithinType p.vars a.0 → IsClosedFrom p.vars m × IsWithinType p.vars b →
    AllByRecursion IsFitMet ((Wants p (is_equal l m) ∷ []) ++ meets a.0 b (down Inner p))
unfolding Whole Meets Met_well
potentials_fit l m a b p s i j = (record { scope = s; within = equal_within p.vars l m i.0 j.0 }, a.1.0 b (down Inner p) (pair_fit p Inner a.0 b s i.1 j.1))

heads_fit : (y : Ty-F (Such Whole)) (x : Layer) (p : Place) → FitHeads y x p
heads_fit One One p s h k = tt
heads_fit (Plus ts) (Plus us) p s h k =
    choices_fit ts us p s (plus_parts p.vars (parts ts) (rolled p.vars (Plus (parts ts)) (ty.Plus (parts ts)) (ty.rolls-Plus (parts ts)) h)) (plus_parts p.vars us (rolled p.vars (Plus us) (ty.Plus us) (ty.rolls-Plus us) k))
heads_fit (With ts) (With us) p s h k =
    choices_fit ts us p s (with_parts p.vars (parts ts) (rolled p.vars (With (parts ts)) (ty.With (parts ts)) (ty.rolls-With (parts ts)) h)) (with_parts p.vars us (rolled p.vars (With us) (ty.With us) (ty.rolls-With us) k))
heads_fit (Tensor a b) (Tensor c d) p s h k =
    two_fit a b c d p s (tensor_parts p.vars a.0 b.0 (rolled p.vars (Tensor a.0 b.0) (ty.Tensor a.0 b.0) (ty.rolls-Tensor a.0 b.0) h)) (tensor_parts p.vars c d (rolled p.vars (Tensor c d) (ty.Tensor c d) (ty.rolls-Tensor c d) k))
heads_fit (Lolli a b) (Lolli c d) p s h k =
    two_fit a b c d p s (lolli_parts p.vars a.0 b.0 (rolled p.vars (Lolli a.0 b.0) (ty.Lolli a.0 b.0) (ty.rolls-Lolli a.0 b.0) h)) (lolli_parts p.vars c d (rolled p.vars (Lolli c d) (ty.Lolli c d) (ty.rolls-Lolli c d) k))
heads_fit (Ex a) (Ex b) p s h k =
    bound_met a b p s (ex_part p.vars a.0 (rolled p.vars (Ex a.0) (ty.Ex a.0) (ty.rolls-Ex a.0) h)) (ex_part p.vars b (rolled p.vars (Ex b) (ty.Ex b) (ty.rolls-Ex b) k))
heads_fit (Each a) (Each b) p s h k =
    bound_met a b p s (all_part p.vars a.0 (rolled p.vars (Each a.0) (ty.All a.0) (ty.rolls-All a.0) h)) (all_part p.vars b (rolled p.vars (Each b) (ty.All b) (ty.rolls-All b) k))
heads_fit (Assert f a) (Assert g b) p s h k =
    formulas_fit f g a b p s (assert_parts p.vars f a.0 (rolled p.vars (Assert f a.0) (ty.Assert f a.0) (ty.rolls-Assert f a.0) h)) (assert_parts p.vars g b (rolled p.vars (Assert g b) (ty.Assert g b) (ty.rolls-Assert g b) k))
heads_fit (Assume f a) (Assume g b) p s h k =
    formulas_fit f g a b p s (assume_parts p.vars f a.0 (rolled p.vars (Assume f a.0) (ty.Assume f a.0) (ty.rolls-Assume f a.0) h)) (assume_parts p.vars g b (rolled p.vars (Assume g b) (ty.Assume g b) (ty.rolls-Assume g b) k))
heads_fit (Pays l a) (Pays m b) p s h k =
    potentials_fit l m a b p s (pays_parts p.vars l a.0 (rolled p.vars (Pays l a.0) (ty.Pays l a.0) (ty.rolls-Pays l a.0) h)) (pays_parts p.vars m b (rolled p.vars (Pays m b) (ty.Pays m b) (ty.rolls-Pays m b) k))
heads_fit (Gets l a) (Gets m b) p s h k =
    potentials_fit l m a b p s (gets_parts p.vars l a.0 (rolled p.vars (Gets l a.0) (ty.Gets l a.0) (ty.rolls-Gets l a.0) h)) (gets_parts p.vars m b (rolled p.vars (Gets m b) (ty.Gets m b) (ty.rolls-Gets m b) k))
heads_fit y x p s h k = (s, tt)

-- ---- any two types

scope_of : (a b : Ty) (p : Place) → IsFit (pair p a b) → p.vars ≤ 16 → IsScope p
scope_of a b p fit few = record { few = few; premises = fit.premises }

or_right : (b c : Bool) → c ≡ true → (b || c) ≡ true
or_right true c e = refl
or_right false c e = e

-- too many variables, or a name
plain_fit : (a b : Ty) (p : Place) → IsFit (pair p a b) → (p.vars ≤ 16 → is_name a ≡ false → is_name b ≡ false → AllByRecursion IsFitMet (meets a b p)) → AllByRecursion IsFitMet (meets a b p)
plain_fit a b p fit go =
    ⊎_elim (λ (lt : p.vars < 17). first (omega arith) (is_name a) refl)
    (λ (past : 17 ≤ p.vars). is_mets (meets a b p) (Over ∷ []) (meets_over a b p (lt-ltb 16 p.vars (omega arith))) (tt, tt)) (cases_lt p.vars 17)
  where
    named : p.vars ≤ 16 → (is_name a || is_name b) ≡ true → AllByRecursion IsFitMet (meets a b p)
    named few e = is_mets (meets a b p) (Names p a b ∷ []) (meets_name a b p (le-ltb 16 p.vars few) e) (record { scope = scope_of a b p fit few; left = fit.left; right = fit.right }, tt)

    second : p.vars ≤ 16 → is_name a ≡ false → (n : Bool) → is_name b ≡ n → AllByRecursion IsFitMet (meets a b p)
    second few e true f = named few (or_right (is_name a) (is_name b) f)
    second few e false f = go few e f

    first : p.vars ≤ 16 → (n : Bool) → is_name a ≡ n → AllByRecursion IsFitMet (meets a b p)
    first few true e = named few (ap (λ m. m || is_name b) e)
    first few false e = second few e (is_name b) refl

-- the ticks of two types, and then their bodies
ticks_fit : (a b : Ty) (p : Place) → IsFit (pair p a b) → p.vars ≤ 16 → meets a b p ≡ Wants p (is_equal (timed a).ticks (timed b).ticks) ∷ meets (timed a).body (timed b).body p →
    (IsFit (pair p (timed a).body (timed b).body) → AllByRecursion IsFitMet (meets (timed a).body (timed b).body p)) → AllByRecursion IsFitMet (meets a b p)
ticks_fit a b p fit few is go =
    let u = timed_fit p.vars a fit.left in
    let v = timed_fit p.vars b fit.right in
    is_mets (meets a b p) (Wants p (is_equal (timed a).ticks (timed b).ticks) ∷ meets (timed a).body (timed b).body p) is
    (record { scope = scope_of a b p fit few; within = equal_within p.vars (timed a).ticks (timed b).ticks u.0 v.0 }, go (record { few = fit.few; premises = fit.premises; left = u.1; right = v.1 }))

out_rolled : (x : Layer) → out-Ty (roll-Ty x) ≡ x
out_rolled One = ap out-Ty ty.rolls-One ∙ ty.outs-One
out_rolled (Plus ts) = ap out-Ty (ty.rolls-Plus ts) ∙ ty.outs-Plus ts
out_rolled (With ts) = ap out-Ty (ty.rolls-With ts) ∙ ty.outs-With ts
out_rolled (Tensor a b) = ap out-Ty (ty.rolls-Tensor a b) ∙ ty.outs-Tensor a b
out_rolled (Lolli a b) = ap out-Ty (ty.rolls-Lolli a b) ∙ ty.outs-Lolli a b
out_rolled (Named k es) = ap out-Ty (ty.rolls-Named k es) ∙ ty.outs-Named k es
out_rolled (Ex a) = ap out-Ty (ty.rolls-Ex a) ∙ ty.outs-Ex a
out_rolled (Each a) = ap out-Ty (ty.rolls-All a) ∙ ty.outs-All a
out_rolled (Assert f a) = ap out-Ty (ty.rolls-Assert f a) ∙ ty.outs-Assert f a
out_rolled (Assume f a) = ap out-Ty (ty.rolls-Assume f a) ∙ ty.outs-Assume f a
out_rolled (Pays l a) = ap out-Ty (ty.rolls-Pays l a) ∙ ty.outs-Pays l a
out_rolled (Gets l a) = ap out-Ty (ty.rolls-Gets l a) ∙ ty.outs-Gets l a
out_rolled (Next l a) = ap out-Ty (ty.rolls-Next l a) ∙ ty.outs-Next l a

-- a claim on the parts of a next is one on its body
body_of : (P : Ty → Type 0) (y : Ty-F (Such P)) → is_next_layer (bare P y) ≡ true → P (timed (roll-Ty (bare P y))).body
body_of P (Next l c) e = subst P (sym (ap (λ t. t.body) (timed_next (roll-Ty (Next l c.0)) c.0 l (out_rolled (Next l c.0))))) c.1
body_of P One e = absurd (cc)
body_of P (Plus ts) e = absurd (cc)
body_of P (With ts) e = absurd (cc)
body_of P (Tensor a b) e = absurd (cc)
body_of P (Lolli a b) e = absurd (cc)
body_of P (Named k es) e = absurd (cc)
body_of P (Ex a) e = absurd (cc)
body_of P (Each a) e = absurd (cc)
body_of P (Assert f a) e = absurd (cc)
body_of P (Assume f a) e = absurd (cc)
body_of P (Pays l a) e = absurd (cc)
body_of P (Gets l a) e = absurd (cc)

next_body : (P : Ty → Type 0) (y : Ty-F (Such P)) → is_next (roll-Ty (bare P y)) ≡ true → P (timed (roll-Ty (bare P y))).body
next_body P y e = body_of P y (sym (ap is_next_layer (out_rolled (bare P y))) ∙ e)

-- the first type is neither a name nor a next
right_step : (a : Ty) → HeadsFit a → is_next a ≡ false → (z : Ty-F (Such (Met_well a))) → Met_well a (roll-Ty (bare (Met_well a) z))
unfolding Met_well HeadsFit
right_step a h none z p fit = plain_fit a (roll-Ty (bare (Met_well a) z)) p fit (λ few e f. by few e f (is_next (roll-Ty (bare (Met_well a) z))) refl)
  where
    by : p.vars ≤ 16 → is_name a ≡ false → is_name (roll-Ty (bare (Met_well a) z)) ≡ false → (n : Bool) → is_next (roll-Ty (bare (Met_well a) z)) ≡ n → AllByRecursion IsFitMet (meets a (roll-Ty (bare (Met_well a) z)) p)
    by few e f true k =
        let b = roll-Ty (bare (Met_well a) z) in
        ticks_fit a b p fit few (meets_right a b p (le-ltb 16 p.vars few) e f none k)
        (λ g. subst (λ (c : Ty). IsFit (pair p c (timed b).body) → AllByRecursion IsFitMet (meets c (timed b).body p)) (sym (ap (λ t. t.body) (timed_none a none))) (next_body (Met_well a) z k p) g)
    by few e f false k =
        let b = roll-Ty (bare (Met_well a) z) in
        let s = scope_of a b p fit few in
        let o = nought_closed p.vars in
        is_mets (meets a b p) (Wants p (is_equal nought nought) ∷ all_of (heads_of a b p)) (meets_heads a b p (le-ltb 16 p.vars few) e f none k)
        (record { scope = s; within = equal_within p.vars nought nought o o }, h b p s fit.left fit.right)

left_fit : (a : Ty) → HeadsFit a → (is_next a ≡ true → Whole (timed a).body) → Meets a
unfolding Whole Meets Met_well
left_fit a h body b p fit = by (is_next a) refl
  where
    by : (n : Bool) → is_next a ≡ n → AllByRecursion IsFitMet (meets a b p)
    by true k = plain_fit a b p fit (λ few e f. ticks_fit a b p fit few (meets_left a b p (le-ltb 16 p.vars few) e f k) ((body k).0 (timed b).body p))
    by false k = induction (Met_well a) (right_step a h k) b p fit

rolled_heads : (y : Ty-F (Such Whole)) → HeadsFit (roll-Ty (bare Whole y))
unfolding HeadsFit
rolled_heads y b p s h k =
    subst (λ (x : Layer). AllByRecursion IsFitMet (all_of (heads (map-Ty Ty Walker walker x) (out-Ty b) p))) (sym (out_rolled (bare Whole y)))
    (heads_fit y (out-Ty b) p s h (subst (IsWithinType p.vars) (sym (roll-out-Ty b)) k))

whole_step : (y : Ty-F (Such Whole)) → Whole (roll-Ty (bare Whole y))
unfolding Whole
whole_step y = let h = rolled_heads y in (left_fit (roll-Ty (bare Whole y)) h (next_body Whole y), h)

-- what is met at two types in scope is in scope
pub meets_fit : (a b : Ty) (p : Place) → IsFit (pair p a b) → AllByRecursion IsFitMet (meets a b p)
unfolding Whole Meets Met_well
meets_fit a b p fit = (induction Whole whole_step a).0 b p fit

-- and so is what is met at two heads
pub heads_of_fit : (a b : Ty) (p : Place) → IsScope p → IsWithinType p.vars a → IsWithinType p.vars b → AllByRecursion IsFitMet (all_of (heads_of a b p))
unfolding Whole HeadsFit
heads_of_fit a b p s h k = (induction Whole whole_step a).1 b p s h k
