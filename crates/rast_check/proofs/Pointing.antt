-- The points that a walk of two types asks are in scope.
use Rattle.std.proofs.Common.{arith, ◌≡◌, ℕ, Bool, true, false, ◌==◌, cond, List, [], ◌∷◌, length, Option, Some, None, refl, sym, ap, ap₂, ◌∙◌}
use Rattle.std.specs.Prelude.{All, ◌&&◌}
use Rattle.std.specs.List.{list_all, AllByRecursion}
use Rattle.std.proofs.lemmas.Bool.{le-leb}
use Rattle.rast_cooper.proofs.Closed.{and_true}
use Rattle.rast_cooper.specs.Verdicts.{is_within}
use Rattle.rast_equal.proofs.Differs.{rolled}
use Rattle.rast_equal.proofs.Fits.{equal_within, here_fit}
use Rattle.rast_equal.proofs.Demands.{name_args}
use Rattle.rast_check.proofs.Placing.{AllStop, closed_stop, formula_placed, type_placed}
use Rattle.rast_equal.proofs.Served.{numbered_fit}
use Rattle.rast_equal.specs.Fit.{AreClosed, AreFit, IsAsked, IsFitEquation, IsFitMet, IsScope, IsWithinType}
use Rattle.rast_equal.specs.Walk.{Point, Asks, Wanted, Never, TooMany, Bound, alike, alike_at, by_equation, by_name, by_ref, equal_points, if_made, instance_points, meets, names_layer, natural_points, numbered_from_1, or_refl, premise_points, same_points, serve, side_alike, top}
use Rattle.rast_equal.specs.declared.met.Met.{Met}
use Rattle.rast_equal.specs.declared.met.Met.TheVariants.{Wants, Names, Differs, Shuffled, Over}
use Rattle.rast_equal.specs.declared.place.Place.{Place}
use Rattle.rast_index.specs.Linear.{Linear, is_closed}
use Rattle.rast_index.specs.Truth.{is_equal, put, all_small, closed_step}
use Rattle.rast_index.specs.declared.formula.Formula.TheFolds.{fold-roll-Formula}
use Rattle.rast_index.specs.declared.formula.Formula.TheOpen as open'
use Rattle.rast_cooper.specs.Divisors.{divisors_step}
use Rattle.rast_index.specs.declared.formula.Formula.{Formula}
use Rattle.rast_index.specs.declared.formula.Formula.TheVariants as form
use Rattle.rast_types.specs.Closed.{Layer}
use Rattle.rast_types.specs.Symbolic.{is_deep, is_small_type, put_type}
use Rattle.rast_types.specs.declared.equation.Equation.{Equation}
use Rattle.rast_types.specs.declared.equation.Ref.{Ref}
use Rattle.rast_types.specs.declared.equation.Ref.TheVariants.{Refl, Eq}
use Rattle.rast_types.specs.declared.ty.Ty.{Ty, out-Ty}
use Rattle.rast_types.specs.declared.ty.Ty.TheOpen.{Named}
use Rattle.rast_types.specs.declared.ty.Ty.TheVariants as ty
use Rattle.rast_check.specs.Questions.{is_asked, is_placed}
use Rattle.rast_check.proofs.Claiming.{natural_asked}
use Rattle.rast_check.proofs.Every.{every_append, every_flat, every_to}
use Rattle.rast_check.proofs.Meeting.{meets_fit}

-- a formula that is asked in its scope
abbrev pub PointIn : Point → Type 0
PointIn (Asks p goal) = is_asked p.vars p.premises goal ≡ true
PointIn p = Unit {0}

pub asked_in : (p : Place) (goal : Formula) → IsAsked p goal → is_asked p.vars p.premises goal ≡ true
asked_in p goal h =
    let few = h.scope.few in
    ap₂ (λ a b. a && b) (ap₂ (λ a b. a && b) (le-leb p.vars 16 few) (h.scope.premises p.vars (omega arith))) (h.within p.vars (omega arith))

wanted_in : (p : Place) → AllByRecursion PointIn (Wanted p.path ∷ [])
wanted_in p = (tt, tt)

equals_in : (p : Place) (xs ys : List Linear) → IsScope p → AreClosed p.vars xs → AreClosed p.vars ys → AllByRecursion PointIn (equal_points p xs ys)
equals_in p [] ys s h k = tt
equals_in p (x ∷ xs) [] s h k = tt
equals_in p (x ∷ xs) (y ∷ ys) s h k = (
  asked_in p (is_equal x y) (record { scope = s; within = equal_within p.vars x y (λ m le. (and_true (is_closed m x) (list_all (is_closed m) xs) (h m le)).0) (λ m le. (and_true (is_closed m y) (list_all (is_closed m) ys) (k m le)).0) }),
  equals_in p xs ys s (λ m le. (and_true (is_closed m x) (list_all (is_closed m) xs) (h m le)).1) (λ m le. (and_true (is_closed m y) (list_all (is_closed m) ys) (k m le)).1),
)

same_name : (p : Place) (k j : ℕ) (xs ys : List Linear) (b : Bool) → IsScope p → AreClosed p.vars xs → AreClosed p.vars ys → AllByRecursion PointIn (cond b (equal_points p xs ys) (Wanted p.path ∷ []))
same_name p k j xs ys true s f g = equals_in p xs ys s f g
same_name p k j xs ys false s f g = (tt, tt)

second_in : (p : Place) (a b : Ty) (k : ℕ) (xs : List Linear) (y : Layer) → AreFit p a b → a ≡ ty.Named k xs → out-Ty b ≡ y → AllByRecursion PointIn (names_layer p (Named k xs) y)
second_in p a b k xs (Named j ys) h e f = same_name p k j xs ys (k == j) h.scope (name_args p.vars a k xs e h.left) (name_args p.vars b j ys (rolled b (Named j ys) f ∙ ty.rolls-Named j ys) h.right)
second_in p a b k xs y h e f = (tt, tt)

first_in : (p : Place) (a b : Ty) (x : Layer) → AreFit p a b → out-Ty a ≡ x → AllByRecursion PointIn (names_layer p x (out-Ty b))
first_in p a b (Named k xs) h e = second_in p a b k xs (out-Ty b) h (rolled a (Named k xs) e ∙ ty.rolls-Named k xs) refl
first_in p a b x h e = (tt, tt)

name_in : (p : Place) (a b : Ty) → AreFit p a b → AllByRecursion PointIn (by_name p a b)
name_in p a b h = first_in p a b (out-Ty a) h refl

false_within : (m : ℕ) → is_within m form.False ≡ true
false_within m = ap (is_within m) (sym form.rolls-False) ∙ ap₂ (λ p q. p && q) (fold-roll-Formula Bool (closed_step m) open'.False) (fold-roll-Formula Bool divisors_step open'.False)

-- ---- a walk without references

alike_met : (m : Met) → IsFitMet m → AllByRecursion PointIn (alike_at m)
alike_met (Wants p goal) h = (asked_in p goal h, tt)
alike_met (Names p a b) h = name_in p a b h
alike_met (Differs p) h = (tt, tt)
alike_met (Shuffled p) h = (tt, tt)
alike_met Over h = (tt, tt)

here : (p : Place) (a b : Ty) → AreFit p a b → AllByRecursion IsFitMet (meets a b p)
here p a b h = meets_fit a b p (here_fit p a b h.scope h.left h.right)

alike_in : (p : Place) (a b : Ty) → AreFit p a b → AllByRecursion PointIn (alike p a b)
alike_in p a b h = every_flat PointIn alike_at (meets a b p) (every_to IsFitMet (λ m. AllByRecursion PointIn (alike_at m)) alike_met (meets a b p) (here p a b h))

pub made_in : (deep small : Bool) (ps : List Point) → AllByRecursion PointIn ps → AllByRecursion PointIn (if_made deep small ps)
made_in true small ps h = (tt, tt)
made_in false true ps h = h
made_in false false ps h = (tt, tt)

-- ---- an equation at arguments

naturals_in : (p : Place) (args : List Linear) → IsScope p → list_all (is_closed p.vars) args ≡ true → AllByRecursion PointIn (natural_points p args)
naturals_in p [] s h = tt
naturals_in p (a ∷ args) s h = let g = and_true (is_closed p.vars a) (list_all (is_closed p.vars) args) h in (natural_asked p.vars p.premises a s.few s.premises g.0, naturals_in p args s g.1)

instance_in : (e : Equation) (args : List Linear) (p : Place) (a b : Ty) → IsFitEquation e → AreFit p a b → list_all (is_closed p.vars) args ≡ true → AllByRecursion PointIn (instance_points e args p a b)
instance_in e args p a b f h c =
    let s = closed_stop p.vars args c in
    every_append PointIn (natural_points p args) _ (naturals_in p args h.scope c)
    (every_append PointIn (premise_points p args e.premise) _
    (made_in false (all_small (put args e.premise)) (Asks p (put args e.premise) ∷ []) (asked_in p (put args e.premise) (record { scope = h.scope; within = formula_placed e.vars p.vars args e.premise f.premise s }), tt))
    (every_append PointIn (side_alike p a (put_type p.vars args e.left)) _ (side_in p a e.left h.scope h.left f.left s) (side_in p b e.right h.scope h.right f.right s)))
  where
    side_in : (p : Place) (c d : Ty) → IsScope p → IsWithinType p.vars c → IsWithinType e.vars d → AllStop p.vars args → AllByRecursion PointIn (side_alike p c (put_type p.vars args d))
    side_in p c d s h k t =
        let made = put_type p.vars args d in
        made_in (is_deep p.vars made) (is_small_type made) (alike p c made) (alike_in p c made (record { scope = s; left = h; right = type_placed e.vars p.vars args d k t }))

chosen_in : (x y : Bool) (ps : List Point) (p : Place) → (y ≡ true → AllByRecursion PointIn ps) → AllByRecursion PointIn (cond (x && y) ps (Wanted p.path ∷ []))
chosen_in false y ps p h = (tt, tt)
chosen_in true false ps p h = (tt, tt)
chosen_in true true ps p h = h refl

equation_in : (es : List Equation) (k : ℕ) (args : List Linear) (p : Place) (a b : Ty) (o : Option Equation) → All IsFitEquation es → numbered_from_1 es k ≡ o → AreFit p a b → AllByRecursion PointIn (by_equation o args p a b)
equation_in es k args p a b None f e h = (tt, tt)
equation_in es k args p a b (Some q) f e h = chosen_in (length args == q.vars) (list_all (is_closed p.vars) args) (instance_points q args p a b) p (instance_in q args p a b (numbered_fit es k q f (sym e)) h)

ref_in : (es : List Equation) (r : Ref) (p : Place) (a b : Ty) → All IsFitEquation es → AreFit p a b → AllByRecursion PointIn (by_ref es r p a b)
ref_in es Refl p a b f h = name_in p a b h
ref_in es (Eq k args) p a b f h = equation_in es k args p a b (numbered_from_1 es k) f refl h

-- ---- references

pub serve_in : (es : List Equation) (rs : List Ref) (ms : List Met) → All IsFitEquation es → AllByRecursion IsFitMet ms → AllByRecursion PointIn (serve es rs ms)
serve_in es [] [] f h = tt
serve_in es (r ∷ rs) [] f h = (tt, tt)
serve_in es [] (Wants p goal ∷ ms) f h = (asked_in p goal h.0, serve_in es [] ms f h.1)
serve_in es (r ∷ rs) (Wants p goal ∷ ms) f h = (asked_in p goal h.0, serve_in es (r ∷ rs) ms f h.1)
serve_in es [] (Names p a b ∷ ms) f h = (tt, tt)
serve_in es (r ∷ rs) (Names p a b ∷ ms) f h = every_append PointIn (by_ref es r p a b) (serve es rs ms) (ref_in es r p a b f h.0) (serve_in es rs ms f h.1)
serve_in es [] (Differs p ∷ ms) f h = (asked_in p form.False (record { scope = h.0; within = λ m le. false_within m }), serve_in es [] ms f h.1)
serve_in es (r ∷ rs) (Differs p ∷ ms) f h = (asked_in p form.False (record { scope = h.0; within = λ m le. false_within m }), serve_in es (r ∷ rs) ms f h.1)
serve_in es [] (Shuffled p ∷ ms) f h = serve_in es [] ms f h.1
serve_in es (r ∷ rs) (Shuffled p ∷ ms) f h = serve_in es (r ∷ rs) ms f h.1
serve_in es [] (Over ∷ ms) f h = (tt, tt)
serve_in es (r ∷ rs) (Over ∷ ms) f h = (tt, tt)

-- all that the equality of two types in scope asks
pub same_in : (es : List Equation) (n : ℕ) (ps : List Formula) (a b : Ty) (rs : List Ref) → All IsFitEquation es → AreFit (top n ps) a b → AllByRecursion PointIn (same_points es n ps a b rs)
same_in es n ps a b rs f h = serve_in es (or_refl rs (meets a b (top n ps))) (meets a b (top n ps)) f (here (top n ps) a b h)

-- ---- the test of all points

pub placed_all : (xs : List Point) → AllByRecursion PointIn xs → list_all is_placed xs ≡ true
placed_all [] h = refl
placed_all (x ∷ xs) h = ap₂ (λ a b. a && b) (one x h.0) (placed_all xs h.1)
  where
    one : (x : Point) → PointIn x → is_placed x ≡ true
    one (Asks p goal) h = h
    one (Wanted path) h = refl
    one (Never p) h = refl
    one TooMany h = refl
    one (Bound s) h = refl

pub all_in : (xs : List Point) → list_all is_placed xs ≡ true → AllByRecursion PointIn xs
all_in [] h = tt
all_in (x ∷ xs) h = let g = and_true (is_placed x) (list_all is_placed xs) h in (one x g.0, all_in xs g.1)
  where
    one : (x : Point) → is_placed x ≡ true → PointIn x
    one (Asks p goal) h = h
    one (Wanted path) h = tt
    one (Never p) h = tt
    one TooMany h = tt
    one (Bound s) h = tt
