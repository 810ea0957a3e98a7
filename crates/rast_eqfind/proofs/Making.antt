-- New equations, and searches that have made some.
use Rattle.std.proofs.Common.{◌≡◌, ℕ, zero, suc, ◌+◌, ◌<◌, ◌≤◌, true, List, [], ◌∷◌, ◌++◌, length, sym, ◌∙◌, ap, ap₂, refl, subst, arith, Option, Some, None, Ok, length-append}
use Rattle.std.specs.Prelude.{slice_get, slice_set}
use Rattle.std.specs.List.{AllByRecursion}
use Rattle.std.proofs.lemmas.List.Elements.{All-append, All-cons, All-from_recursion, All-nil, recursion_from_All}
use Rattle.rast_cooper.specs.Verdicts.{is_within}
use Rattle.rast_index.proofs.Scope.{both_true}
use Rattle.rast_index.specs.Linear.{Linear, variables}
use Rattle.rast_index.specs.declared.formula.Formula.{Formula}
use Rattle.rast_index.specs.declared.formula.Formula.TheVariants as form
use Rattle.rast_types.specs.Closed.{Table}
use Rattle.rast_types.specs.declared.equation.Equation.{Equation}
use Rattle.rast_types.specs.declared.equation.Ref.TheVariants.{Eq}
use Rattle.rast_types.specs.declared.ty.Ty.{Ty}
use Rattle.rast_equal.specs.declared.place.Place.{Place}
use Rattle.rast_equal.specs.declared.walk.Shown.{Shown}
use Rattle.rast_equal.specs.Fit.{AreFit, AreWithin, IsFitEquation, IsWithin}
use Rattle.rast_equal.specs.Walk.{left}
use Rattle.rast_equal.proofs.Every.{all_get}
use Rattle.rast_equal.proofs.Scopes.{tests_and, tests_true}
use Rattle.rast_eqfind.specs.Answer.{IsFitSearch, Opens}
use Rattle.rast_eqfind.specs.Search.{Search, Test, based, closed_at, closed_some, instance_test, joined, made_by, meet_all, most_made, new_equation, new_ref, new_test, onward, opened_some, referred, walk_one, with_new}
use Rattle.rast_eqfind.specs.declared.choice.Test.TheVariants.{Serves}
use Rattle.rast_eqfind.proofs.Meeting.{one_is}
use Rattle.rast_eqfind.proofs.Sames.{length_set}

-- ---- a new equation

joined_within : (n : ℕ) (fs : List Formula) → AreWithin n fs → IsWithin n (joined fs)
joined_within n [] h = tests_true n form.True refl
joined_within n (f ∷ []) h = λ m le. (both_true (is_within m f) true (h m le)).0
joined_within n (f ∷ g ∷ fs) h = tests_and n (form.And (f ∷ g ∷ fs)) (f ∷ g ∷ fs) true refl h

pub new_fit : (e : Equation) (p : Place) (a b : Ty) → e ≡ new_equation p a b → AreFit p a b → IsFitEquation e
new_fit e p a b is h = subst IsFitEquation (sym is) (record {
  few = h.scope.few;
  premise = joined_within p.vars p.premises h.scope.premises;
  left = h.left;
  right = h.right;
})

pub new_tested : (e : Equation) (args : List Linear) (p : Place) (a b : Ty) → e ≡ new_equation p a b → args ≡ variables p.vars → instance_test e args p a b ≡ new_test p a b
new_tested e args p a b is h = ap₂ (λ (x : Equation) (ys : List Linear). instance_test x ys p a b) is h

-- its reference serves
pub made_serves : (known : List Equation) (e : Equation) (p : Place) (s now : Search) (t : Test) (k : ℕ) → t ≡ Serves → k ≡ suc (length known + length s.made) → now ≡ referred (Eq k (variables p.vars)) (with_new e p s) →
    IsFitSearch s → length s.made < most_made → IsFitEquation e → (made_by e (new_ref known s p) p s t ≡ Ok now) × IsFitSearch now
made_serves known e p s now t k serves num is fit room h =
    let at : made_by e (new_ref known s p) p s t ≡ Ok now =
    ap (made_by e (new_ref known s p) p s) serves ∙ ap (λ j. Ok (referred (Eq j (variables p.vars)) (with_new e p s))) (sym num) ∙ ap (λ (x : Search). Ok x) (sym is) in (
      at,
      subst IsFitSearch (sym is) (record {
        few = omega (arith, room, length-append s.made (e ∷ []));
        fit = All-append IsFitEquation s.made (e ∷ []) fit.fit (All-cons IsFitEquation e [] h (All-nil IsFitEquation));
      }),
    )

-- ---- the walk of an equation is over

every_set : {A : Type 0} (F : A → Type 0) (xs : List A) (i : ℕ) (x : A) → F x → AllByRecursion F xs → AllByRecursion F (slice_set xs i x)
every_set {A} F [] i x f h = tt
every_set {A} F (y ∷ xs) zero x f h = (f, h.1)
every_set {A} F (y ∷ xs) (suc i) x f h = (h.0, every_set F xs i x f h.1)

closed_fit : (i : ℕ) (s : Search) (o : Option Equation) → slice_get s.made i ≡ o → IsFitSearch s → IsFitSearch (closed_some i s o)
closed_fit i s None at h = h
closed_fit i s (Some e) at h =
    let g = all_get IsFitEquation s.made i e h.fit at in
    let done : Equation = record e { refs = s.refs } in
    record {
      few = subst (λ n. n ≤ most_made) (sym (length_set s.made i done)) h.few;
      fit = All-from_recursion IsFitEquation (slice_set s.made i done)
          (every_set IsFitEquation s.made i done (record { few = g.few; premise = g.premise; left = g.left; right = g.right }) (recursion_from_All IsFitEquation s.made h.fit));
    }

pub one_walks : (t : Table) (known : List Equation) (i : ℕ) (s begins walks now : Search) (x : Shown) → begins ≡ based i s → Opens (opened_some t (slice_get begins.made i)) (Ok x) →
    (meet_all known begins (x.own ++ left x.parts) ≡ Ok walks) × IsFitSearch walks → now ≡ closed_at i walks → (walk_one t known i s ≡ Ok now) × IsFitSearch now
one_walks t known i s begins walks now x is opens met closed =
    let o = subst (λ (y : Search). Opens (opened_some t (slice_get y.made i)) (Ok x)) is opens in
    let m = subst (λ (y : Search). meet_all known y (x.own ++ left x.parts) ≡ Ok walks) is met.0 in (
      one_is t known i s o.0 x o.1 o.2 ∙ ap (λ r. onward r (λ (y : Search). Ok (closed_at i y))) m ∙ ap (λ (y : Search). Ok y) (sym closed),
      subst IsFitSearch (sym closed) (closed_fit i walks (slice_get walks.made i) refl met.1),
    )
