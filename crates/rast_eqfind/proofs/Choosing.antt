-- What is chosen among equations, one after the other.
use Rattle.std.proofs.Common.{◌≡◌, ℕ, suc, ◌+◌, ◌<◌, ◌≤◌, true, false, List, [], ◌∷◌, ◌++◌, length, get_or, drop, sym, ◌∙◌, ap, ap₂, refl, subst, arith, Option, Some, None, Result, Ok, Err, cond}
use Rattle.std.specs.Prelude.{IfOk}
use Rattle.std.specs.List.{list_all}
use Rattle.std.proofs.lemmas.List.{drop_all}
use Rattle.rast_index.specs.Linear.{Linear, is_small}
use Rattle.rast_types.specs.declared.equation.Equation.{Equation}
use Rattle.rast_types.specs.declared.equation.Ref.TheVariants.{Eq}
use Rattle.rast_types.specs.declared.stop.Stop.{Stop}
use Rattle.rast_types.specs.declared.stop.Stop.TheVariants as stop
use Rattle.rast_types.specs.declared.ty.Ty.{Ty}
use Rattle.rast_equal.specs.declared.answer.SameErr.{SameErr}
use Rattle.rast_equal.specs.declared.answer.SameErr.TheVariants as err
use Rattle.rast_equal.specs.declared.place.Place.{Place}
use Rattle.rast_equal.specs.Fault.{Answers, Decides, first_fault}
use Rattle.rast_equal.specs.Walk.{Point}
use Rattle.rast_equal.proofs.Labels.{at_drop}
use Rattle.rast_eqfind.specs.Read.{arguments}
use Rattle.rast_eqfind.specs.Search.{Choice, Test, by_listed, instance, instance_test, is_making, listed, or_next, tested, tried}
use Rattle.rast_eqfind.specs.declared.choice.Choice.TheVariants.{Takes, Makes, Halts}
use Rattle.rast_eqfind.specs.declared.choice.Test.TheVariants.{Serves, Refuses, Reaches}

-- ---- what an answer says of a reference

pub test_serves : (o : Option SameErr) → o ≡ None → Serves ≡ tested o
test_serves o e = ap tested (sym e)

pub test_fails : (o : Option SameErr) (path : _) (vars : ℕ) (values : _) → o ≡ Some (err.Fails path vars values) → Refuses ≡ tested o
test_fails o path vars values e = ap tested (sym e)

pub test_wanted : (o : Option SameErr) (path : _) → o ≡ Some (err.Wanted path) → Refuses ≡ tested o
test_wanted o path e = ap tested (sym e)

pub test_left : (o : Option SameErr) → o ≡ Some err.Left → Refuses ≡ tested o
test_left o e = ap tested (sym e)

pub test_bound : (o : Option SameErr) (s : Stop) → o ≡ Some (err.Bound s) → Reaches s ≡ tested o
test_bound o s e = ap tested (sym e)

-- ---- an equation

pub instance_small : (e : Equation) (args : List Linear) (p : Place) (a b : Ty) → list_all is_small args ≡ true → instance e args p a b ≡ instance_test e args p a b
instance_small e args p a b h = ap (λ s. cond s (instance_test e args p a b) (Reaches stop.Coefficient)) h

pub instance_great : (e : Equation) (args : List Linear) (p : Place) (a b : Ty) → list_all is_small args ≡ false → instance e args p a b ≡ Reaches stop.Coefficient
instance_great e args p a b h = ap (λ s. cond s (instance_test e args p a b) (Reaches stop.Coefficient)) h

-- the arguments are within the limits, and the test says this
pub listed_small : (k : ℕ) (e : Equation) (p : Place) (a b : Ty) (args : List Linear) (t : Test) → (args ≡ arguments e p a b) × (list_all is_small (arguments e p a b) ≡ true) → t ≡ instance_test e args p a b →
    tried (Eq k args) t ≡ by_listed k e p a b
listed_small k e p a b args t h is =
    ap (tried (Eq k args)) (is ∙ ap (λ xs. instance_test e xs p a b) h.0 ∙ sym (instance_small e (arguments e p a b) p a b h.1))
    ∙ ap (λ xs. tried (Eq k xs) (instance e (arguments e p a b) p a b)) h.0

pub listed_great : (k : ℕ) (e : Equation) (p : Place) (a b : Ty) → list_all is_small (arguments e p a b) ≡ false → Halts stop.Coefficient ≡ by_listed k e p a b
listed_great k e p a b h = ap (tried (Eq k (arguments e p a b))) (sym (instance_great e (arguments e p a b) p a b h))

-- ---- one choice before another

pub first_stays : (c d : Choice) → is_making c ≡ false → c ≡ or_next c d
first_stays (Takes r) d e = refl
first_stays Makes d e = absurd (cc)
first_stays (Halts s) d e = refl

pub first_passes : (c d : Choice) → is_making c ≡ true → d ≡ or_next c d
first_passes (Takes r) d e = absurd (cc)
first_passes Makes d e = refl
first_passes (Halts s) d e = absurd (cc)

or_assoc : (a b c : Choice) → or_next (or_next a b) c ≡ or_next a (or_next b c)
or_assoc (Takes r) b c = refl
or_assoc Makes b c = refl
or_assoc (Halts s) b c = refl

pub listed_append : (xs ys : List Equation) (k j : ℕ) (p : Place) (a b : Ty) → j ≡ length xs + k → listed k (xs ++ ys) p a b ≡ or_next (listed k xs p a b) (listed j ys p a b)
listed_append [] ys k j p a b e = ap (λ n. listed n ys p a b) (let q : k ≡ j = omega (arith, e) in q)
listed_append (x ∷ xs) ys k j p a b e =
    ap (or_next (by_listed k x p a b)) (listed_append xs ys (suc k) j p a b (omega (arith, e))) ∙ sym (or_assoc (by_listed k x p a b) (listed (suc k) xs p a b) (listed j ys p a b))

-- of two lists
module _ (xs ys : List Equation) (p : Place) (a b : Ty) (c : Choice) (is : c ≡ listed 1 xs p a b) where
  both : or_next c (listed (length xs + 1) ys p a b) ≡ listed 1 (xs ++ ys) p a b
  both = ap (λ d. or_next d (listed (length xs + 1) ys p a b)) is ∙ sym (listed_append xs ys 1 (length xs + 1) p a b refl)

  pub both_first : is_making c ≡ false → c ≡ listed 1 (xs ++ ys) p a b
  both_first off = first_stays c (listed (length xs + 1) ys p a b) off ∙ both

  pub both_then : is_making c ≡ true → listed (length xs + 1) ys p a b ≡ listed 1 (xs ++ ys) p a b
  both_then on = first_passes c (listed (length xs + 1) ys p a b) on ∙ both

-- an answer that is the same by an equation
pub if_is : {A E : Type 0} (x y : A) (r : Result A E) → x ≡ y → IfOk r (λ z. z ≡ x) → IfOk r (λ z. z ≡ y)
if_is {A} {E} x y r e h = subst (λ w. IfOk r (λ z. z ≡ w)) e h

-- what was decided, said of the first that is wrong
pub answers_of : {X : Type 0} (ps : List Point) (r : Result X SameErr) → Decides ps r → Answers (first_fault ps) r
answers_of {X} ps (Ok x) h = h.0
answers_of {X} ps (Err e) h = h

-- ---- equations one after the other

module _ (first : ℕ) (es : List Equation) (p : Place) (a b : Ty) where
  abbrev pub Still : ℕ → Type 0
  Still i = listed first es p a b ≡ listed (first + i) (drop i es) p a b

  next : (i : ℕ) (e : Equation) → i < length es → e ≡ get_or es i e → listed (first + i) (drop i es) p a b ≡ or_next (by_listed (first + i) e p a b) (listed (first + (i + 1)) (drop (i + 1) es) p a b)
  next i e lt is =
      at_drop (λ xs. listed (first + i) xs p a b) es i e lt
      ∙ ap₂ (λ x n. or_next (by_listed (first + i) x p a b) (listed n (drop (i + 1) es) p a b)) (sym is) (let s : suc (first + i) ≡ first + (i + 1) = omega arith in s)

  chosen_next : (i n : ℕ) (e : Equation) (c : Choice) → n ≡ first + i → i < length es → e ≡ get_or es i e → Still i → c ≡ by_listed n e p a b → listed first es p a b ≡ or_next c (listed (first + (i + 1)) (drop (i + 1) es) p a b)
  chosen_next i n e c num lt is h made =
      h ∙ next i e lt is ∙ ap (λ d. or_next d (listed (first + (i + 1)) (drop (i + 1) es) p a b)) (ap (λ k. by_listed k e p a b) (sym num) ∙ sym made)

  pub still_next : (i n : ℕ) (e : Equation) (c : Choice) → n ≡ first + i → i < length es → e ≡ get_or es i e → Still i → c ≡ by_listed n e p a b → is_making c ≡ true → Still (i + 1)
  still_next i n e c num lt is h made on = chosen_next i n e c num lt is h made ∙ sym (first_passes c (listed (first + (i + 1)) (drop (i + 1) es) p a b) on)

  pub still_ends : (i n : ℕ) (e : Equation) (c : Choice) → n ≡ first + i → i < length es → e ≡ get_or es i e → Still i → c ≡ by_listed n e p a b → is_making c ≡ false → c ≡ listed first es p a b
  still_ends i n e c num lt is h made off = first_stays c (listed (first + (i + 1)) (drop (i + 1) es) p a b) off ∙ sym (chosen_next i n e c num lt is h made)

  pub still_none : (i : ℕ) → length es ≤ i → Still i → Makes ≡ listed first es p a b
  still_none i past h = sym (h ∙ ap (λ xs. listed (first + i) xs p a b) (drop_all i es past))
