-- What the search found serves: the walk of both types, and that of each equation, by the chosen references.
use Rattle.std.proofs.Common.{◌≡◌, ℕ, zero, suc, ◌+◌, ◌<◌, ◌≤◌, Bool, true, false, nat_lt, List, [], ◌∷◌, ◌++◌, length, sym, ◌∙◌, ap, refl, subst, arith, Option, Some, None, Result, Ok, Err, cond, append_assoc, append-nil, length-append, ◌⊎◌, inl, inr, ⊎_elim}
use Rattle.std.specs.Prelude.{slice_get, slice_set}
use Rattle.std.specs.List.{list_all}
use Rattle.std.proofs.lemmas.Bool.{cases_lt, ltb-true, ltb-false}
use Rattle.rast_index.specs.Linear.{is_small}
use Rattle.rast_types.specs.declared.stop.Stop.TheVariants as stop
use Rattle.rast_types.specs.Closed.{Table}
use Rattle.rast_equal.specs.Walk.{meets, same_points, top}
use Rattle.rast_eqfind.specs.Search.{after_top, based, begun, closed_at, closed_some, ended, found, meet_opened, opened_mets, opened_some, searched, walk_made, walk_one}
use Rattle.rast_index.specs.Linear.{Linear, variables}
use Rattle.rast_index.specs.declared.formula.Formula.{Formula}
use Rattle.rast_index.specs.declared.formula.Formula.TheVariants as form
use Rattle.rast_cooper.specs.Verdicts.{verdict, most_states}
use Rattle.rast_cooper.specs.declared.verdict.Verdict.{Verdict}
use Rattle.rast_cooper.specs.declared.verdict.Verdict.TheVariants.{Holds, Fails, NodeLimit, NumberLimit}
use Rattle.rast_types.specs.declared.equation.Equation.{Equation}
use Rattle.rast_types.specs.declared.equation.Ref.{Ref}
use Rattle.rast_types.specs.declared.equation.Ref.TheVariants.{Refl, Eq}
use Rattle.rast_types.specs.declared.stop.Stop.{Stop}
use Rattle.rast_types.specs.declared.ty.Ty.{Ty}
use Rattle.rast_equal.specs.declared.answer.SameErr.{SameErr}
use Rattle.rast_equal.specs.declared.answer.SameErr.TheVariants as err
use Rattle.rast_equal.specs.declared.met.Met.{Met}
use Rattle.rast_equal.specs.declared.met.Met.TheVariants.{Wants, Names, Differs, Shuffled, Over}
use Rattle.rast_equal.specs.declared.place.Place.{Place}
use Rattle.rast_equal.specs.Fault.{first_fault, or_next as or_fault, point_fault, verdict_fault}
use Rattle.rast_equal.specs.Walk.{Asks, by_equation, by_name, by_ref, or_refl, serve}
use Rattle.rast_equal.proofs.Faults.{fault_append}
use Rattle.rast_eqfind.specs.Found.{Extends, SameSides}
use Rattle.rast_eqfind.specs.Read.{arguments}
use Rattle.rast_eqfind.specs.Search.{Choice, Search, Test, asked, by_verdict, chosen, instance, listed, make, made_by, meet, meet_all, most_made, new_equation, onward, or_next, referred, served_by, tested, tried, with_new}
use Rattle.rast_eqfind.specs.declared.choice.Choice.TheVariants.{Takes, Makes, Halts}
use Rattle.rast_eqfind.specs.declared.choice.Test.TheVariants.{Serves, Refuses, Reaches}
use Rattle.rast_eqfind.specs.declared.finding.Finding.{Finding}
use Rattle.rast_eqfind.specs.declared.finding.Finding.TheVariants as finding

-- ---- tables of which one has the sides of the other, and maybe more equations and references

pub extends_refl : (es : List Equation) → Extends es es
extends_refl es k e h = (e, h, (e.refs, refl))

pub extends_trans : (es fs gs : List Equation) → Extends es fs → Extends fs gs → Extends es gs
extends_trans es fs gs h k i e is =
    let x = h i e is in
    let y = k i x.0 x.1 in
    (y.0, y.1, (y.2.0, y.2.1 ∙ ap (λ (z : Equation). record z { refs = y.2.0 }) x.2.1))

get_append : {A : Type 0} (xs ys : List A) (k : ℕ) (x : A) → slice_get xs k ≡ Some x → slice_get (xs ++ ys) k ≡ Some x
get_append {A} [] ys zero x h = absurd (cc)
get_append {A} [] ys (suc k) x h = absurd (cc)
get_append {A} (z ∷ xs) ys zero x h = h
get_append {A} (z ∷ xs) ys (suc k) x h = get_append xs ys k x h

get_last : {A : Type 0} (xs : List A) (y : A) → slice_get (xs ++ y ∷ []) (length xs) ≡ Some y
get_last {A} [] y = refl
get_last {A} (x ∷ xs) y = get_last xs y

pub extends_more : (es fs : List Equation) → Extends es (es ++ fs)
extends_more es fs k e h = (e, get_append es fs k e h, (e.refs, refl))

pub same_instance : (e f : Equation) (args : List Linear) (p : Place) (a b : Ty) → SameSides e f → by_equation (Some f) args p a b ≡ by_equation (Some e) args p a b
same_instance e f args p a b s = ap (λ (x : Equation). by_equation (Some x) args p a b) s.1

-- ---- a reference that serves

abbrev pub Serving : List Equation → Ref → Place → Ty → Ty → Type 0
Serving es r p a b = first_fault (by_ref es r p a b) ≡ None

tested_serves : (o : Option SameErr) → tested o ≡ Serves → o ≡ None
tested_serves None h = refl
tested_serves (Some (err.Fails path vars values)) h = absurd (cc)
tested_serves (Some (err.Wanted path)) h = absurd (cc)
tested_serves (Some err.Left) h = absurd (cc)
tested_serves (Some (err.Bound s)) h = absurd (cc)
tested_serves (Some err.Memory) h = absurd (cc)

-- an equation by its place
abbrev pub ByPlace : List Equation → ℕ → Ref → Place → Ty → Ty → Type 0
ByPlace es k r p a b = (i : ℕ) × (args : List Linear) × (e : Equation) × (r ≡ Eq (k + i) args) × (slice_get es i ≡ Some e) × (first_fault (by_equation (Some e) args p a b) ≡ None)

-- what serves, in each table that has more
abbrev pub ServesIn : List Equation → Ref → Place → Ty → Ty → Type 0
ServesIn es r p a b = (fs : List Equation) → Extends es fs → Serving fs r p a b

served_place : (es : List Equation) (r : Ref) (p : Place) (a b : Ty) → ByPlace es 1 r p a b → ServesIn es r p a b
served_place es r p a b h fs ext =
    let i = h.0 in
    let args = h.1 in
    let x = ext i h.2 h.4 in
    ap (λ (q : Ref). first_fault (by_ref fs q p a b)) (h.3 ∙ ap (λ n. Eq n args) (let e : 1 + i ≡ suc i = omega arith in e))
    ∙ ap (λ (o : Option Equation). first_fault (by_equation o args p a b)) x.1 ∙ ap first_fault (same_instance h.2 x.0 args p a b x.2) ∙ h.5

-- ---- what was chosen

tried_takes : (r q : Ref) (t : Test) → tried r t ≡ Takes q → (q ≡ r) × (t ≡ Serves)
tried_takes r q Serves h = let e : r ≡ q = cc in (sym e, refl)
tried_takes r q Refuses h = absurd (cc)
tried_takes r q (Reaches s) h = absurd (cc)

or_takes : (c d : Choice) (q : Ref) → or_next c d ≡ Takes q → (c ≡ Takes q) ⊎ (d ≡ Takes q)
or_takes (Takes r) d q h = inl h
or_takes Makes d q h = inr h
or_takes (Halts s) d q h = absurd (cc)

small_serves : (b : Bool) (t : Test) → cond b t (Reaches stop.Coefficient) ≡ Serves → t ≡ Serves
small_serves true t h = h
small_serves false t h = absurd (cc)

pub listed_takes : (es : List Equation) (k : ℕ) (p : Place) (a b : Ty) (r : Ref) → listed k es p a b ≡ Takes r → ByPlace es k r p a b
listed_takes [] k p a b r h = absurd (cc)
listed_takes (e ∷ es) k p a b r h =
    let args = arguments e p a b in
    ⊎_elim
    (λ (g : tried (Eq k args) (instance e args p a b) ≡ Takes r).
    let w = tried_takes (Eq k args) r (instance e args p a b) g in
    let n : k ≡ k + 0 = omega arith in
    (0, args, e, w.0 ∙ ap (λ j. Eq j args) n, refl, tested_serves _ (small_serves (list_all is_small args) _ w.1)))
    (λ (g : listed (suc k) es p a b ≡ Takes r).
    let w = listed_takes es (suc k) p a b r g in
    let n : suc k + w.0 ≡ k + suc w.0 = omega arith in
    (suc w.0, w.1, w.2, w.3 ∙ ap (λ j. Eq j w.1) n, w.4, w.5))
    (or_takes (tried (Eq k args) (instance e args p a b)) (listed (suc k) es p a b) r h)

pub chosen_serves : (es : List Equation) (p : Place) (a b : Ty) (r : Ref) → chosen es p a b ≡ Takes r → ServesIn es r p a b
chosen_serves es p a b r h fs ext =
    ⊎_elim
    (λ (g : tried Refl (tested (first_fault (by_name p a b))) ≡ Takes r).
    let w = tried_takes Refl r (tested (first_fault (by_name p a b))) g in
    ap (λ (q : Ref). first_fault (by_ref fs q p a b)) w.0 ∙ tested_serves (first_fault (by_name p a b)) w.1)
    (λ (g : listed 1 es p a b ≡ Takes r). served_place es r p a b (listed_takes es 1 p a b r g) fs ext)
    (or_takes (tried Refl (tested (first_fault (by_name p a b)))) (listed 1 es p a b) r h)

-- ---- one thing met

asked_ok : (s now : Search) (p : Place) (v : Verdict) → by_verdict s p v ≡ Ok now → (now ≡ s) × (verdict_fault p v ≡ None)
asked_ok s now p Holds h = let e : s ≡ now = cc in (sym e, refl)
asked_ok s now p (Fails values) h = absurd (cc)
asked_ok s now p NodeLimit h = absurd (cc)
asked_ok s now p NumberLimit h = absurd (cc)

-- what a step of the walk adds: references, which serve what was met in each table that has more
pub record Adds (known : List Equation) (s now : Search) (ms : List Met) : Type 0 where
  pub chosen : List Ref
  pub refs : now.refs ≡ s.refs ++ chosen
  pub table : Extends (known ++ s.made) (known ++ now.made)
  pub grows : (es : List Equation) × (now.made ≡ s.made ++ es)
  pub few : length s.made ≤ most_made → length now.made ≤ most_made
  pub serves : (fs : List Equation) → Extends (known ++ now.made) fs → (rs : List Ref) (more : List Met) → first_fault (serve fs (chosen ++ rs) (ms ++ more)) ≡ first_fault (serve fs rs more)

pub serve_wants : (es : List Equation) (rs : List Ref) (p : Place) (g : Formula) (ms : List Met) → serve es rs (Wants p g ∷ ms) ≡ Asks p g ∷ serve es rs ms
serve_wants es [] p g ms = refl
serve_wants es (r ∷ rs) p g ms = refl

pub serve_differs : (es : List Equation) (rs : List Ref) (p : Place) (ms : List Met) → serve es rs (Differs p ∷ ms) ≡ Asks p form.False ∷ serve es rs ms
serve_differs es [] p ms = refl
serve_differs es (r ∷ rs) p ms = refl

pub serve_shuffled : (es : List Equation) (rs : List Ref) (p : Place) (ms : List Met) → serve es rs (Shuffled p ∷ ms) ≡ serve es rs ms
serve_shuffled es [] p ms = refl
serve_shuffled es (r ∷ rs) p ms = refl

adds_asked : (known : List Equation) (s now : Search) (p : Place) (g : Formula) (m : Met) → ((es : List Equation) (rs : List Ref) (ms : List Met) → serve es rs (m ∷ ms) ≡ Asks p g ∷ serve es rs ms) →
    asked s p g ≡ Ok now → Adds known s now (m ∷ [])
adds_asked known s now p g m is h =
    let w = asked_ok s now p (verdict most_states p.vars p.premises g) h in
    record {
      chosen = [];
      refs = ap (λ (x : Search). x.refs) w.0 ∙ sym (append-nil s.refs);
      table = subst (λ (x : Search). Extends (known ++ s.made) (known ++ x.made)) (sym w.0) (extends_refl (known ++ s.made));
      grows = ([], ap (λ (x : Search). x.made) w.0 ∙ sym (append-nil s.made));
      few = λ le. subst (λ (x : Search). length x.made ≤ most_made) (sym w.0) le;
      serves = λ fs ext rs more. ap first_fault (is fs rs more) ∙ ap (λ o. or_fault o (first_fault (serve fs rs more))) w.1;
    }

adds_ref : (known : List Equation) (s now : Search) (p : Place) (a b : Ty) (r : Ref) → now.refs ≡ s.refs ++ r ∷ [] → Extends (known ++ s.made) (known ++ now.made) → (es : List Equation) × (now.made ≡ s.made ++ es) → (length s.made ≤ most_made → length now.made ≤ most_made) → ServesIn (known ++ now.made) r p a b →
    Adds known s now (Names p a b ∷ [])
adds_ref known s now p a b r e ext more most h = record {
  chosen = r ∷ [];
  refs = e;
  table = ext;
  grows = more;
  few = most;
  serves = λ fs wide rs ms. fault_append (by_ref fs r p a b) (serve fs rs ms) ∙ ap (λ o. or_fault o (first_fault (serve fs rs ms))) (h fs wide);
}

made_ok : (e : Equation) (r : Ref) (p : Place) (s now : Search) (t : Test) → made_by e r p s t ≡ Ok now → (now ≡ referred r (with_new e p s)) × (t ≡ Serves)
made_ok e r p s now Serves h = let i : referred r (with_new e p s) ≡ now = cc in (sym i, refl)
made_ok e r p s now Refuses h = absurd (cc)
made_ok e r p s now (Reaches x) h = absurd (cc)

few_made : (b : Bool) (x : Result Search Finding) (f : Finding) (now : Search) → cond b x (Err f) ≡ Ok now → (b ≡ true) × (x ≡ Ok now)
few_made true x f now h = (refl, h)
few_made false x f now h = absurd (cc)

adds_new : (known : List Equation) (s now : Search) (p : Place) (a b : Ty) → make known s p a b ≡ Ok now → Adds known s now (Names p a b ∷ [])
adds_new known s now p a b h =
    let e = new_equation p a b in
    let args = variables p.vars in
    let r = Eq (suc (length known + length s.made)) args in
    let t = tested (first_fault (by_equation (Some e) args p a b)) in
    let room = few_made (nat_lt (length s.made) most_made) (made_by e r p s t) (finding.EqBound s.made) now h in
    let w = made_ok e r p s now t room.1 in
    let lt : length s.made < most_made = ltb-true (length s.made) most_made room.0 in
    let table : (known ++ now.made) ≡ ((known ++ s.made) ++ e ∷ []) = ap (λ (x : Search). known ++ x.made) w.0 ∙ sym (append_assoc known s.made (e ∷ [])) in
    let at : slice_get ((known ++ s.made) ++ e ∷ []) (length known + length s.made) ≡ Some e = ap (slice_get ((known ++ s.made) ++ e ∷ [])) (sym (length-append known s.made)) ∙ get_last (known ++ s.made) e in
    adds_ref known s now p a b r
    (ap (λ (x : Search). x.refs) w.0)
    (subst (Extends (known ++ s.made)) (sym table) (extends_more (known ++ s.made) (e ∷ [])))
    (e ∷ [], ap (λ (x : Search). x.made) w.0)
    (λ le. omega (arith, lt, ap (λ (x : Search). length x.made) w.0, length-append s.made (e ∷ [])))
    (subst (λ es. ServesIn es r p a b) (sym table)
    (served_place ((known ++ s.made) ++ e ∷ []) r p a b (length known + length s.made, args, e, ap (λ n. Eq n args) (let q : suc (length known + length s.made) ≡ 1 + (length known + length s.made) = omega arith in q), at, tested_serves (first_fault (by_equation (Some e) args p a b)) w.1)))

served_adds : (known : List Equation) (s now : Search) (p : Place) (a b : Ty) (c : Choice) → c ≡ chosen (known ++ s.made) p a b → served_by known s p a b c ≡ Ok now → Adds known s now (Names p a b ∷ [])
served_adds known s now p a b (Takes r) is h =
    let e : referred r s ≡ now = cc in
    adds_ref known s now p a b r (ap (λ (x : Search). x.refs) (sym e))
    (subst (λ (x : Search). Extends (known ++ s.made) (known ++ x.made)) e (extends_refl (known ++ s.made)))
    ([], ap (λ (x : Search). x.made) (sym e) ∙ sym (append-nil s.made))
    (λ le. subst (λ (x : Search). length x.made ≤ most_made) e le)
    (subst (λ (x : Search). ServesIn (known ++ x.made) r p a b) e (chosen_serves (known ++ s.made) p a b r (sym is)))
served_adds known s now p a b Makes is h = adds_new known s now p a b h
served_adds known s now p a b (Halts x) is h = absurd (cc)

pub meet_adds : (known : List Equation) (s now : Search) (m : Met) → meet known s m ≡ Ok now → Adds known s now (m ∷ [])
meet_adds known s now (Wants p g) h = adds_asked known s now p g (Wants p g) (λ es rs ms. serve_wants es rs p g ms) h
meet_adds known s now (Names p a b) h = served_adds known s now p a b (chosen (known ++ s.made) p a b) refl h
meet_adds known s now (Differs p) h = adds_asked known s now p form.False (Differs p) (λ es rs ms. serve_differs es rs p ms) h
meet_adds known s now (Shuffled p) h =
    let e : s ≡ now = cc in
    record {
      chosen = [];
      refs = ap (λ (x : Search). x.refs) (sym e) ∙ sym (append-nil s.refs);
      table = subst (λ (x : Search). Extends (known ++ s.made) (known ++ x.made)) e (extends_refl (known ++ s.made));
      grows = ([], ap (λ (x : Search). x.made) (sym e) ∙ sym (append-nil s.made));
      few = λ le. subst (λ (x : Search). length x.made ≤ most_made) e le;
      serves = λ fs ext rs more. ap first_fault (serve_shuffled fs rs p more);
    }
meet_adds known s now Over h = absurd (cc)

-- ---- what is met, in order

pub onward_ok : {A B E : Type 0} (r : Result A E) (f : A → Result B E) (b : B) → onward r f ≡ Ok b → (a : A) × (r ≡ Ok a) × (f a ≡ Ok b)
onward_ok {A} {B} {E} (Ok a) f b h = (a, refl, h)
onward_ok {A} {B} {E} (Err e) f b h = absurd (cc)

pub all_adds : (known : List Equation) (ms : List Met) (s now : Search) → meet_all known s ms ≡ Ok now → Adds known s now ms
all_adds known [] s now h =
    let e : s ≡ now = cc in
    record {
      chosen = [];
      refs = ap (λ (x : Search). x.refs) (sym e) ∙ sym (append-nil s.refs);
      table = subst (λ (x : Search). Extends (known ++ s.made) (known ++ x.made)) e (extends_refl (known ++ s.made));
      grows = ([], ap (λ (x : Search). x.made) (sym e) ∙ sym (append-nil s.made));
      few = λ le. subst (λ (x : Search). length x.made ≤ most_made) e le;
      serves = λ fs ext rs more. refl;
    }
all_adds known (m ∷ ms) s now h =
    let w = onward_ok (meet known s m) (λ z. meet_all known z ms) now h in
    let x = meet_adds known s w.0 m w.1 in
    let y = all_adds known ms w.0 now w.2 in
    record {
      chosen = x.chosen ++ y.chosen;
      refs = y.refs ∙ ap (λ rs. rs ++ y.chosen) x.refs ∙ append_assoc s.refs x.chosen y.chosen;
      table = extends_trans (known ++ s.made) (known ++ w.0.made) (known ++ now.made) x.table y.table;
      few = λ le. y.few (x.few le);
      grows = (x.grows.0 ++ y.grows.0, y.grows.1 ∙ ap (λ es. es ++ y.grows.0) x.grows.1 ∙ append_assoc s.made x.grows.0 y.grows.0);
      serves = λ fs ext rs more.
          ap (λ qs. first_fault (serve fs qs (m ∷ (ms ++ more)))) (append_assoc x.chosen y.chosen rs)
          ∙ x.serves fs (extends_trans (known ++ w.0.made) (known ++ now.made) fs y.table ext) (y.chosen ++ rs) (ms ++ more)
          ∙ y.serves fs ext rs more;
    }

-- what was met is served by the references that were chosen
pub all_served : (known : List Equation) (ms : List Met) (s now : Search) → s.refs ≡ [] → meet_all known s ms ≡ Ok now → (fs : List Equation) → Extends (known ++ now.made) fs → first_fault (serve fs now.refs ms) ≡ None
all_served known ms s now e h fs ext =
    let x = all_adds known ms s now h in
    ap (λ rs. first_fault (serve fs rs ms)) (x.refs ∙ ap (λ rs. rs ++ x.chosen) e ∙ sym (append-nil x.chosen))
    ∙ ap (λ qs. first_fault (serve fs (x.chosen ++ []) qs)) (sym (append-nil ms)) ∙ x.serves fs ext [] []

-- where there are no references, refl everywhere is the same as none
serve_none : (es : List Equation) (ms : List Met) → first_fault (serve es [] ms) ≡ None → or_refl [] ms ≡ []
serve_none es [] h = refl
serve_none es (Wants p g ∷ ms) h = serve_none es ms (rest (point_fault (Asks p g)) (first_fault (serve es [] ms)) h)
  where
    rest : (o q : Option SameErr) → or_fault o q ≡ None → q ≡ None
    rest None q k = k
    rest (Some e) q k = absurd (cc)
serve_none es (Names p a b ∷ ms) h = absurd (cc)
serve_none es (Differs p ∷ ms) h = serve_none es ms (rest (point_fault (Asks p form.False)) (first_fault (serve es [] ms)) h)
  where
    rest : (o q : Option SameErr) → or_fault o q ≡ None → q ≡ None
    rest None q k = k
    rest (Some e) q k = absurd (cc)
serve_none es (Shuffled p ∷ ms) h = serve_none es ms h
serve_none es (Over ∷ ms) h = refl

pub refs_serve : (es : List Equation) (rs : List Ref) (ms : List Met) → first_fault (serve es rs ms) ≡ None → first_fault (serve es (or_refl rs ms) ms) ≡ None
refs_serve es [] ms h = ap (λ rs. first_fault (serve es rs ms)) (serve_none es ms h) ∙ h
refs_serve es (r ∷ rs) ms h = h

-- ---- references that are filled in

set_extends : (es : List Equation) (i : ℕ) (e : Equation) (rs : List Ref) → slice_get es i ≡ Some e → Extends es (slice_set es i (record e { refs = rs }))
set_extends [] i e rs h k x is = absurd (cc)
set_extends (y ∷ es) zero e rs h zero x is = let s : y ≡ e = cc in let u : y ≡ x = cc in (record e { refs = rs }, refl, (rs, ap (λ (z : Equation). record z { refs = rs }) (sym s ∙ u)))
set_extends (y ∷ es) zero e rs h (suc k) x is = (x, is, (x.refs, refl))
set_extends (y ∷ es) (suc i) e rs h zero x is = (x, is, (x.refs, refl))
set_extends (y ∷ es) (suc i) e rs h (suc k) x is = set_extends es i e rs h k x is

extends_front : (ks es fs : List Equation) → Extends es fs → Extends (ks ++ es) (ks ++ fs)
extends_front [] es fs h k x is = h k x is
extends_front (y ∷ ks) es fs h zero x is = (x, is, (x.refs, refl))
extends_front (y ∷ ks) es fs h (suc k) x is = extends_front ks es fs h k x is

get_below : {A : Type 0} (xs ys : List A) (k : ℕ) → k < length xs → slice_get (xs ++ ys) k ≡ slice_get xs k
get_below {A} [] ys k lt = absurd (omega arith)
get_below {A} (x ∷ xs) ys zero lt = refl
get_below {A} (x ∷ xs) ys (suc k) lt = get_below xs ys k (omega arith)

get_set : {A : Type 0} (xs : List A) (i : ℕ) (x y : A) → slice_get xs i ≡ Some y → slice_get (slice_set xs i x) i ≡ Some x
get_set {A} [] i x y h = absurd (cc)
get_set {A} (z ∷ xs) zero x y h = refl
get_set {A} (z ∷ xs) (suc i) x y h = get_set xs i x y h

get_other : {A : Type 0} (xs : List A) (i k : ℕ) (x : A) → k < i → slice_get (slice_set xs i x) k ≡ slice_get xs k
get_other {A} [] i k x lt = refl
get_other {A} (z ∷ xs) zero k x lt = absurd (omega arith)
get_other {A} (z ∷ xs) (suc i) zero x lt = refl
get_other {A} (z ∷ xs) (suc i) (suc k) x lt = get_other xs i k x (omega arith)

pub length_set : {A : Type 0} (xs : List A) (i : ℕ) (x : A) → length (slice_set xs i x) ≡ length xs
length_set {A} [] i x = refl
length_set {A} (y ∷ xs) zero x = refl
length_set {A} (y ∷ xs) (suc i) x = ap suc (length_set xs i x)

get_inside : {A : Type 0} (xs : List A) (k : ℕ) (x : A) → slice_get xs k ≡ Some x → k < length xs
get_inside {A} [] k x h = absurd (cc)
get_inside {A} (y ∷ xs) zero x h = omega arith
get_inside {A} (y ∷ xs) (suc k) x h = let g = get_inside xs k x h in omega (arith, g)

get_past : {A : Type 0} (xs : List A) (k : ℕ) → length xs ≤ k → slice_get xs k ≡ None
get_past {A} [] k h = refl
get_past {A} (x ∷ xs) zero h = absurd (omega arith)
get_past {A} (x ∷ xs) (suc k) h = get_past xs k (omega arith)

get_some : {A : Type 0} (xs : List A) (k : ℕ) → k < length xs → (x : A) × (slice_get xs k ≡ Some x)
get_some {A} [] k lt = absurd (omega arith)
get_some {A} (x ∷ xs) zero lt = (x, refl)
get_some {A} (x ∷ xs) (suc k) lt = get_some xs k (omega arith)

-- ---- one equation is walked

-- its heads can be opened, and what is met there is served by its references
abbrev pub Walked : Table → List Equation → Equation → Type 0
Walked t fs e = (ms : List Met) × (opened_mets t e ≡ Ok ms) × (first_fault (serve fs e.refs ms) ≡ None)

pub record OneWalked (t : Table) (known : List Equation) (i : ℕ) (s now : Search) : Type 0 where
  pub table : Extends (known ++ s.made) (known ++ now.made)
  pub keeps : (k : ℕ) → k < i → slice_get now.made k ≡ slice_get s.made k
  pub few : length s.made ≤ most_made → length now.made ≤ most_made
  pub refs : now.refs ≡ []
  pub made : Equation
  pub here : slice_get now.made i ≡ Some made
  pub walked : (fs : List Equation) → Extends (known ++ now.made) fs → Walked t fs made

opened_ok : (known : List Equation) (s now : Search) (o : Result (List Met) Stop) → meet_opened known s o ≡ Ok now → (ms : List Met) × (o ≡ Ok ms) × (meet_all known s ms ≡ Ok now)
opened_ok known s now (Ok ms) h = (ms, refl, h)
opened_ok known s now (Err x) h = absurd (cc)

pub one_walked : (t : Table) (known : List Equation) (i : ℕ) (s now : Search) (e : Equation) → slice_get s.made i ≡ Some e → i < length s.made → s.refs ≡ [] → walk_one t known i s ≡ Ok now → OneWalked t known i s now
one_walked t known i s now e at lt none h =
    let w = onward_ok (meet_opened known (based i s) (opened_some t (slice_get s.made i))) (λ z. Ok (closed_at i z)) now h in
    let z = w.0 in
    let o = opened_ok known (based i s) z (opened_some t (slice_get s.made i)) w.1 in
    let x = all_adds known o.0 (based i s) z o.2 in
    let opened : opened_mets t e ≡ Ok o.0 = ap (opened_some t) (sym at) ∙ o.1 in
    let same : slice_get z.made i ≡ Some e = ap (λ es. slice_get es i) x.grows.1 ∙ get_below s.made x.grows.0 i lt ∙ at in
    let done = record e { refs = z.refs } in
    let is : record z { made = slice_set z.made i done; refs = [] } ≡ now = ap (closed_some i z) (sym same) ∙ (let c : closed_at i z ≡ now = cc in c) in
    let made : now.made ≡ slice_set z.made i done = ap (λ (y : Search). y.made) (sym is) in
    let more : Extends (known ++ z.made) (known ++ now.made) = subst (λ es. Extends (known ++ z.made) (known ++ es)) (sym made) (extends_front known z.made (slice_set z.made i done) (set_extends z.made i e z.refs same)) in
    record {
      table = extends_trans (known ++ s.made) (known ++ z.made) (known ++ now.made) x.table more;
      keeps = λ k below. ap (λ es. slice_get es k) made ∙ get_other z.made i k done below ∙ ap (λ es. slice_get es k) x.grows.1 ∙ get_below s.made x.grows.0 k (omega arith);
      few = λ le. let m = x.few le in omega (arith, m, ap (λ (es : List Equation). length es) made, length_set z.made i done);
      refs = ap (λ (y : Search). y.refs) (sym is);
      made = done;
      here = ap (λ es. slice_get es i) made ∙ get_set z.made i done e same;
      walked = λ fs ext. (o.0, opened, all_served known o.0 (based i s) z none o.2 fs (extends_trans (known ++ z.made) (known ++ now.made) fs more ext));
    }

-- ---- all equations are walked

lt_true : (i n : ℕ) → i < n → nat_lt i n ≡ true
lt_true i n lt = by (nat_lt i n) refl
  where
    by : (b : Bool) → nat_lt i n ≡ b → nat_lt i n ≡ true
    by true e = e
    by false e = absurd (let k = ltb-false i n e in omega (arith, k))

lt_false : (i n : ℕ) → n ≤ i → nat_lt i n ≡ false
lt_false i n le = by (nat_lt i n) refl
  where
    by : (b : Bool) → nat_lt i n ≡ b → nat_lt i n ≡ false
    by true e = absurd (let k = ltb-true i n e in omega (arith, k))
    by false e = e

pub record AllWalked (t : Table) (known : List Equation) (n i : ℕ) (s now : Search) : Type 0 where
  pub few : length s.made ≤ most_made → length now.made ≤ most_made
  pub table : Extends (known ++ s.made) (known ++ now.made)
  pub keeps : (k : ℕ) → k < i → slice_get now.made k ≡ slice_get s.made k
  pub walked : (fs : List Equation) → Extends (known ++ now.made) fs → (k : ℕ) (e : Equation) → i ≤ k → k < i + n → slice_get now.made k ≡ Some e → Walked t fs e

stands : (t : Table) (known : List Equation) (n i : ℕ) (s now : Search) → s ≡ now → (n ≡ 0) ⊎ (length s.made ≤ i) → AllWalked t known n i s now
stands t known n i s now is end = record {
  few = λ le. subst (λ (x : Search). length x.made ≤ most_made) is le;
  table = subst (λ (x : Search). Extends (known ++ s.made) (known ++ x.made)) is (extends_refl (known ++ s.made));
  keeps = λ k below. ap (λ (x : Search). slice_get x.made k) (sym is);
  walked = λ fs ext k e from to at. ⊎_elim
      (λ (z : n ≡ 0). absurd (omega (arith, z)))
      (λ (past : length s.made ≤ i). absurd (let g : slice_get s.made k ≡ None = get_past s.made k (omega arith) in let f : slice_get s.made k ≡ Some e = ap (λ (x : Search). slice_get x.made k) is ∙ at in cc))
      end;
}

pub all_walked : (t : Table) (known : List Equation) (n i : ℕ) (s now : Search) → s.refs ≡ [] → walk_made t known n i s ≡ Ok now → AllWalked t known n i s now
all_walked t known zero i s now none h = stands t known 0 i s now (let e : s ≡ now = cc in e) (inl refl)
all_walked t known (suc n) i s now none h = ⊎_elim
    (λ (lt : i < length s.made).
    let g : onward (walk_one t known i s) (walk_made t known n (suc i)) ≡ Ok now = sym (ap (λ b. cond b (onward (walk_one t known i s) (walk_made t known n (suc i))) (Ok s)) (lt_true i (length s.made) lt)) ∙ h in
    let w = onward_ok (walk_one t known i s) (walk_made t known n (suc i)) now g in
    let e = get_some s.made i lt in
    let x = one_walked t known i s w.0 e.0 e.1 lt none w.1 in
    let y = all_walked t known n (suc i) w.0 now x.refs w.2 in
    record {
      few = λ le. y.few (x.few le);
      table = extends_trans (known ++ s.made) (known ++ w.0.made) (known ++ now.made) x.table y.table;
      keeps = λ k below. y.keeps k (omega arith) ∙ x.keeps k below;
      walked = λ fs ext k f from to at. ⊎_elim
          (λ (more : i < k). y.walked fs ext k f (omega arith) (omega arith) at)
          (λ (same : k ≤ i).
          let k_is : k ≡ i = omega arith in
          let made : x.made ≡ f = some_is (sym x.here ∙ sym (y.keeps i (omega arith)) ∙ ap (slice_get now.made) (sym k_is) ∙ at) in
          subst (Walked t fs) made (x.walked fs (extends_trans (known ++ w.0.made) (known ++ now.made) fs y.table ext)))
          (cases_lt i k);
    })
    (λ (past : length s.made ≤ i). stands t known (suc n) i s now (some_ok s now (walk_made t known (suc n) i s) (ap (λ b. cond b (onward (walk_one t known i s) (walk_made t known n (suc i))) (Ok s)) (lt_false i (length s.made) past)) h) (inr past))
    (cases_lt i (length s.made))
  where
    some_is : {x y : Equation} → Some x ≡ Some y → x ≡ y
    some_is {x} {y} k = cc

    some_ok : (x y : Search) (r : Result Search Finding) → r ≡ Ok x → r ≡ Ok y → x ≡ y
    some_ok x y r j k = cc

-- ---- what is found

-- an early end is never that equations were found
abbrev pub IsEnd : Finding → Type 0
IsEnd (finding.Found added refs) = ⊥
IsEnd (finding.Different path vars values) = Unit {0}
IsEnd (finding.EqBound equations) = Unit {0}
IsEnd (finding.Stopped s) = Unit {0}

verdict_end : (s : Search) (p : Place) (v : Verdict) (f : Finding) → by_verdict s p v ≡ Err f → IsEnd f
verdict_end s p Holds f h = absurd (cc)
verdict_end s p (Fails values) f h = let e : finding.Different (s.base ++ p.path) p.vars values ≡ f = cc in subst IsEnd e tt
verdict_end s p NodeLimit f h = let e : finding.Stopped stop.NodeLimit ≡ f = cc in subst IsEnd e tt
verdict_end s p NumberLimit f h = let e : finding.Stopped stop.NumberLimit ≡ f = cc in subst IsEnd e tt

made_end : (e : Equation) (r : Ref) (p : Place) (s : Search) (t : Test) (f : Finding) → made_by e r p s t ≡ Err f → IsEnd f
made_end e r p s Serves f h = absurd (cc)
made_end e r p s Refuses f h = let i : finding.Stopped stop.NodeLimit ≡ f = cc in subst IsEnd i tt
made_end e r p s (Reaches x) f h = let i : finding.Stopped x ≡ f = cc in subst IsEnd i tt

room_end : (b : Bool) (x : Result Search Finding) (es : List Equation) (f : Finding) → (x ≡ Err f → IsEnd f) → cond b x (Err (finding.EqBound es)) ≡ Err f → IsEnd f
room_end true x es f k h = k h
room_end false x es f k h = let i : finding.EqBound es ≡ f = cc in subst IsEnd i tt

served_end : (known : List Equation) (s : Search) (p : Place) (a b : Ty) (c : Choice) (f : Finding) → served_by known s p a b c ≡ Err f → IsEnd f
served_end known s p a b (Takes r) f h = absurd (cc)
served_end known s p a b Makes f h = room_end (nat_lt (length s.made) most_made) _ s.made f (made_end (new_equation p a b) (Eq (suc (length known + length s.made)) (variables p.vars)) p s _ f) h
served_end known s p a b (Halts x) f h = let i : finding.Stopped x ≡ f = cc in subst IsEnd i tt

meet_end : (known : List Equation) (s : Search) (m : Met) (f : Finding) → meet known s m ≡ Err f → IsEnd f
meet_end known s (Wants p g) f h = verdict_end s p (verdict most_states p.vars p.premises g) f h
meet_end known s (Names p a b) f h = served_end known s p a b (chosen (known ++ s.made) p a b) f h
meet_end known s (Differs p) f h = verdict_end s p (verdict most_states p.vars p.premises form.False) f h
meet_end known s (Shuffled p) f h = absurd (cc)
meet_end known s Over f h = let i : finding.Stopped stop.Variables ≡ f = cc in subst IsEnd i tt

onward_end : {A B : Type 0} (r : Result A Finding) (g : A → Result B Finding) (f : Finding) → (r ≡ Err f → IsEnd f) → ((a : A) → g a ≡ Err f → IsEnd f) → onward r g ≡ Err f → IsEnd f
onward_end {A} {B} (Ok a) g f h k is = k a is
onward_end {A} {B} (Err e) g f h k is = h (ap Err (let i : e ≡ f = cc in i))

all_end : (known : List Equation) (ms : List Met) (s : Search) (f : Finding) → meet_all known s ms ≡ Err f → IsEnd f
all_end known [] s f h = absurd (cc)
all_end known (m ∷ ms) s f h = onward_end (meet known s m) (λ z. meet_all known z ms) f (meet_end known s m f) (λ z. all_end known ms z f) h

opened_end : (known : List Equation) (s : Search) (o : Result (List Met) Stop) (f : Finding) → meet_opened known s o ≡ Err f → IsEnd f
opened_end known s (Ok ms) f h = all_end known ms s f h
opened_end known s (Err x) f h = let i : finding.Stopped x ≡ f = cc in subst IsEnd i tt

one_end : (t : Table) (known : List Equation) (i : ℕ) (s : Search) (f : Finding) → walk_one t known i s ≡ Err f → IsEnd f
one_end t known i s f h = onward_end (meet_opened known (based i s) (opened_some t (slice_get s.made i))) (λ z. Ok (closed_at i z)) f (opened_end known (based i s) (opened_some t (slice_get s.made i)) f) (λ z k. absurd (cc)) h

if_end : (b : Bool) (x : Result Search Finding) (s : Search) (f : Finding) → (x ≡ Err f → IsEnd f) → cond b x (Ok s) ≡ Err f → IsEnd f
if_end true x s f k h = k h
if_end false x s f k h = absurd (cc)

made_all_end : (t : Table) (known : List Equation) (n i : ℕ) (s : Search) (f : Finding) → walk_made t known n i s ≡ Err f → IsEnd f
made_all_end t known zero i s f h = absurd (cc)
made_all_end t known (suc n) i s f h =
    if_end (nat_lt i (length s.made)) (onward (walk_one t known i s) (walk_made t known n (suc i))) s f
    (onward_end (walk_one t known i s) (walk_made t known n (suc i)) f (one_end t known i s f) (λ z. made_all_end t known n (suc i) z f)) h

searched_end : (t : Table) (known : List Equation) (ms : List Met) (f : Finding) → searched t known ms ≡ Err f → IsEnd f
searched_end t known ms f h =
    onward_end (meet_all known begun ms) (after_top t known) f (all_end known ms begun f)
    (λ s k. onward_end (walk_made t known most_made 0 (record s { refs = [] })) (λ now. Ok (finding.Found now.made s.refs)) f (made_all_end t known most_made 0 (record s { refs = [] }) f) (λ z w. absurd (cc)) k) h

ended_ok : (r : Result Finding Finding) (added : List Equation) (refs : List Ref) → ((f : Finding) → r ≡ Err f → IsEnd f) → ended r ≡ finding.Found added refs → r ≡ Ok (finding.Found added refs)
ended_ok (Ok f) added refs k h = ap Ok h
ended_ok (Err f) added refs k h = absurd (subst IsEnd h (k f refl))

-- where equations were found, both types are served by the references, and each equation by its own
pub record ServesAll (t : Table) (known : List Equation) (n : ℕ) (ps : List Formula) (a b : Ty) (added : List Equation) (refs : List Ref) : Type 0 where
  pub few : length added ≤ most_made
  pub same : (fs : List Equation) → Extends (known ++ added) fs → first_fault (same_points fs n ps a b refs) ≡ None
  pub walked : (fs : List Equation) → Extends (known ++ added) fs → (k : ℕ) (e : Equation) → slice_get added k ≡ Some e → Walked t fs e
  pub table : Extends known (known ++ added)

pub found_serves : (t : Table) (known : List Equation) (n : ℕ) (ps : List Formula) (a b : Ty) (added : List Equation) (refs : List Ref) → found t known n ps a b ≡ finding.Found added refs → ServesAll t known n ps a b added refs
found_serves t known n ps a b added refs h =
    let ms = meets a b (top n ps) in
    let is = ended_ok (searched t known ms) added refs (searched_end t known ms) h in
    let w = onward_ok (meet_all known begun ms) (after_top t known) (finding.Found added refs) is in
    let s = w.0 in
    let v = onward_ok (walk_made t known most_made 0 (record s { refs = [] })) (λ now. Ok (finding.Found now.made s.refs)) (finding.Found added refs) w.2 in
    let now = v.0 in
    let made : now.made ≡ added = found_made (Ok (finding.Found now.made s.refs)) now.made added s.refs refs refl v.2 in
    let chose : s.refs ≡ refs = found_refs (Ok (finding.Found now.made s.refs)) now.made added s.refs refs refl v.2 in
    let x = all_adds known ms begun s w.1 in
    let y = all_walked t known most_made 0 (record s { refs = [] }) now refl v.1 in
    let top_few = x.few (omega arith) in
    let all_few = y.few top_few in
    let wide : (fs : List Equation) → Extends (known ++ added) fs → Extends (known ++ now.made) fs = λ fs ext. subst (λ (es : List Equation). Extends (known ++ es) fs) (sym made) ext in
    record {
      few = subst (λ (es : List Equation). length es ≤ most_made) made all_few;
      same = λ fs ext.
          let serves = all_served known ms begun s refl w.1 fs (extends_trans (known ++ s.made) (known ++ now.made) fs y.table (wide fs ext)) in
          ap (λ rs. first_fault (same_points fs n ps a b rs)) (sym chose) ∙ refs_serve fs s.refs ms serves;
      walked = λ fs ext k e at.
          let here : slice_get now.made k ≡ Some e = ap (λ (es : List Equation). slice_get es k) made ∙ at in
          let inside = get_inside now.made k e here in
          y.walked fs (wide fs ext) k e (omega arith) (omega (arith, inside, all_few)) here;
      table = extends_more known added;
    }
  where
    found_made : (r : Result Finding Finding) (es fs : List Equation) (rs qs : List Ref) → r ≡ Ok (finding.Found es rs) → r ≡ Ok (finding.Found fs qs) → es ≡ fs
    found_made r es fs rs qs j k = cc

    found_refs : (r : Result Finding Finding) (es fs : List Equation) (rs qs : List Ref) → r ≡ Ok (finding.Found es rs) → r ≡ Ok (finding.Found fs qs) → rs ≡ qs
    found_refs r es fs rs qs j k = cc
