-- What is met, taken in order.
use Rattle.std.proofs.Common.{◌≡◌, ℕ, zero, suc, ◌+◌, ◌<◌, ◌≤◌, true, false, nat_lt, List, [], ◌∷◌, ◌++◌, length, get_or, drop, sym, ◌∙◌, ap, refl, subst, arith, Result, Ok, Err, cond}
use Rattle.std.specs.Prelude.{IsErrAnd, slice_get}
use Rattle.std.proofs.lemmas.List.{drop_all}
use Rattle.rast_types.specs.Closed.{Table}
use Rattle.rast_types.specs.declared.equation.Equation.{Equation}
use Rattle.rast_types.specs.declared.stop.Stop.{Stop}
use Rattle.rast_equal.specs.declared.met.Met.{Met}
use Rattle.rast_equal.specs.declared.place.Pair.{Pair}
use Rattle.rast_equal.specs.declared.walk.Shown.{Shown}
use Rattle.rast_equal.specs.Shown.{Brings}
use Rattle.rast_equal.specs.Walk.{left}
use Rattle.rast_equal.proofs.Labels.{at_drop}
use Rattle.rast_eqfind.specs.Answer.{Comes, Goes, Opened}
use Rattle.rast_eqfind.specs.Search.{Search, based, closed_at, ended, meet, meet_all, meet_opened, most_made, opened_some, onward, walk_made, walk_one}
use Rattle.rast_eqfind.specs.declared.finding.Finding.{Finding}
use Rattle.rast_eqfind.specs.declared.finding.Finding.TheVariants as finding
use Rattle.rast_eqfind.specs.declared.finding.Halt.{Halt}
use Rattle.rast_eqfind.specs.declared.finding.Halt.TheVariants.{Ends, Memory}

-- ---- results one after the other

pub on_on : {A B C E : Type 0} (r : Result A E) (f : A → Result B E) (g : B → Result C E) → onward (onward r f) g ≡ onward r (λ a. onward (f a) g)
on_on {A} {B} {C} {E} (Ok a) f g = refl
on_on {A} {B} {C} {E} (Err e) f g = refl

pub on_same : {A B E : Type 0} (r : Result A E) (f g : A → Result B E) → ((a : A) → f a ≡ g a) → onward r f ≡ onward r g
on_same {A} {B} {E} (Ok a) f g h = h a
on_same {A} {B} {E} (Err e) f g h = refl

pub meet_append : (known : List Equation) (s : Search) (xs ys : List Met) → meet_all known s (xs ++ ys) ≡ onward (meet_all known s xs) (λ now. meet_all known now ys)
meet_append known s [] ys = refl
meet_append known s (x ∷ xs) ys =
    on_same (meet known s x) _ _ (λ now. meet_append known now xs ys) ∙ sym (on_on (meet known s x) (λ now. meet_all known now xs) (λ now. meet_all known now ys))

-- a search that hands an end on
pub goes_from : (o q : Result Search Finding) (f : Search → Result Search Finding) (mid now : Search) (e : Halt) (r : Result (Unit {0}) Halt) → o ≡ onward q f → Goes q mid (Err e) → IsErrAnd r (λ x. x ≡ e) → Goes o now r
goes_from o q f mid now e (Ok x) is h from = absurd from
goes_from o q f mid now (Ends w) (Err x) is h from = subst (λ y. Goes o now (Err y)) (sym from) (is ∙ ap (λ z. onward z f) h.0, h.1)
goes_from o q f mid now Memory (Err x) is h from = subst (λ y. Goes o now (Err y)) (sym from) tt

-- what comes of it is the same
pub goes_is : (o q : Result Search Finding) (now : Search) (r : Result (Unit {0}) Halt) → o ≡ q → Goes q now r → Goes o now r
goes_is o q now r e h = subst (λ x. Goes x now r) (sym e) h

-- it went on, and what comes then is what comes of the whole
pub goes_on : (o q : Result Search Finding) (f : Search → Result Search Finding) (mid now : Search) (r : Result (Unit {0}) Halt) → o ≡ onward q f → q ≡ Ok mid → Goes (f mid) now r → Goes o now r
goes_on o q f mid now r is ok h = goes_is o (f mid) now r (is ∙ ap (λ z. onward z f) ok) h

-- ---- many met, one after the other

module _ (known : List Equation) (s₀ : Search) (ms : List Met) where
  abbrev pub Still : Search → ℕ → Type 0
  Still s i = meet_all known s₀ ms ≡ meet_all known s (drop i ms)

  pub next : (s : Search) (i : ℕ) (x : Met) → i < length ms → x ≡ get_or ms i x → Still s i → meet_all known s₀ ms ≡ onward (meet known s x) (λ now. meet_all known now (drop (i + 1) ms))
  next s i x lt is h = h ∙ at_drop (meet_all known s) ms i x lt ∙ ap (λ y. onward (meet known s y) (λ now. meet_all known now (drop (i + 1) ms))) (sym is)

  pub still_next : (s now : Search) (i : ℕ) (x : Met) → i < length ms → x ≡ get_or ms i x → Still s i → meet known s x ≡ Ok now → Still now (i + 1)
  still_next s now i x lt is h e = next s i x lt is h ∙ ap (λ r. onward r (λ z. meet_all known z (drop (i + 1) ms))) e

  pub still_none : (s : Search) (i : ℕ) → length ms ≤ i → Still s i → meet_all known s₀ ms ≡ Ok s
  still_none s i past h = h ∙ ap (meet_all known s) (drop_all i ms past)

-- ---- pairs

module _ (known : List Equation) (s₀ : Search) (pairs : List Pair) where
  abbrev pub Walks : Search → List Pair → Type 0
  Walks s before = meet_all known s₀ (left pairs) ≡ meet_all known s (left before)

  pub walks_first : (before : List Pair) → before ≡ pairs → Walks s₀ before
  walks_first before e = ap (λ (ps : List Pair). meet_all known s₀ (left ps)) (sym e)

  pub walks_then : (s : Search) (before after : List Pair) (own : List Met) → Walks s before → Brings before after own → meet_all known s₀ (left pairs) ≡ onward (meet_all known s own) (λ now. meet_all known now (left after))
  walks_then s before after own h b = h ∙ ap (meet_all known s) b.met ∙ meet_append known s own (left after)

  pub walks_next : (s now : Search) (before after : List Pair) (own : List Met) → Walks s before → Brings before after own → meet_all known s own ≡ Ok now → Walks now after
  walks_next s now before after own h b e = walks_then s before after own h b ∙ ap (λ r. onward r (λ z. meet_all known z (left after))) e

  pub walks_none : (s : Search) (before : List Pair) → Walks s before → left before ≡ [] → meet_all known s₀ (left pairs) ≡ Ok s
  walks_none s before h e = h ∙ ap (meet_all known s) e

-- ---- one equation

pub one_is : (t : Table) (known : List Equation) (i : ℕ) (s : Search) (ms : List Met) (x : Shown) → opened_some t (slice_get s.made i) ≡ Ok ms → Opened ms x →
    walk_one t known i s ≡ onward (meet_all known (based i s) (x.own ++ left x.parts)) (λ z. Ok (closed_at i z))
one_is t known i s ms x e h =
    ap (λ o. onward (meet_opened known (based i s) o) (λ z. Ok (closed_at i z))) e
    ∙ ap (λ w. onward (meet_all known (based i s) w) (λ z. Ok (closed_at i z))) h.met

pub one_stops : (t : Table) (known : List Equation) (i : ℕ) (s : Search) (x : Stop) → opened_some t (slice_get s.made i) ≡ Err x → walk_one t known i s ≡ Err (finding.Stopped x)
one_stops t known i s x e = ap (λ o. onward (meet_opened known (based i s) o) (λ z. Ok (closed_at i z))) e

-- ---- all equations that were made

module _ (t : Table) (known : List Equation) (s₀ : Search) where
  -- so many may still be walked
  pub record Remains (s : Search) (i : ℕ) : Type 0 where
    pub more : ℕ
    pub most : i + more ≡ most_made
    pub is : walk_made t known most_made 0 s₀ ≡ walk_made t known more i s

  pub remains_first : Remains s₀ 0
  remains_first = record { more = most_made; most = refl; is = refl }

  past : (n i : ℕ) (s : Search) → nat_lt i (length s.made) ≡ false → walk_made t known n i s ≡ Ok s
  past zero i s h = refl
  past (suc n) i s h = ap (λ b. cond b (onward (walk_one t known i s) (walk_made t known n (suc i))) (Ok s)) h

  pub remains_none : (s : Search) (i : ℕ) → nat_lt i (length s.made) ≡ false → Remains s i → walk_made t known most_made 0 s₀ ≡ Ok s
  remains_none s i h r = r.is ∙ past r.more i s h

  pub remains_then : (s : Search) (i : ℕ) → nat_lt i (length s.made) ≡ true → i < most_made → (r : Remains s i) →
      (n : ℕ) × (suc i + n ≡ most_made) × (walk_made t known most_made 0 s₀ ≡ onward (walk_one t known i s) (walk_made t known n (suc i)))
  remains_then s i h lt r = by r.more r.most r.is
    where
      by : (m : ℕ) → i + m ≡ most_made → walk_made t known most_made 0 s₀ ≡ walk_made t known m i s →
          (n : ℕ) × (suc i + n ≡ most_made) × (walk_made t known most_made 0 s₀ ≡ onward (walk_one t known i s) (walk_made t known n (suc i)))
      by zero most is = absurd (omega (arith, most))
      by (suc n) most is = (n, omega (arith, most), is ∙ ap (λ b. cond b (onward (walk_one t known i s) (walk_made t known n (suc i))) (Ok s)) h)

  pub remains_next : (s now : Search) (i j : ℕ) → j ≡ suc i → nat_lt i (length s.made) ≡ true → i < most_made → Remains s i → walk_one t known i s ≡ Ok now → Remains now j
  remains_next s now i j e h lt r one =
      let m = remains_then s i h lt r in
      record {
        more = m.0;
        most = ap (λ k. k + m.0) e ∙ m.1;
        is = m.2 ∙ ap (λ o. onward o (walk_made t known m.0 (suc i))) one ∙ ap (λ k. walk_made t known m.0 k now) (sym e);
      }

  -- the walk of one of them ends the search
  pub remains_ends : (s mid : Search) (i : ℕ) (e : Halt) (res : Result (Unit {0}) Halt) → nat_lt i (length s.made) ≡ true → i < most_made → Remains s i → Goes (walk_one t known i s) mid (Err e) → IsErrAnd res (λ x. x ≡ e) → Goes (walk_made t known most_made 0 s₀) mid res
  remains_ends s mid i e res h lt r g from =
      let m = remains_then s i h lt r in
      goes_from (walk_made t known most_made 0 s₀) (walk_one t known i s) (walk_made t known m.0 (suc i)) mid mid e res m.2 g from

-- ---- the walk of both types, and then that of the equations

pub comes_is : (o q : Result Finding Finding) (r : Result Finding Halt) → o ≡ q → Comes q r → Comes o r
comes_is o q r e h = subst (λ x. Comes x r) (sym e) h

-- where the first walk ends early, so does the whole
pub comes_first : (o : Result Finding Finding) (q : Result Search Finding) (f : Search → Result Finding Finding) (mid : Search) (e : Halt) (r : Result Finding Halt) → o ≡ onward q f → Goes q mid (Err e) → r ≡ Err e → Comes o r
comes_first o q f mid e r is h from = subst (Comes o) (sym from) (by e h)
  where
    by : (x : Halt) → Goes q mid (Err x) → Comes o (Err x)
    by (Ends w) g = (is ∙ ap (λ z. onward z f) g.0, g.1)
    by Memory g = tt

pub comes_then : (o : Result Finding Finding) (q : Result Search Finding) (f : Search → Result Finding Finding) (mid : Search) (r : Result Finding Halt) → o ≡ onward q f → q ≡ Ok mid → Comes (f mid) r → Comes o r
comes_then o q f mid r is ok h = comes_is o (f mid) r (is ∙ ap (λ z. onward z f) ok) h

-- what the search comes to where it ends early
pub comes_ended : (o : Result Finding Finding) (f : Finding) (h : Halt) → h ≡ Ends f → Comes o (Err h) → f ≡ ended o
comes_ended o f h e k = sym (ap ended (subst (λ (x : Halt). Comes o (Err x)) e k).0)
