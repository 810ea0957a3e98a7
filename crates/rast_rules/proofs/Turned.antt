-- The channels of a child.
use Rattle.std.proofs.Common.{◌≡◌, ℕ, zero, suc, ◌+◌, ◌-◌, ◌<◌, ◌≤◌, min, Bool, true, false, not, ◌||◌, ◌&&◌, ◌==◌, if◌then◌else◌, List, [], ◌∷◌, ◌++◌, map, length, take, drop, get_or, Option, Some, None, Result, Ok, Err, sym, ◌∙◌, ap, ap₂, refl, arith, add-one, eq-eqb, Bor, append_assoc, inl, inr, ◌⊎◌}
use Rattle.std.proofs.lemmas.Bool.{ne_eqb, eqb-true}
use Rattle.std.specs.Prelude.{IfOk}
use Rattle.std.specs.List.{list_any, list_all}
use Rattle.std.proofs.lemmas.List.{append-nil, take_all, map-append, length-map, length-append, length-drop}
use Rattle.std.proofs.lemmas.List.Elements.{filter-append}
use Rattle.std.proofs.Math.Seq.{take-suc}
use Rattle.std.proofs.lemmas.List.Folds.{list_any-append, list_all-append}
use Rattle.rast_index.specs.Keys.{find_key, set_key}
use Rattle.rast_index.specs.Linear.{Linear, variables}
use Rattle.rast_types.specs.declared.stop.Stop.{Stop}
use Rattle.rast_types.specs.declared.ty.Ty.{Ty}
use Rattle.rast_types.specs.Symbolic.{within, is_deep, is_small_type, made_type, put_type}
use Rattle.rast_rules.specs.Rules.{Judgement, with_type, without, with_variable, with_channel}
use Rattle.rast_rules.specs.Draft.{made_uses, join_made, drafted, turned, turned_uses, changed}
use Rattle.rast_rules.specs.declared.draft.Draft.{Draft}
use Rattle.rast_rules.specs.Making.{made_term}
use Rattle.rast_rules.specs.Trail.{left}

-- ---- one more channel

join_by : (d s e t : Bool) (us : List (ℕ × Ty)) (k : ℕ) (a : Ty) → join_made (within d s us) k (within e t a) ≡ within (d || e) (s && t) (us ++ (k, a) ∷ [])
join_by true true true true us k a = refl
join_by true true true false us k a = refl
join_by true true false true us k a = refl
join_by true true false false us k a = refl
join_by true false true true us k a = refl
join_by true false true false us k a = refl
join_by true false false true us k a = refl
join_by true false false false us k a = refl
join_by false true true true us k a = refl
join_by false true true false us k a = refl
join_by false true false true us k a = refl
join_by false true false false us k a = refl
join_by false false true true us k a = refl
join_by false false true false us k a = refl
join_by false false false true us k a = refl
join_by false false false false us k a = refl

or_none : (b : Bool) → (b || false) ≡ b
or_none true = refl
or_none false = refl

and_one : (b : Bool) → (b && true) ≡ b
and_one true = refl
and_one false = refl

pub join_is : (n : ℕ) (us : List (ℕ × Ty)) (k : ℕ) (a : Ty) → join_made (made_uses n us) k (made_type n a) ≡ made_uses n (us ++ (k, a) ∷ [])
join_is n us k a =
    join_by (list_any (λ u. is_deep n u.1) us) (list_all (λ u. is_small_type u.1) us) (is_deep n a) (is_small_type a) us k a
    ∙ sym (ap₂ (λ d s. within d s (us ++ (k, a) ∷ []))
    (list_any-append (λ (u : ℕ × Ty). is_deep n u.1) us ((k, a) ∷ []) ∙ ap (λ b. list_any (λ u. is_deep n u.1) us || b) (or_none (is_deep n a)))
    (list_all-append (λ (u : ℕ × Ty). is_small_type u.1) us ((k, a) ∷ []) ∙ ap (λ b. list_all (λ u. is_small_type u.1) us && b) (and_one (is_small_type a))))

pub join_made_is : (n : ℕ) (us : List (ℕ × Ty)) (k : ℕ) (a : Ty) (out new : Result (List (ℕ × Ty)) Stop) (m : Result Ty Stop) → out ≡ made_uses n us → m ≡ made_type n a → new ≡ join_made out k m → new ≡ made_uses n (us ++ (k, a) ∷ [])
join_made_is n us k a out new m e f g = g ∙ ap₂ (λ o r. join_made o k r) e f ∙ join_is n us k a

-- ---- channels that are left, one by one

bool_cases : (b : Bool) → (b ≡ true) ⊎ (b ≡ false)
bool_cases true = inl refl
bool_cases false = inr refl

true_false : (b : Bool) → b ≡ false → b ≡ true → ⊥
true_false b e f = cc

skip_none : {A : Type 0} (b : Bool) (x : A) (o : Option A) → (if b then Some x else o) ≡ None → (b ≡ false) × (o ≡ None)
skip_none true x o h = cc
skip_none false x o h = (refl, h)

module _ (n : ℕ) (by : Option (Bor (List Linear))) (gone : List ℕ) where
  abbrev pub all_of : List (ℕ × Ty) → List (ℕ × Ty)
  all_of us = turned_uses n by (left gone us)

  all_append : (us ws : List (ℕ × Ty)) → all_of (us ++ ws) ≡ all_of us ++ all_of ws
  all_append us ws =
      ap (turned_uses n by) (filter-append (λ (u : ℕ × Ty). not (list_any (λ y. y == u.0) gone)) us ws)
      ∙ map-append (λ (v : ℕ × Ty). (v.0, turned n by v.1)) (left gone us) (left gone ws)

  -- one channel that goes, and one that stays
  pub one_gone : (us : List (ℕ × Ty)) (u : ℕ × Ty) (out : Result (List (ℕ × Ty)) Stop) → out ≡ made_uses n us → list_any (λ y. y == u.0) gone ≡ true → out ≡ made_uses n (us ++ all_of (u ∷ []))
  one_gone us u out e taken = e ∙ ap (made_uses n) (sym (append-nil us)) ∙ ap (λ b. made_uses n (us ++ turned_uses n by (if not b then u ∷ [] else []))) (sym taken)

  pub one_kept : (us : List (ℕ × Ty)) (u : ℕ × Ty) (out new : Result (List (ℕ × Ty)) Stop) (m : Result Ty Stop) → out ≡ made_uses n us → list_any (λ y. y == u.0) gone ≡ false → m ≡ made_type n (turned n by u.1) → new ≡ join_made out u.0 m →
      new ≡ made_uses n (us ++ all_of (u ∷ []))
  one_kept us u out new m e free made step =
      join_made_is n us u.0 (turned n by u.1) out new m e made step ∙ ap (λ b. made_uses n (us ++ turned_uses n by (if not b then u ∷ [] else []))) (sym free)

  -- a loop over the channels
  pub uses_turn : (front us : List (ℕ × Ty)) (i : ℕ) (u : ℕ × Ty) (new : Result (List (ℕ × Ty)) Stop) → i < length us → u ≡ get_or us i u →
      new ≡ made_uses n ((front ++ all_of (take i us)) ++ all_of (u ∷ [])) → new ≡ made_uses n (front ++ all_of (take (i + 1) us))
  uses_turn front us i u new below is step =
      let next : take (i + 1) us ≡ take i us ++ u ∷ [] = ap (λ k. take k us) (add-one i) ∙ take-suc us i u below ∙ ap (λ v. take i us ++ v ∷ []) (sym is) in
      step ∙ ap (made_uses n) (append_assoc front (all_of (take i us)) (all_of (u ∷ [])) ∙ ap (λ vs. front ++ vs) (sym (all_append (take i us) (u ∷ [])) ∙ ap all_of (sym next)))

  pub uses_begin : (front us : List (ℕ × Ty)) (out : Result (List (ℕ × Ty)) Stop) → out ≡ made_uses n front → out ≡ made_uses n (front ++ all_of (take 0 us))
  uses_begin front us out e = e ∙ ap (made_uses n) (sym (append-nil front))

  pub uses_end : (front us : List (ℕ × Ty)) (i : ℕ) (out : Result (List (ℕ × Ty)) Stop) → out ≡ made_uses n (front ++ all_of (take i us)) → length us ≤ i → out ≡ made_uses n (front ++ all_of us)
  uses_end front us i out inv past = inv ∙ ap (λ vs. made_uses n (front ++ all_of vs)) (take_all i us past)

  -- ---- with another type at one channel

  abbrev entry : (ℕ × Ty) → ℕ × Ty
  entry u = (u.0, turned n by u.1)

  is_gone : (u : ℕ × Ty) (us : List (ℕ × Ty)) → list_any (λ y. y == u.0) gone ≡ true → all_of (u ∷ us) ≡ all_of us
  is_gone u us h = ap (λ b. turned_uses n by (if not b then u ∷ left gone us else left gone us)) h

  is_kept : (u : ℕ × Ty) (us : List (ℕ × Ty)) → list_any (λ y. y == u.0) gone ≡ false → all_of (u ∷ us) ≡ entry u ∷ all_of us
  is_kept u us h = ap (λ b. turned_uses n by (if not b then u ∷ left gone us else left gone us)) h

  set_skip : (k : ℕ) (a : Ty) (u : ℕ × Ty) (es : List (ℕ × Ty)) → (u.0 == k) ≡ false → set_key k a (entry u ∷ es) ≡ entry u ∷ set_key k a es
  set_skip k a u es h = ap (λ b. if b then (k, a) ∷ es else entry u ∷ set_key k a es) h

  module _ (k : ℕ) (a : Ty) where
    pub set_gone : (us : List (ℕ × Ty)) → list_any (λ y. y == k) gone ≡ true → set_key k a (all_of us) ≡ all_of us
    set_gone [] h = refl
    set_gone (u ∷ us) h =
        let more' = set_gone us h in
        elim (bool_cases (list_any (λ y. y == u.0) gone)) [
          | inl t ↦ ap (set_key k a) (is_gone u us t) ∙ more' ∙ sym (is_gone u us t)
          | inr f ↦
              let other : (u.0 == k) ≡ false = ne_eqb u.0 k (λ e. true_false _ (sym (ap (λ z. list_any (λ y. y == z) gone) e) ∙ f) h) in
              ap (set_key k a) (is_kept u us f) ∙ set_skip k a u (all_of us) other ∙ ap (λ es. entry u ∷ es) more' ∙ sym (is_kept u us f)
        ]

    pub set_absent : (us : List (ℕ × Ty)) → find_key k us ≡ None → set_key k a (all_of us) ≡ all_of us
    set_absent [] h = refl
    set_absent (u ∷ us) h =
        let r = skip_none (u.0 == k) u.1 (find_key k us) h in
        let more' = set_absent us r.1 in
        elim (bool_cases (list_any (λ y. y == u.0) gone)) [
          | inl t ↦ ap (set_key k a) (is_gone u us t) ∙ more' ∙ sym (is_gone u us t)
          | inr f ↦ ap (set_key k a) (is_kept u us f) ∙ set_skip k a u (all_of us) r.0 ∙ ap (λ es. entry u ∷ es) more' ∙ sym (is_kept u us f)
        ]

    pub set_split : (us : List (ℕ × Ty)) (i : ℕ) (d : ℕ × Ty) → list_any (λ y. y == k) gone ≡ false → i < length us → find_key k (take i us) ≡ None → (get_or us i d).0 ≡ k →
        set_key k a (all_of us) ≡ (all_of (take i us) ++ (k, a) ∷ []) ++ all_of (drop (suc i) us)
    set_split [] i d free below before' here = absurd (omega arith)
    set_split (u ∷ us) zero d free below before' here =
        let f : list_any (λ y. y == u.0) gone ≡ false = ap (λ z. list_any (λ y. y == z) gone) here ∙ free in
        ap (set_key k a) (is_kept u us f) ∙ ap (λ b. if b then (k, a) ∷ all_of us else entry u ∷ set_key k a (all_of us)) (eq-eqb u.0 k here)
    set_split (u ∷ us) (suc i) d free below before' here =
        let r = skip_none (u.0 == k) u.1 (find_key k (take i us)) before' in
        let more' = set_split us i d free (omega arith) r.1 here in
        elim (bool_cases (list_any (λ y. y == u.0) gone)) [
          | inl t ↦ ap (set_key k a) (is_gone u us t) ∙ more' ∙ ap (λ es. (es ++ (k, a) ∷ []) ++ all_of (drop (suc i) us)) (sym (is_gone u (take i us) t))
          | inr f ↦
              ap (set_key k a) (is_kept u us f) ∙ set_skip k a u (all_of us) r.0 ∙ ap (λ es. entry u ∷ es) more'
              ∙ ap (λ es. (es ++ (k, a) ∷ []) ++ all_of (drop (suc i) us)) (sym (is_kept u (take i us) f))
        ]

-- ---- what a change is

left_none : (us : List (ℕ × Ty)) → left [] us ≡ us
left_none [] = refl
left_none (u ∷ us) = ap (λ vs. u ∷ vs) (left_none us)

same_uses : (n : ℕ) (us : List (ℕ × Ty)) → turned_uses n None us ≡ us
same_uses n [] = refl
same_uses n (u ∷ us) = ap (λ vs. u ∷ vs) (same_uses n us)

-- without a change of scope some channels go
pub changed_without : (j : Judgement) (gone : List ℕ) → changed j.ctx.vars None gone j ≡ without j gone
changed_without j gone = ap (λ us. record j { uses = us }) (same_uses j.ctx.vars (left gone j.uses))

pub without_none : (j : Judgement) → without j [] ≡ j
without_none j = ap (λ us. record j { uses = us }) (left_none j.uses)

pub changed_none : (j : Judgement) → changed j.ctx.vars None [] j ≡ j
changed_none j = changed_without j [] ∙ without_none j

pub changed_wider : (j : Judgement) (by : Bor (List Linear)) → by.now ≡ variables j.ctx.vars → changed (j.ctx.vars + 1) (Some by) [] j ≡ with_variable j
changed_wider j by e =
    let c = j.ctx in
    ap (λ us. record j { ctx = record c { vars = c.vars + 1 }; uses = turned_uses (c.vars + 1) (Some by) us; gives = (j.gives.0, put_type (c.vars + 1) by.now j.gives.1) }) (left_none j.uses)
    ∙ ap (λ (vs : List Linear). record j { ctx = record c { vars = c.vars + 1 }; uses = map (λ u. (u.0, put_type (c.vars + 1) vs u.1)) j.uses; gives = (j.gives.0, put_type (c.vars + 1) vs j.gives.1) }) e

-- ---- drafts

length_set : (k : ℕ) (a : Ty) (us : List (ℕ × Ty)) → length (set_key k a us) ≡ length us
length_set k a [] = refl
length_set k a (u ∷ us) = by_test (u.0 == k) (set_key k a us) (length_set k a us)
  where
    by_test : (b : Bool) (ws : List (ℕ × Ty)) → length ws ≡ length us → length (if b then (k, a) ∷ us else u ∷ ws) ≡ suc (length us)
    by_test true ws e = refl
    by_test false ws e = ap suc e

module _ (j : Judgement) (n : ℕ) (by : Option (Bor (List Linear))) (gone : List ℕ) (d : Draft) (c : ℕ) (many : c ≡ min 16 (length (left gone j.uses))) where
  same_count : c ≡ min 16 (length (turned_uses n by (left gone j.uses)))
  same_count = many ∙ ap (min 16) (sym (length-map (left gone j.uses) (λ (u : ℕ × Ty). (u.0, turned n by u.1))))

  abbrev draft_of : Result (List (ℕ × Ty)) Stop → ℕ → ℕ → Result Ty Stop → Draft
  draft_of us m x g = record { vars = n; uses = us; count = m; potential = made_term j.potential; provided = x; gives = g; fresh = j.fresh }

  pub change_is : (us : Result (List (ℕ × Ty)) Stop) (g : Result Ty Stop) → us ≡ made_uses n (turned_uses n by (left gone j.uses)) → g ≡ made_type n (turned n by j.gives.1) → d ≡ draft_of us c j.gives.0 g → d ≡ drafted (changed n by gone j)
  change_is us g e f h = h ∙ ap₂ (λ ws m. draft_of ws m j.gives.0 g) e same_count ∙ ap (draft_of (made_uses n (turned_uses n by (left gone j.uses))) (min 16 (length (turned_uses n by (left gone j.uses)))) j.gives.0) f

  module _ (x : ℕ) (a : Ty) where
    abbrev at_type : Bool → Judgement
    at_type b = let k = changed n by gone j in if b then record k { gives = (x, a) } else record k { uses = set_key x a k.uses }

    pub change_provided : (us : Result (List (ℕ × Ty)) Stop) (g : Result Ty Stop) → (x == j.gives.0) ≡ true → us ≡ made_uses n (turned_uses n by (left gone j.uses)) → g ≡ made_type n a → d ≡ draft_of us c j.gives.0 g → d ≡ drafted (with_type (changed n by gone j) x a)
    change_provided us g here e f h =
        let same : j.gives.0 ≡ x = sym (eqb-true x j.gives.0 here) in
        h ∙ ap₂ (λ ws m. draft_of ws m j.gives.0 g) e same_count
        ∙ ap₂ (draft_of (made_uses n (turned_uses n by (left gone j.uses))) (min 16 (length (turned_uses n by (left gone j.uses))))) same f
        ∙ ap (λ b. drafted (at_type b)) (sym here)

    pub change_used : (us : Result (List (ℕ × Ty)) Stop) (g : Result Ty Stop) → (x == j.gives.0) ≡ false → us ≡ made_uses n (set_key x a (turned_uses n by (left gone j.uses))) → g ≡ made_type n (turned n by j.gives.1) → d ≡ draft_of us c j.gives.0 g → d ≡ drafted (with_type (changed n by gone j) x a)
    change_used us g there e f h =
        let ws = set_key x a (turned_uses n by (left gone j.uses)) in
        h ∙ ap₂ (λ vs m. draft_of vs m j.gives.0 g) e (same_count ∙ ap (min 16) (sym (length_set x a (turned_uses n by (left gone j.uses)))))
        ∙ ap (draft_of (made_uses n ws) (min 16 (length ws)) j.gives.0) f
        ∙ ap (λ b. drafted (at_type b)) (sym there)

-- one more channel of a draft
pub channel_is : (j : Judgement) (a : Ty) (d : Draft) (us : Result (List (ℕ × Ty)) Stop) (m : Result Ty Stop) (c x f : ℕ) → d ≡ drafted j → m ≡ made_type j.ctx.vars a → x ≡ j.fresh → us ≡ join_made d.uses x m → c ≡ min 16 (d.count + 1) → f ≡ x + 1 →
    record d { uses = us; count = c; fresh = f } ≡ drafted (with_channel j a)
channel_is j a d us m c x f e g h k q r =
    let made : us ≡ made_uses j.ctx.vars (j.uses ++ (j.fresh, a) ∷ []) = k ∙ ap (λ y. join_made d.uses y m) h ∙ join_made_is j.ctx.vars j.uses j.fresh a d.uses (join_made d.uses j.fresh m) m (ap (λ (b : Draft). b.uses) e) g refl in
    let many : c ≡ min 16 (length (j.uses ++ (j.fresh, a) ∷ [])) = let counts = ap (λ (b : Draft). b.count) e in let l = length-append j.uses ((j.fresh, a) ∷ []) in omega (arith, q, counts, l) in
    ap₂ (λ (b : Draft) (ws : Result (List (ℕ × Ty)) Stop). record b { uses = ws; count = c; fresh = f }) e made
    ∙ ap₂ (λ i y. record (drafted j) { uses = made_uses j.ctx.vars (j.uses ++ (j.fresh, a) ∷ []); count = i; fresh = y }) many (r ∙ ap (λ y. y + 1) h)

-- ---- answers

pub ok_trans : {T E : Type 0} (r : Result T E) (a b : T) → a ≡ b → IfOk r (λ m. m ≡ a) → IfOk r (λ m. m ≡ b)
ok_trans {T} {E} (Ok x) a b e h = h ∙ e
ok_trans {T} {E} (Err f) a b e h = tt

-- what is left of a list behind its first k
pub rest_is : (us : List (ℕ × Ty)) (k : ℕ) → take (length us - k) (drop k us) ≡ drop k us
rest_is us k = take_all (length us - k) (drop k us) (omega (arith, length-drop k us))
