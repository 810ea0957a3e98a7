-- How many references a walk takes.
use Rattle.std.proofs.Common.{◌≡◌, ℕ, suc, ◌+◌, ◌-◌, ◌<◌, ◌≤◌, min, Bool, true, false, ◌==◌, ◌&&◌, ◌||◌, if◌then◌else◌, List, [], ◌∷◌, ◌++◌, map, length, drop, get_or, Option, Some, sym, ◌∙◌, ap, ap₂, refl, arith, add-one}
use Rattle.std.proofs.Math.Seq.{drop-cons}
use Rattle.std.proofs.lemmas.List.{drop_all}
use Rattle.std.specs.Prelude.{is_some, flat_map, nat_lt}
use Rattle.std.specs.List.{list_all}
use Rattle.std.proofs.lemmas.Bool.Decides.{nat_tests}
use Rattle.rast_index.specs.Keys.{find_key}
use Rattle.rast_index.specs.Linear.{Linear, nought}
use Rattle.rast_index.specs.Truth.{is_equal}
use Rattle.rast_index.specs.declared.formula.Formula.{Formula}
use Rattle.rast_types.specs.declared.ty.Ty.{Ty, out-Ty, roll-Ty, roll-out-Ty}
use Rattle.rast_types.specs.declared.ty.Ty.TheVariants as ty
use Rattle.rast_types.specs.declared.ty.Ty.TheOpen.{Ty-F, One, Plus, With, Tensor, Lolli, Named, Ex, All, Assert, Assume, Pays, Gets, Next}
use Rattle.rast_types.specs.declared.ty.Ty.TheFolds.{map-Ty}
use Rattle.rast_types.specs.Closed.{Layer}
use Rattle.rast_types.specs.Symbolic.{is_name, is_next, is_next_layer, timed}
use Rattle.rast_equal.proofs.Walks.{walk_at, peel_next as next_peeled, peel_none as none_peeled}
use Rattle.rast_equal.specs.declared.place.Place.{Place}
use Rattle.rast_equal.specs.declared.met.Met.{Met}
use Rattle.rast_equal.specs.declared.met.Met.TheVariants.{Wants, Names, Differs, Shuffled, Over}
use Rattle.rast_equal.specs.Walk.{Walker, walker, walk_layer, meets, count, Peeled, peeled, at_rest, heads, all_of, choices, is_among, at_label, same_list, down}
use Rattle.rast_equal.specs.declared.answer.Part.TheVariants.{First, Second}
use Rattle.rast_rules.specs.declared.count.Left.{Left}
use Rattle.rast_rules.specs.Count.{taken, met_step, after}

-- ---- what is left

pub after_append : (l : Left) (xs ys : List Met) → after l (xs ++ ys) ≡ after (after l xs) ys
after_append l [] ys = refl
after_append l (x ∷ xs) ys = after_append (met_step l x) xs ys

abbrev left_of : ℕ → Bool → Left
left_of r b = record { room = r; over = b }

after_over : (r : ℕ) (ms : List Met) → after (left_of r true) ms ≡ left_of r true
after_over r [] = refl
after_over r (Wants p goal ∷ ms) = after_over r ms
after_over r (Names p a b ∷ ms) = after_over r ms
after_over r (Differs p ∷ ms) = after_over r ms
after_over r (Shuffled p ∷ ms) = after_over r ms
after_over r (Over ∷ ms) = after_over r ms

after_count : (r : ℕ) (ms : List Met) → (after (left_of r false) ms).room ≡ r - count ms
after_count r [] = omega arith
after_count r (Wants p goal ∷ ms) = after_count r ms
after_count r (Names p a b ∷ ms) = let h = after_count (r - 1) ms in omega (arith, h)
after_count r (Differs p ∷ ms) = after_count r ms
after_count r (Shuffled p ∷ ms) = after_count r ms
after_count r (Over ∷ ms) = ap (λ (l : Left). l.room) (after_over r ms) ∙ (omega arith)

pub count_by_rest : (r q : ℕ) (l : Left) (ms : List Met) → l ≡ after (left_of r false) ms → q ≡ r - l.room → q ≡ min r (count ms)
count_by_rest r q l ms e f = let h = ap (λ (k : Left). k.room) e ∙ after_count r ms in omega (arith, h, f)

-- ---- a walk by the outside of its first type

abbrev walks : Layer → Ty-F Walker
walks x = map-Ty Ty Walker walker x

module _ (a b : Ty) (p : Place) (l : Left) where
  pub walk_over : nat_lt 16 p.vars ≡ true → record l { over = true } ≡ after l (meets a b p)
  walk_over deep = sym (ap (after l) (walk_at a b p) ∙ ap (λ c. after l (if c then Over ∷ [] else (if is_name a || is_name b then Names p a b ∷ [] else walk_layer (walks (out-Ty a)) a b p))) deep)

  within_scope : nat_lt 16 p.vars ≡ false → after l (meets a b p) ≡ after l (if is_name a || is_name b then Names p a b ∷ [] else walk_layer (walks (out-Ty a)) a b p)
  within_scope shallow = ap (after l) (walk_at a b p) ∙ ap (λ c. after l (if c then Over ∷ [] else (if is_name a || is_name b then Names p a b ∷ [] else walk_layer (walks (out-Ty a)) a b p))) shallow

  pub walk_name : nat_lt 16 p.vars ≡ false → (is_name a || is_name b) ≡ true → taken l ≡ after l (meets a b p)
  walk_name shallow named = sym (within_scope shallow ∙ ap (λ c. after l (if c then Names p a b ∷ [] else walk_layer (walks (out-Ty a)) a b p)) named)

  no_name : nat_lt 16 p.vars ≡ false → (is_name a || is_name b) ≡ false → after l (meets a b p) ≡ after l (walk_layer (walks (out-Ty a)) a b p)
  no_name shallow free = within_scope shallow ∙ ap (λ c. after l (if c then Names p a b ∷ [] else walk_layer (walks (out-Ty a)) a b p)) free

  pub walk_next : (t : Linear) (body : Ty) → nat_lt 16 p.vars ≡ false → (is_name a || is_name b) ≡ false → out-Ty a ≡ Next t body → after l (meets a b p) ≡ after l (meets body (timed b).body p)
  walk_next t body shallow free is = no_name shallow free ∙ ap (λ x. after l (walk_layer (walks x) a b p)) is

  ticks_none : (ts : List Linear) (q : Place) (f : Linear → Formula) (ms : List Met) → after l (map (λ t. Wants q (f t)) ts ++ ms) ≡ after l ms
  ticks_none [] q f ms = refl
  ticks_none (t ∷ ts) q f ms = ticks_none ts q f ms

  other_layer : (x : Layer) → is_next_layer x ≡ false → walk_layer (walks x) a b p ≡ map (λ t. Wants p (is_equal nought t)) (peeled b).ticks ++ at_rest (walks x) a p (peeled b).rest
  other_layer (Next t c) h = absurd (cc)
  other_layer One h = refl
  other_layer (Plus ts) h = refl
  other_layer (With ts) h = refl
  other_layer (Tensor c d) h = refl
  other_layer (Lolli c d) h = refl
  other_layer (Named k es) h = refl
  other_layer (Ex c) h = refl
  other_layer (All c) h = refl
  other_layer (Assert f c) h = refl
  other_layer (Assume f c) h = refl
  other_layer (Pays q c) h = refl
  other_layer (Gets q c) h = refl

  pub walk_rest : nat_lt 16 p.vars ≡ false → (is_name a || is_name b) ≡ false → is_next a ≡ false → after l (meets a b p) ≡ after l (at_rest (walks (out-Ty a)) a p (peeled b).rest)
  walk_rest shallow free plain' = no_name shallow free ∙ ap (after l) (other_layer (out-Ty a) plain') ∙ ticks_none (peeled b).ticks p (is_equal nought) (at_rest (walks (out-Ty a)) a p (peeled b).rest)

  pub rest_name : (x : Ty-F Walker) → is_name b ≡ true → taken l ≡ after l (at_rest x a p b)
  rest_name x named = sym (ap (λ c. after l (if c then Names p a b ∷ [] else Wants p (is_equal nought nought) ∷ all_of (heads x (out-Ty b) p))) named)

  pub rest_head : (x : Ty-F Walker) → is_name b ≡ false → after l (at_rest x a p b) ≡ after l (all_of (heads x (out-Ty b) p))
  rest_head x free = ap (λ c. after l (if c then Names p a b ∷ [] else Wants p (is_equal nought nought) ∷ all_of (heads x (out-Ty b) p))) free

  pub heads_by : (x y : Layer) → out-Ty a ≡ x → out-Ty b ≡ y → after l (all_of (heads (walks x) y p)) ≡ after l (all_of (heads (walks (out-Ty a)) (out-Ty b) p))
  heads_by x y e f = sym (ap₂ (λ u v. after l (all_of (heads (walks u) v p))) e f)

-- ---- below all ticks

pub peel_next : (a body : Ty) (l : Linear) → out-Ty a ≡ Next l body → (peeled a).rest ≡ (peeled body).rest
peel_next a body l is = ap (λ (q : Peeled). q.rest) (next_peeled a body l is)

pub peel_none : (a : Ty) → is_next a ≡ false → (peeled a).rest ≡ a
peel_none a h = ap (λ (q : Peeled). q.rest) (none_peeled a h)

-- ---- choices

abbrev pub walkers : List (ℕ × Ty) → List (ℕ × Walker)
walkers ts = map (λ e. (e.0, walker e.1)) ts

find_walker : (k : ℕ) (ts : List (ℕ × Ty)) → is_some (find_key k (walkers ts)) ≡ is_some (find_key k ts)
find_walker k [] = refl
find_walker k (t ∷ ts) = found (t.0 == k) t.1 (walker t.1) (find_key k ts) (find_key k (walkers ts)) (find_walker k ts)
  where
    found : (b : Bool) (a : Ty) (w : Walker) (o : Option Ty) (q : Option Walker) → is_some q ≡ is_some o → is_some (if b then Some w else q) ≡ is_some (if b then Some a else o)
    found true a w o q h = refl
    found false a w o q h = h

all_same : {X : Type 0} (f g : X → Bool) (xs : List X) → ((x : X) → f x ≡ g x) → list_all f xs ≡ list_all g xs
all_same f g [] h = refl
all_same f g (x ∷ xs) h = ap₂ (λ a b. a && b) (h x) (all_same f g xs h)

all_walkers : (us ts : List (ℕ × Ty)) → list_all (is_among us) (walkers ts) ≡ list_all (is_among us) ts
all_walkers us [] = refl
all_walkers us (t ∷ ts) = ap (λ b. is_some (find_key t.0 us) && b) (all_walkers us ts)

module _ (ts us : List (ℕ × Ty)) (p : Place) (l : Left) where
  abbrev labels_same : Bool
  labels_same = list_all (is_among us) (walkers ts) && list_all (is_among (walkers ts)) us

  abbrev walked : List Met
  walked = flat_map (λ e. at_label p e (find_key e.0 us)) (walkers ts)

  pub walk_turn : (now new start : Left) (i : ℕ) (t : ℕ × Ty) → after now (flat_map (λ e. at_label p e (find_key e.0 us)) (walkers (drop i ts))) ≡ after start walked → i < length ts → t ≡ get_or ts i t →
      new ≡ after now (at_label p (t.0, walker t.1) (find_key t.0 us)) → after new (flat_map (λ e. at_label p e (find_key e.0 us)) (walkers (drop (i + 1) ts))) ≡ after start walked
  walk_turn now new start i t inv below is step =
      let rest = drop (suc i) ts in
      let F : List (ℕ × Ty) → List Met = λ xs. flat_map (λ e. at_label p e (find_key e.0 us)) (walkers xs) in
      ap (λ k. after new (F (drop k ts))) (add-one i) ∙ ap (λ k. after k (F rest)) step
      ∙ sym (after_append now (at_label p (t.0, walker t.1) (find_key t.0 us)) (F rest))
      ∙ ap (λ xs. after now (F xs)) (sym (drop-cons ts i t below ∙ ap (λ u. u ∷ rest) (sym is))) ∙ inv

  pub walk_end : (now start : Left) (i : ℕ) → after now (flat_map (λ e. at_label p e (find_key e.0 us)) (walkers (drop i ts))) ≡ after start walked → length ts ≤ i → now ≡ after start walked
  walk_end now start i inv past = ap (λ xs. after now (flat_map (λ e. at_label p e (find_key e.0 us)) (walkers xs))) (sym (drop_all i ts past)) ∙ inv

  by_labels : (c d : Bool) → list_all (is_among us) ts ≡ c → list_all (is_among ts) us ≡ d → labels_same ≡ (c && d)
  by_labels c d e f = ap₂ (λ a b. a && b) (all_walkers us ts ∙ e) (all_same (is_among (walkers ts)) (is_among ts) us (λ u. find_walker u.0 ts) ∙ f)

  pub choices_differ : (c d : Bool) → list_all (is_among us) ts ≡ c → list_all (is_among ts) us ≡ d → (c && d) ≡ false → l ≡ after l (all_of (choices (walkers ts) us p))
  choices_differ c d e f h =
      sym (ap (λ b. after l (all_of (if b then (record { own = if same_list (map (λ w. w.0) (walkers ts)) (map (λ u. u.0) us) then [] else Shuffled p ∷ []; parts = walked }) else (record { own = Differs p ∷ []; parts = [] })))) (by_labels c d e f ∙ h))

  either_own : (b : Bool) → after l ((if b then [] else Shuffled p ∷ []) ++ walked) ≡ after l walked
  either_own true = refl
  either_own false = refl

  pub choices_agree : list_all (is_among us) ts ≡ true → list_all (is_among ts) us ≡ true → after l walked ≡ after l (all_of (choices (walkers ts) us p))
  choices_agree e f =
      sym (ap (λ b. after l (all_of (if b then (record { own = if same_list (map (λ w. w.0) (walkers ts)) (map (λ u. u.0) us) then [] else Shuffled p ∷ []; parts = walked }) else (record { own = Differs p ∷ []; parts = [] })))) (by_labels true true e f)
      ∙ either_own (same_list (map (λ w. w.0) (walkers ts)) (map (λ u. u.0) us)))

-- ---- what is no next

no_next : (x : Layer) → ((l : Linear) (b : Ty) → roll-Ty x ≡ ty.Next l b → ⊥) → is_next_layer x ≡ false
no_next (Next l c) h = absurd (h l c (ty.rolls-Next l c))
no_next One h = refl
no_next (Plus ts) h = refl
no_next (With ts) h = refl
no_next (Tensor c d) h = refl
no_next (Lolli c d) h = refl
no_next (Named k es) h = refl
no_next (Ex c) h = refl
no_next (All c) h = refl
no_next (Assert f c) h = refl
no_next (Assume f c) h = refl
no_next (Pays q c) h = refl
no_next (Gets q c) h = refl

pub not_next : (a : Ty) → ((l : Linear) (b : Ty) → a ≡ ty.Next l b → ⊥) → is_next a ≡ false
not_next a h = no_next (out-Ty a) (λ l b e. h l b (sym (roll-out-Ty a) ∙ e))

pub scope_within : (n m : ℕ) → n ≡ m → m ≤ 16 → nat_lt 16 n ≡ false
scope_within n m e h = grind (arith, nat_tests)

pub none_named : (a b c d : Bool) → a ≡ c → b ≡ d → c ≡ false → d ≡ false → (a || b) ≡ false
none_named a b c d e f g h = ap₂ (λ x y. x || y) (e ∙ g) (f ∙ h)

-- ---- heads with parts

pub choices_by : (K : List (ℕ × Ty) → Layer) (a b : Ty) (p : Place) (l : Left) (ts us xs ys : List (ℕ × Ty)) → xs ≡ ts → ys ≡ us → out-Ty a ≡ K ts → out-Ty b ≡ K us →
    after l (all_of (heads (walks (K ts)) (K us) p)) ≡ after l (all_of (choices (walkers ts) us p)) →
    after l (all_of (choices (walkers xs) ys p)) ≡ after l (all_of (heads (walks (out-Ty a)) (out-Ty b) p))
choices_by K a b p l ts us xs ys e f oa ob h = ap₂ (λ (zs ws : List (ℕ × Ty)). after l (all_of (choices (walkers zs) ws p))) e f ∙ sym h ∙ heads_by a b p l (K ts) (K us) oa ob

pub pair_by : (K : Ty → Ty → Layer) (a b : Ty) (p : Place) (l m r : Left) (c d e f c' d' e' f' : Ty) → c' ≡ c → d' ≡ d → e' ≡ e → f' ≡ f →
    m ≡ after l (meets c' e' (down First p)) → r ≡ after m (meets d' f' (down Second p)) → out-Ty a ≡ K c d → out-Ty b ≡ K e f →
    ((k : Left) → after k (all_of (heads (walks (K c d)) (K e f) p)) ≡ after k (meets c e (down First p) ++ meets d f (down Second p))) →
    r ≡ after l (all_of (heads (walks (out-Ty a)) (out-Ty b) p))
pair_by K a b p l m r c d e f c' d' e' f' ec ed ee ef hm hr oa ob h =
    hr ∙ ap (λ (k : Left). after k (meets d' f' (down Second p))) hm
    ∙ ap₂ (λ (x y : Ty). after (after l (meets x y (down First p))) (meets d' f' (down Second p))) ec ee
    ∙ ap₂ (λ (x y : Ty). after (after l (meets c e (down First p))) (meets x y (down Second p))) ed ef
    ∙ sym (after_append l (meets c e (down First p)) (meets d f (down Second p)))
    ∙ sym (h l) ∙ heads_by a b p l (K c d) (K e f) oa ob
