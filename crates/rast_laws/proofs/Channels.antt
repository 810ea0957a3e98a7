-- The channels of a process beside those of a judgement.
use Rattle.std.proofs.Common.{◌≡◌, ℕ, ℤ, Bool, true, false, ◌≤◌, ◌==◌, List, [], ◌∷◌, ◌++◌, map, Option, Some, refl, ap, ◌∙◌, subst, arith, if◌then◌else◌}
use Rattle.rast_index.specs.Keys.{find_key, set_key, drop_key}
use Rattle.rast_types.specs.declared.ty.Ty.{Ty}
use Rattle.rast_types.specs.Closed.{Closed, closed, Table, Equal, View, view, Serves}
use Rattle.rast_order.proofs.Words.{Link, Side, Client, Provider}
use Rattle.rast_order.proofs.Counts.{hit_self}
use Rattle.rast_order.proofs.Keys.{held_by}
use Rattle.rast_equal.proofs.Equals.{equal_sym}
use Rattle.rast_equal.proofs.Proper.{Proper, proper_head, proper_equal}
use Rattle.rast_laws.proofs.Serving.{serves_left, serves_right}

-- the view of the process that provides or uses a link, and the view due there
abbrev pub Ties : Table → Side → View → View → Type 0
Ties t Provider mine due = Serves t mine due
Ties t Client mine due = Serves t due mine

-- a process that provides or uses the link sees it at this closed type, at this moment
pub record SeenAt (t : Table) (d : Link → Option View) (m : ℕ) (s : Side) (l : Link) (c : Closed) : Type 0 where
  pub due : View
  pub is : d l ≡ Some due
  pub due_proper : Proper t due.type
  pub ties : Ties t s (view m c) due
  pub proper : Proper t c

-- an equal type in the place of the type
pub seen_equal : (t : Table) (d : Link → Option View) (m : ℕ) (s : Side) (l : Link) (a b : Closed) → Equal t a b → SeenAt t d m s l a → SeenAt t d m s l b
seen_equal t d m Provider l a b e c = record { due = c.due; is = c.is; due_proper = c.due_proper; ties = serves_left t m b a c.due (equal_sym t a b e) (proper_head t b (proper_equal t a b e c.proper)) c.ties; proper = proper_equal t a b e c.proper }
seen_equal t d m Client l a b e c = record { due = c.due; is = c.is; due_proper = c.due_proper; ties = serves_right t m a b c.due e (proper_head t a c.proper) c.ties; proper = proper_equal t a b e c.proper }

-- what is due at the link is the same
pub seen_due : (t : Table) (d e : Link → Option View) (m : ℕ) (s : Side) (l : Link) (c : Closed) → e l ≡ d l → SeenAt t d m s l c → SeenAt t e m s l c
seen_due t d e m s l c q x = record { due = x.due; is = q ∙ x.is; due_proper = x.due_proper; ties = x.ties; proper = x.proper }

-- the channels of a process, and the types of the same channels, at the process's values
abbrev pub AreSeen : Table → (Link → Option View) → ℕ → List ℤ → List (ℕ × Link) → List (ℕ × Ty) → Type 0
AreSeen t d m vs [] [] = Unit {0}
AreSeen t d m vs [] (a ∷ as') = ⊥
AreSeen t d m vs (u ∷ us) [] = ⊥
AreSeen t d m vs (u ∷ us) (a ∷ as') = (u.0 ≡ a.0) × SeenAt t d m Client u.1 (closed a.1 vs) × AreSeen t d m vs us as'

-- ---- one channel

pub record HasLink (t : Table) (d : Link → Option View) (m : ℕ) (vs : List ℤ) (us : List (ℕ × Link)) (k : ℕ) (a : Ty) : Type 0 where
  pub link : Link
  pub found : find_key k us ≡ Some link
  pub seen : SeenAt t d m Client link (closed a vs)

link_here : (t : Table) (d : Link → Option View) (m : ℕ) (vs : List ℤ) (k : ℕ) (u : ℕ × Link) (us : List (ℕ × Link)) (a : ℕ × Ty) (as' : List (ℕ × Ty)) (x : Ty) (b : Bool) → (u.0 == k) ≡ b → SeenAt t d m Client u.1 (closed a.1 vs) → (find_key k as' ≡ Some x → HasLink t d m vs us k x) → (if b then Some a.1 else find_key k as') ≡ Some x → HasLink t d m vs (u ∷ us) k x
link_here t d m vs k u us a as' x true e q ih h =
    let s : a.1 ≡ x = cc in
    record { link = u.1; found = ap (λ (b : Bool). if b then Some u.1 else find_key k us) e; seen = subst (λ y. SeenAt t d m Client u.1 (closed y vs)) s q }
link_here t d m vs k u us a as' x false e q ih h =
    let r = ih h in
    record { link = r.link; found = ap (λ (b : Bool). if b then Some u.1 else find_key k us) e ∙ r.found; seen = r.seen }

pub seen_link : (t : Table) (d : Link → Option View) (m : ℕ) (vs : List ℤ) (k : ℕ) (us : List (ℕ × Link)) (as' : List (ℕ × Ty)) (x : Ty) → AreSeen t d m vs us as' → find_key k as' ≡ Some x → HasLink t d m vs us k x
seen_link t d m vs k [] [] x h f = cc
seen_link t d m vs k [] (a ∷ as') x h f = absurd h
seen_link t d m vs k (u ∷ us) [] x h f = cc
seen_link t d m vs k (u ∷ us) (a ∷ as') x h f =
    link_here t d m vs k u us a as' x (u.0 == k) refl h.1 (seen_link t d m vs k us as' x h.2) (ap (λ (n : ℕ). if n == k then Some a.1 else find_key k as') h.0 ∙ f)

-- ---- a channel goes on at another link and type

set_here : (t : Table) (d : Link → Option View) (m : ℕ) (vs : List ℤ) (k : ℕ) (l : Link) (x : Ty) (u : ℕ × Link) (us : List (ℕ × Link)) (a : ℕ × Ty) (as' : List (ℕ × Ty)) (b : Bool) → u.0 ≡ a.0 → SeenAt t d m Client u.1 (closed a.1 vs) → AreSeen t d m vs us as' → SeenAt t d m Client l (closed x vs) → AreSeen t d m vs (set_key k l us) (set_key k x as') → AreSeen t d m vs (if b then (k, l) ∷ us else u ∷ set_key k l us) (if b then (k, x) ∷ as' else a ∷ set_key k x as')
set_here t d m vs k l x u us a as' true e q r y ih = (refl, y, r)
set_here t d m vs k l x u us a as' false e q r y ih = (e, q, ih)

pub seen_set : (t : Table) (d : Link → Option View) (m : ℕ) (vs : List ℤ) (k : ℕ) (l : Link) (x : Ty) (us : List (ℕ × Link)) (as' : List (ℕ × Ty)) → AreSeen t d m vs us as' → SeenAt t d m Client l (closed x vs) → AreSeen t d m vs (set_key k l us) (set_key k x as')
seen_set t d m vs k l x [] [] h y = tt
seen_set t d m vs k l x [] (a ∷ as') h y = absurd h
seen_set t d m vs k l x (u ∷ us) [] h y = absurd h
seen_set t d m vs k l x (u ∷ us) (a ∷ as') h y =
    subst (λ (n : ℕ). AreSeen t d m vs (set_key k l (u ∷ us)) (if n == k then (k, x) ∷ as' else a ∷ set_key k x as')) h.0 (set_here t d m vs k l x u us a as' (u.0 == k) h.0 h.1 h.2 y (seen_set t d m vs k l x us as' h.2 y))

-- ---- a channel less, and a channel more

drop_here : (t : Table) (d : Link → Option View) (m : ℕ) (vs : List ℤ) (k : ℕ) (u : ℕ × Link) (us : List (ℕ × Link)) (a : ℕ × Ty) (as' : List (ℕ × Ty)) (b : Bool) → u.0 ≡ a.0 → SeenAt t d m Client u.1 (closed a.1 vs) → AreSeen t d m vs us as' → AreSeen t d m vs (drop_key k us) (drop_key k as') → AreSeen t d m vs (if b then us else u ∷ drop_key k us) (if b then as' else a ∷ drop_key k as')
drop_here t d m vs k u us a as' true e q r ih = r
drop_here t d m vs k u us a as' false e q r ih = (e, q, ih)

pub seen_drop : (t : Table) (d : Link → Option View) (m : ℕ) (vs : List ℤ) (k : ℕ) (us : List (ℕ × Link)) (as' : List (ℕ × Ty)) → AreSeen t d m vs us as' → AreSeen t d m vs (drop_key k us) (drop_key k as')
seen_drop t d m vs k [] [] h = tt
seen_drop t d m vs k [] (a ∷ as') h = absurd h
seen_drop t d m vs k (u ∷ us) [] h = absurd h
seen_drop t d m vs k (u ∷ us) (a ∷ as') h =
    subst (λ (n : ℕ). AreSeen t d m vs (drop_key k (u ∷ us)) (if n == k then as' else a ∷ drop_key k as')) h.0 (drop_here t d m vs k u us a as' (u.0 == k) h.0 h.1 h.2 (seen_drop t d m vs k us as' h.2))

pub seen_more : (t : Table) (d : Link → Option View) (m : ℕ) (vs : List ℤ) (y : ℕ) (l : Link) (x : Ty) (us : List (ℕ × Link)) (as' : List (ℕ × Ty)) → AreSeen t d m vs us as' → SeenAt t d m Client l (closed x vs) → AreSeen t d m vs (us ++ (y, l) ∷ []) (as' ++ (y, x) ∷ [])
seen_more t d m vs y l x [] [] h e = (refl, e, tt)
seen_more t d m vs y l x [] (a ∷ as') h e = absurd h
seen_more t d m vs y l x (u ∷ us) [] h e = absurd h
seen_more t d m vs y l x (u ∷ us) (a ∷ as') h e = (h.0, h.1, seen_more t d m vs y l x us as' h.2 e)

pub seen_none : (t : Table) (d : Link → Option View) (m : ℕ) (vs : List ℤ) (us : List (ℕ × Link)) (as' : List (ℕ × Ty)) → AreSeen t d m vs us as' → as' ≡ [] → us ≡ []
seen_none t d m vs [] as' h e = refl
seen_none t d m vs (u ∷ us) [] h e = absurd h
seen_none t d m vs (u ∷ us) (a ∷ as') h e = cc

-- ---- all channels at once

-- each type becomes another, at another moment and other values
pub seen_map : (t : Table) (d : Link → Option View) (m n : ℕ) (vs ws : List ℤ) (f : Ty → Ty) (us : List (ℕ × Link)) (as' : List (ℕ × Ty)) → ((l : Link) (a : Ty) → SeenAt t d m Client l (closed a vs) → SeenAt t d n Client l (closed (f a) ws)) → AreSeen t d m vs us as' → AreSeen t d n ws us (map (λ u. (u.0, f u.1)) as')
seen_map t d m n vs ws f [] [] h r = tt
seen_map t d m n vs ws f [] (a ∷ as') h r = absurd r
seen_map t d m n vs ws f (u ∷ us) [] h r = absurd r
seen_map t d m n vs ws f (u ∷ us) (a ∷ as') h r = (r.0, h u.1 a.1 r.1, seen_map t d m n vs ws f us as' h r.2)

-- what is due on the links is the same
pub seen_dues : (t : Table) (d e : Link → Option View) (m : ℕ) (vs : List ℤ) (us : List (ℕ × Link)) (as' : List (ℕ × Ty)) → ((l : Link) → 1 ≤ held_by l us → e l ≡ d l) → AreSeen t d m vs us as' → AreSeen t e m vs us as'
seen_dues t d e m vs [] [] q h = tt
seen_dues t d e m vs [] (a ∷ as') q h = absurd h
seen_dues t d e m vs (u ∷ us) [] q h = absurd h
seen_dues t d e m vs (u ∷ us) (a ∷ as') q h = (h.0, seen_due t d e m Client u.1 (closed a.1 vs) (q u.1 (omega (arith, hit_self u.1))) h.1, seen_dues t d e m vs us as' (λ l o. q l (omega (arith, o))) h.2)
