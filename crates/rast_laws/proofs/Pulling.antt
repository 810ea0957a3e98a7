-- Channels that a spawn or a call hands over, and those that are left.
use Rattle.std.proofs.Common.{◌≡◌, ℕ, suc, ℤ, ◌+◌, ◌<◌, Bool, true, false, not, ◌||◌, ◌==◌, List, [], ◌∷◌, length, Option, Some, None, is_some, refl, sym, ap, ap₂, ◌∙◌, subst, arith, if◌then◌else◌, cond, eqb-true, eq-eqb}
use Rattle.std.specs.Prelude.{filter}
use Rattle.std.specs.List.{list_any}
use Rattle.std.proofs.lemmas.Bool.{ne_eqb}
use Rattle.rast_index.specs.Keys.{find_key, drop_key, put_first, pull}
use Rattle.rast_index.proofs.Scope.{both_true}
use Rattle.rast_types.specs.declared.ty.Ty.{Ty}
use Rattle.rast_types.specs.Closed.{closed, Table, View}
use Rattle.rast_terms.specs.declared.program.Program.{Program}
use Rattle.rast_rules.specs.declared.judgement.Judgement.{Judgement}
use Rattle.rast_rules.specs.Rules.{used_type, is_new, are_used, none_left}
use Rattle.rast_order.proofs.Words.{Link, Client}
use Rattle.rast_equal.proofs.Equals.{some_of}
use Rattle.rast_laws.proofs.Channels.{SeenAt, AreSeen, HasLink, seen_link, seen_drop}
use Rattle.rast_laws.proofs.Judged.{AllAsked}
use Rattle.rast_laws.proofs.Shapes.{Rising, rising_from}

-- ---- what is left

abbrev pub is_left : {A : Type 0} → List ℕ → (ℕ × A) → Bool
is_left {A} ys u = not (list_any (λ y. y == u.0) ys)

flip : (a b : ℕ) (x : Bool) → (a == b) ≡ x → (b == a) ≡ x
flip a b true e = eq-eqb b a (sym (eqb-true a b e))
flip a b false e = ne_eqb b a (λ q. let z : true ≡ false = sym (eq-eqb a b (sym q)) ∙ e in cc)

-- a key below all others is left out of none
above_same : {A : Type 0} (y lo hi : ℕ) (ys : List ℕ) (us : List (ℕ × A)) → y < lo → Rising lo hi us → filter (is_left ys) us ≡ filter (is_left (y ∷ ys)) us
above_same {A} y lo hi ys [] h r = refl
above_same {A} y lo hi ys (u ∷ us) h r =
    let n : (y == u.0) ≡ false = ne_eqb y u.0 (λ e. absurd (omega (arith, h, r.0, e))) in
    let s : is_left ys u ≡ is_left (y ∷ ys) u = ap (λ (b : Bool). not (b || list_any (λ z. z == u.0) ys)) (sym n) in
    ap₂ (λ (b : Bool) (xs : List (ℕ × A)). cond b (u ∷ xs) xs) s (above_same y (u.0 + 1) hi ys us (omega (arith, h, r.0)) r.2)

-- what is left when one is left out first
pub left_drop : {A : Type 0} (y lo hi : ℕ) (ys : List ℕ) (us : List (ℕ × A)) → Rising lo hi us → filter (is_left ys) (drop_key y us) ≡ filter (is_left (y ∷ ys)) us
left_drop {A} y lo hi ys [] r = refl
left_drop {A} y lo hi ys (u ∷ us) r = pick (u.0 == y) refl (left_drop y (u.0 + 1) hi ys us r.2)
  where
    pick : (b : Bool) → (u.0 == y) ≡ b → filter (is_left ys) (drop_key y us) ≡ filter (is_left (y ∷ ys)) us → filter (is_left ys) (if b then us else u ∷ drop_key y us) ≡ cond (is_left (y ∷ ys) u) (u ∷ filter (is_left (y ∷ ys)) us) (filter (is_left (y ∷ ys)) us)
    pick true e ih =
        let k : u.0 ≡ y = eqb-true u.0 y e in
        let s : is_left (y ∷ ys) u ≡ false = ap (λ (b : Bool). not (b || list_any (λ z. z == u.0) ys)) (flip u.0 y true e) in
        above_same y (u.0 + 1) hi ys us (omega (arith, k)) r.2 ∙ sym (ap (λ b. cond b (u ∷ filter (is_left (y ∷ ys)) us) (filter (is_left (y ∷ ys)) us)) s)
    pick false e ih =
        let s : is_left ys u ≡ is_left (y ∷ ys) u = ap (λ (b : Bool). not (b || list_any (λ z. z == u.0) ys)) (sym (flip u.0 y false e)) in
        ap₂ (λ (b : Bool) (xs : List (ℕ × A)). cond b (u ∷ xs) xs) s ih

pub rising_drop : {A : Type 0} (y lo hi : ℕ) (us : List (ℕ × A)) → Rising lo hi us → Rising lo hi (drop_key y us)
rising_drop {A} y lo hi [] r = tt
rising_drop {A} y lo hi (u ∷ us) r = pick (u.0 == y) (rising_drop y (u.0 + 1) hi us r.2)
  where
    pick : (b : Bool) → Rising (u.0 + 1) hi (drop_key y us) → Rising lo hi (if b then us else u ∷ drop_key y us)
    pick true ih = rising_from lo (u.0 + 1) hi us (omega (arith, r.0)) r.2
    pick false ih = (r.0, r.1, ih)

pub all_left : {A : Type 0} (us : List (ℕ × A)) → filter (is_left []) us ≡ us
all_left {A} [] = refl
all_left {A} (u ∷ us) = ap (λ xs. u ∷ xs) (all_left us)

-- another key stays
pub find_drop : {A : Type 0} (k y : ℕ) (us : List (ℕ × A)) → (y == k) ≡ false → find_key k (drop_key y us) ≡ find_key k us
find_drop {A} k y [] h = refl
find_drop {A} k y (u ∷ us) h = pick (u.0 == y) refl (find_drop k y us h)
  where
    pick : (b : Bool) → (u.0 == y) ≡ b → find_key k (drop_key y us) ≡ find_key k us → find_key k (if b then us else u ∷ drop_key y us) ≡ (if u.0 == k then Some u.1 else find_key k us)
    pick true e ih =
        let n : (u.0 == k) ≡ false = ap (λ (i : ℕ). i == k) (eqb-true u.0 y e) ∙ h in
        sym (ap (λ (b : Bool). if b then Some u.1 else find_key k us) n)
    pick false e ih = ap (λ o. if u.0 == k then Some u.1 else o) ih

-- ---- what is used

-- each of the channels is among those that are left when the ones before it are handed over
abbrev pub Uses : Judgement → List (ℕ × Ty) → List ℕ → Type 0
Uses j as' [] = Unit {0}
Uses j as' (y ∷ ys) = ((a : Ty) × (find_key y as' ≡ Some a) × (used_type j y ≡ Some a)) × Uses j (drop_key y as') ys

new_parts : (seen : List ℕ) (y k : ℕ) → is_new (y ∷ seen) k ≡ true → ((y == k) ≡ false) × (is_new seen k ≡ true)
new_parts seen y k h = pick (y == k) (list_any (λ z. z == k) seen) h
  where
    pick : (a b : Bool) → not (a || b) ≡ true → (a ≡ false) × (not b ≡ true)
    pick true b h = cc
    pick false b h = (refl, h)

pub uses_of : (g : Program) (j : Judgement) (k : ℕ) (seen ys : List ℕ) (as' : List (ℕ × Ty)) → ((y : ℕ) → is_new seen y ≡ true → find_key y as' ≡ used_type j y) → AllAsked g j (are_used j k seen ys) → Uses j as' ys
uses_of g j k seen [] as' f h = tt
uses_of g j k seen (y ∷ ys) as' f h =
    let r = both_true (is_some (used_type j y)) (is_new seen y) h.0 in
    let a = some_of (used_type j y) r.0 in
    ((a.0, f y r.1 ∙ a.1, a.1), uses_of g j k (y ∷ seen) ys (drop_key y as') (λ z n. let q = new_parts seen y z n in find_drop z y as' q.0 ∙ f z q.1) h.1)

-- no used channel is left
pub none_are_left : (g : Program) (j : Judgement) (k : ℕ) (us : List (ℕ × Ty)) → AllAsked g j (none_left k us) → us ≡ []
none_are_left g j k [] h = refl
none_are_left g j k (u ∷ us) h = let z : false ≡ true = h.0 in cc

-- ---- what is handed over

-- links at the types of these channels
abbrev pub Handed : Judgement → Table → (Link → Option View) → ℕ → List ℤ → List Link → List ℕ → Type 0
Handed j t d m vs [] [] = Unit {0}
Handed j t d m vs [] (y ∷ ys) = ⊥
Handed j t d m vs (l ∷ ls) [] = ⊥
Handed j t d m vs (l ∷ ls) (y ∷ ys) = ((a : Ty) × (used_type j y ≡ Some a) × SeenAt t d m Client l (closed a vs)) × Handed j t d m vs ls ys

pub record Pulled (j : Judgement) (t : Table) (d : Link → Option View) (m : ℕ) (vs : List ℤ) (us : List (ℕ × Link)) (as' : List (ℕ × Ty)) (ys : List ℕ) : Type 0 where
  pub links : List Link
  pub rest : List (ℕ × Link)
  pub is : pull ys us ≡ Some (links, rest)
  pub left : AreSeen t d m vs rest (filter (is_left ys) as')
  pub handed : Handed j t d m vs links ys

pub pulled : (j : Judgement) (t : Table) (d : Link → Option View) (m : ℕ) (vs : List ℤ) (lo hi : ℕ) (us : List (ℕ × Link)) (as' : List (ℕ × Ty)) (ys : List ℕ) → Rising lo hi as' → AreSeen t d m vs us as' → Uses j as' ys → Pulled j t d m vs us as' ys
pulled j t d m vs lo hi us as' [] r s u = record { links = []; rest = us; is = refl; left = subst (AreSeen t d m vs us) (sym (all_left as')) s; handed = tt }
pulled j t d m vs lo hi us as' (y ∷ ys) r s u =
    let k : HasLink t d m vs us y u.0.0 = seen_link t d m vs y us as' u.0.0 s u.0.1 in
    let p : Pulled j t d m vs (drop_key y us) (drop_key y as') ys = pulled j t d m vs lo hi (drop_key y us) (drop_key y as') ys (rising_drop y lo hi as' r) (seen_drop t d m vs y us as' s) u.1 in
    record {
      links = k.link ∷ p.links;
      rest = p.rest;
      is = ap (λ o. elim o [ None ↦ None | Some l ↦ put_first l (pull ys (drop_key y us)) ]) k.found ∙ ap (put_first k.link) p.is;
      left = subst (AreSeen t d m vs p.rest) (left_drop y lo hi ys as' r) p.left;
      handed = ((u.0.0, u.0.2, k.seen), p.handed);
    }

pub handed_length : (j : Judgement) (t : Table) (d : Link → Option View) (m : ℕ) (vs : List ℤ) (ls : List Link) (ys : List ℕ) → Handed j t d m vs ls ys → length ls ≡ length ys
handed_length j t d m vs [] [] h = refl
handed_length j t d m vs [] (y ∷ ys) h = absurd h
handed_length j t d m vs (l ∷ ls) [] h = absurd h
handed_length j t d m vs (l ∷ ls) (y ∷ ys) h = ap suc (handed_length j t d m vs ls ys h.1)
