-- A list of channels in order, without one of them.
use Rattle.std.proofs.Common.{◌≡◌, ℕ, ℤ, ◌+◌, ◌<◌, Bool, true, false, not, ◌||◌, ◌==◌, List, [], ◌∷◌, length, Option, refl, sym, ap, ◌∙◌, subst, arith, cond, if◌then◌else◌, eqb-true, eq-eqb, ne_eqb}
use Rattle.std.specs.Prelude.{filter}
use Rattle.std.specs.List.{list_any}
use Rattle.rast_index.specs.Keys.{set_key, drop_key}
use Rattle.rast_types.specs.declared.ty.Ty.{Ty}
use Rattle.rast_types.specs.Closed.{Table, View}
use Rattle.rast_order.proofs.Words.{Link}
use Rattle.rast_laws.proofs.Channels.{AreSeen, seen_drop}
use Rattle.rast_laws.proofs.Shapes.{Rising}

-- whether a channel is another one
abbrev pub is_other : {A : Type 0} → ℕ → (ℕ × A) → Bool
is_other {A} x u = not (list_any (λ y. y == u.0) (x ∷ []))

turned : (x y : ℕ) (b : Bool) → (y == x) ≡ b → (x == y) ≡ b
turned x y true e = eq-eqb x y (sym (eqb-true y x e))
turned x y false e = ne_eqb x y (λ q. let z : true ≡ false = sym (eq-eqb y x (sym q)) ∙ e in absurd (cc))

other_is : {A : Type 0} (x : ℕ) (u : ℕ × A) (b : Bool) → (u.0 == x) ≡ b → is_other x u ≡ not b
other_is {A} x u b e = ap (λ (c : Bool). not (c || false)) (turned x u.0 b e) ∙ plain b
  where
    plain : (b : Bool) → not (b || false) ≡ not b
    plain true = refl
    plain false = refl

-- nothing is left out where the number is below all of them
all_others : {A : Type 0} (lo hi x : ℕ) (us : List (ℕ × A)) → Rising lo hi us → x < lo → filter (is_other x) us ≡ us
all_others {A} lo hi x [] r h = refl
all_others {A} lo hi x (u ∷ us) r h =
    ap (λ (b : Bool). cond b (u ∷ filter (is_other x) us) (filter (is_other x) us)) (other_is x u false (ne_eqb u.0 x (λ q. absurd (omega (arith, q, h, r.0)))))
    ∙ ap (λ vs. u ∷ vs) (all_others (u.0 + 1) hi x us r.2 (omega (arith, h, r.0)))

drop_first : {A : Type 0} (lo hi x : ℕ) (u : ℕ × A) (us : List (ℕ × A)) (b : Bool) → (u.0 == x) ≡ b → Rising lo hi (u ∷ us) → filter (is_other x) us ≡ drop_key x us → cond (is_other x u) (u ∷ filter (is_other x) us) (filter (is_other x) us) ≡ (if b then us else u ∷ drop_key x us)
drop_first {A} lo hi x u us true e r ih = ap (λ (b : Bool). cond b (u ∷ filter (is_other x) us) (filter (is_other x) us)) (other_is x u true e) ∙ all_others (u.0 + 1) hi x us r.2 (let q : u.0 ≡ x = eqb-true u.0 x e in omega (arith, q))
drop_first {A} lo hi x u us false e r ih = ap (λ (b : Bool). cond b (u ∷ filter (is_other x) us) (filter (is_other x) us)) (other_is x u false e) ∙ ap (λ vs. u ∷ vs) ih

-- leaving out one number is leaving out its first entry
pub others_are : {A : Type 0} (lo hi x : ℕ) (us : List (ℕ × A)) → Rising lo hi us → filter (is_other x) us ≡ drop_key x us
others_are {A} lo hi x [] r = refl
others_are {A} lo hi x (u ∷ us) r = drop_first lo hi x u us (u.0 == x) refl r (others_are (u.0 + 1) hi x us r.2)

pub seen_without : (t : Table) (d : Link → Option View) (m : ℕ) (vs : List ℤ) (lo hi x : ℕ) (us : List (ℕ × Link)) (as' : List (ℕ × Ty)) → Rising lo hi as' → AreSeen t d m vs us as' → AreSeen t d m vs (drop_key x us) (filter (is_other x) as')
seen_without t d m vs lo hi x us as' r h = subst (AreSeen t d m vs (drop_key x us)) (sym (others_are lo hi x as' r)) (seen_drop t d m vs x us as' h)

-- ---- an entry that was changed first

drop_set_first : {A : Type 0} (x : ℕ) (a : A) (u : ℕ × A) (us : List (ℕ × A)) (b : Bool) → (u.0 == x) ≡ b → drop_key x (set_key x a us) ≡ drop_key x us → drop_key x (if b then (x, a) ∷ us else u ∷ set_key x a us) ≡ (if b then us else u ∷ drop_key x us)
drop_set_first {A} x a u us true e ih = ap (λ (b : Bool). if b then us else (x, a) ∷ drop_key x us) (eq-eqb x x refl)
drop_set_first {A} x a u us false e ih = ap (λ (b : Bool). if b then set_key x a us else u ∷ drop_key x (set_key x a us)) e ∙ ap (λ vs. u ∷ vs) ih

pub drop_set : {A : Type 0} (x : ℕ) (a : A) (us : List (ℕ × A)) → drop_key x (set_key x a us) ≡ drop_key x us
drop_set {A} x a [] = refl
drop_set {A} x a (u ∷ us) = drop_set_first x a u us (u.0 == x) refl (drop_set x a us)

-- as many links as types
pub seen_length : (t : Table) (d : Link → Option View) (m : ℕ) (vs : List ℤ) (us : List (ℕ × Link)) (as' : List (ℕ × Ty)) → AreSeen t d m vs us as' → length us ≡ length as'
seen_length t d m vs [] [] h = refl
seen_length t d m vs [] (a ∷ as') h = absurd h
seen_length t d m vs (u ∷ us) [] h = absurd h
seen_length t d m vs (u ∷ us) (a ∷ as') h = omega (arith, seen_length t d m vs us as' h.2)
