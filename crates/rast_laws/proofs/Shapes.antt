-- The shape of judgements: channels in the order of their numbers, and types in scope.
use Rattle.std.proofs.Common.{◌≡◌, ℕ, ◌+◌, ◌≤◌, ◌<◌, Bool, true, false, ◌==◌, List, [], ◌∷◌, ◌++◌, map, length, Option, Some, None, refl, sym, ap, ◌∙◌, subst, arith, if◌then◌else◌, eqb-true, cond}
use Rattle.std.specs.Prelude.{filter}
use Rattle.std.specs.List.{list_all}
use Rattle.rast_index.specs.Keys.{find_key, set_key, numbered}
use Rattle.rast_index.proofs.Scope.{both_true}
use Rattle.rast_types.specs.declared.ty.Ty.{Ty, out-Ty}
use Rattle.rast_types.specs.declared.ty.Ty.TheOpen.{Plus, With, Tensor, Lolli}
use Rattle.rast_types.specs.declared.ty.Ty.TheVariants as ty
use Rattle.rast_types.specs.Closed.{Layer}
use Rattle.rast_types.specs.Symbolic.{is_scoped}
use Rattle.rast_rules.specs.Rules.{or_one, choices_of, choices_layer, pair_layer, first_of_pair, second_of_pair, first_or, second_or}
use Rattle.rast_equal.proofs.Scoped.{scoped_out, scoped_layer}

-- ---- channels in order

-- keys that grow, from lo on and below hi
abbrev pub Rising : {A : Type 0} → ℕ → ℕ → List (ℕ × A) → Type 0
Rising {A} lo hi [] = Unit {0}
Rising {A} lo hi (e ∷ es) = (lo ≤ e.0) × (e.0 < hi) × Rising (e.0 + 1) hi es

pub rising_from : {A : Type 0} (lo mid hi : ℕ) (es : List (ℕ × A)) → lo ≤ mid → Rising mid hi es → Rising lo hi es
rising_from {A} lo mid hi [] h r = tt
rising_from {A} lo mid hi (e ∷ es) h r = (omega (arith, h, r.0), r.1, r.2)

pub rising_numbered : {A : Type 0} (k : ℕ) (xs : List A) → Rising k (k + length xs) (numbered k xs)
rising_numbered {A} k [] = tt
rising_numbered {A} k (x ∷ xs) = (omega arith, omega arith, subst (λ (n : ℕ). Rising (k + 1) n (numbered (k + 1) xs)) (omega arith) (rising_numbered (k + 1) xs))

set_first : {A : Type 0} (lo hi k : ℕ) (a : A) (e : ℕ × A) (es : List (ℕ × A)) (b : Bool) → (e.0 == k) ≡ b → Rising lo hi (e ∷ es) → Rising (e.0 + 1) hi (set_key k a es) → Rising lo hi (if b then (k, a) ∷ es else e ∷ set_key k a es)
set_first {A} lo hi k a e es false q r ih = (r.0, r.1, ih)
set_first {A} lo hi k a e es true q r ih = let s : e.0 ≡ k = eqb-true e.0 k q in (omega (arith, r.0, s), omega (arith, r.1, s), subst (λ (n : ℕ). Rising (n + 1) hi es) s r.2)

pub rising_set : {A : Type 0} (lo hi k : ℕ) (a : A) (es : List (ℕ × A)) → Rising lo hi es → Rising lo hi (set_key k a es)
rising_set {A} lo hi k a [] r = tt
rising_set {A} lo hi k a (e ∷ es) r = set_first lo hi k a e es (e.0 == k) refl r (rising_set (e.0 + 1) hi k a es r.2)

filter_first : {A : Type 0} (lo hi : ℕ) (f : (ℕ × A) → Bool) (e : ℕ × A) (es : List (ℕ × A)) (b : Bool) → Rising lo hi (e ∷ es) → Rising (e.0 + 1) hi (filter f es) → Rising lo hi (cond b (e ∷ filter f es) (filter f es))
filter_first {A} lo hi f e es true r ih = (r.0, r.1, ih)
filter_first {A} lo hi f e es false r ih = rising_from lo (e.0 + 1) hi (filter f es) (omega (arith, r.0)) ih

pub rising_filter : {A : Type 0} (lo hi : ℕ) (f : (ℕ × A) → Bool) (es : List (ℕ × A)) → Rising lo hi es → Rising lo hi (filter f es)
rising_filter {A} lo hi f [] r = tt
rising_filter {A} lo hi f (e ∷ es) r = filter_first lo hi f e es (f e) r (rising_filter (e.0 + 1) hi f es r.2)

pub rising_more : {A : Type 0} (lo hi : ℕ) (a : A) (es : List (ℕ × A)) → lo ≤ hi → Rising lo hi es → Rising lo (hi + 1) (es ++ (hi, a) ∷ [])
rising_more {A} lo hi a [] h r = (h, omega arith, tt)
rising_more {A} lo hi a (e ∷ es) h r = (r.0, omega (arith, r.1), rising_more (e.0 + 1) hi a es (omega (arith, r.1)) r.2)

pub rising_map : {A B : Type 0} (lo hi : ℕ) (f : A → B) (es : List (ℕ × A)) → Rising lo hi es → Rising lo hi (map (λ u. (u.0, f u.1)) es)
rising_map {A} {B} lo hi f [] r = tt
rising_map {A} {B} lo hi f (e ∷ es) r = (r.0, r.1, rising_map (e.0 + 1) hi f es r.2)

-- ---- types in scope

abbrev pub AllScoped : ℕ → List (ℕ × Ty) → Type 0
AllScoped n [] = Unit {0}
AllScoped n (u ∷ us) = (is_scoped n u.1 ≡ true) × AllScoped n us

pub scoped_one : (n : ℕ) → is_scoped n ty.One ≡ true
scoped_one n = scoped_out n ty.One ∙ ap (scoped_layer n) ty.outs-One

find_first : (n k : ℕ) (u : ℕ × Ty) (us : List (ℕ × Ty)) (a : Ty) (b : Bool) → is_scoped n u.1 ≡ true → (find_key k us ≡ Some a → is_scoped n a ≡ true) → (if b then Some u.1 else find_key k us) ≡ Some a → is_scoped n a ≡ true
find_first n k u us a true h ih e = let s : u.1 ≡ a = cc in subst (λ x. is_scoped n x ≡ true) s h
find_first n k u us a false h ih e = ih e

pub scoped_find : (n k : ℕ) (us : List (ℕ × Ty)) (a : Ty) → AllScoped n us → find_key k us ≡ Some a → is_scoped n a ≡ true
scoped_find n k [] a h e = cc
scoped_find n k (u ∷ us) a h e = find_first n k u us a (u.0 == k) h.0 (scoped_find n k us a h.1) e

pub scoped_or : (n : ℕ) (o : Option Ty) → ((a : Ty) → o ≡ Some a → is_scoped n a ≡ true) → is_scoped n (or_one o) ≡ true
scoped_or n None h = scoped_one n
scoped_or n (Some a) h = h a refl

set_scoped : (n k : ℕ) (a : Ty) (u : ℕ × Ty) (us : List (ℕ × Ty)) (b : Bool) → is_scoped n a ≡ true → AllScoped n (u ∷ us) → AllScoped n (set_key k a us) → AllScoped n (if b then (k, a) ∷ us else u ∷ set_key k a us)
set_scoped n k a u us true s h ih = (s, h.1)
set_scoped n k a u us false s h ih = (h.0, ih)

pub scoped_set : (n k : ℕ) (a : Ty) (us : List (ℕ × Ty)) → is_scoped n a ≡ true → AllScoped n us → AllScoped n (set_key k a us)
scoped_set n k a [] s h = tt
scoped_set n k a (u ∷ us) s h = set_scoped n k a u us (u.0 == k) s h (scoped_set n k a us s h.1)

filter_scoped : (n : ℕ) (f : (ℕ × Ty) → Bool) (u : ℕ × Ty) (us : List (ℕ × Ty)) (b : Bool) → is_scoped n u.1 ≡ true → AllScoped n (filter f us) → AllScoped n (cond b (u ∷ filter f us) (filter f us))
filter_scoped n f u us true s h = (s, h)
filter_scoped n f u us false s h = h

pub scoped_filter : (n : ℕ) (f : (ℕ × Ty) → Bool) (us : List (ℕ × Ty)) → AllScoped n us → AllScoped n (filter f us)
scoped_filter n f [] h = tt
scoped_filter n f (u ∷ us) h = filter_scoped n f u us (f u) h.0 (scoped_filter n f us h.1)

pub scoped_more : (n k : ℕ) (a : Ty) (us : List (ℕ × Ty)) → is_scoped n a ≡ true → AllScoped n us → AllScoped n (us ++ (k, a) ∷ [])
scoped_more n k a [] s h = (s, tt)
scoped_more n k a (u ∷ us) s h = (h.0, scoped_more n k a us s h.1)

pub scoped_map : (n m : ℕ) (f : Ty → Ty) (us : List (ℕ × Ty)) → ((a : Ty) → is_scoped n a ≡ true → is_scoped m (f a) ≡ true) → AllScoped n us → AllScoped m (map (λ u. (u.0, f u.1)) us)
scoped_map n m f [] h s = tt
scoped_map n m f (u ∷ us) h s = (h u.1 s.0, scoped_map n m f us h s.1)

pub scoped_numbered : (n k : ℕ) (as' : List Ty) → list_all (is_scoped n) as' ≡ true → AllScoped n (numbered k as')
scoped_numbered n k [] h = tt
scoped_numbered n k (a ∷ as') h = let r = both_true (is_scoped n a) (list_all (is_scoped n) as') h in (r.0, scoped_numbered n (k + 1) as' r.1)

-- ---- parts of a head

entries_scoped : (n : ℕ) (ts : List (ℕ × Ty)) → list_all (λ e. is_scoped n e.1) ts ≡ true → AllScoped n ts
entries_scoped n [] h = tt
entries_scoped n (t ∷ ts) h = let r = both_true (is_scoped n t.1) (list_all (λ e. is_scoped n e.1) ts) h in (r.0, entries_scoped n ts r.1)

choices_scoped_layer : (n : ℕ) (x : Layer) → scoped_layer n x ≡ true → AllScoped n (choices_layer x)
choices_scoped_layer n (Plus ts) h = entries_scoped n ts h
choices_scoped_layer n (With ts) h = entries_scoped n ts h
choices_scoped_layer n x h = tt

pub choices_scoped : (n : ℕ) (a : Ty) → is_scoped n a ≡ true → AllScoped n (choices_of a)
choices_scoped n a s = choices_scoped_layer n (out-Ty a) (sym (scoped_out n a) ∙ s)

pair_scoped_layer : (n : ℕ) (x : Layer) → scoped_layer n x ≡ true → (is_scoped n (first_or (pair_layer x)) ≡ true) × (is_scoped n (second_or (pair_layer x)) ≡ true)
pair_scoped_layer n (Tensor a b) h = both_true (is_scoped n a) (is_scoped n b) h
pair_scoped_layer n (Lolli a b) h = both_true (is_scoped n a) (is_scoped n b) h
pair_scoped_layer n x h = (scoped_one n, scoped_one n)

pub pair_scoped : (n : ℕ) (a : Ty) → is_scoped n a ≡ true → (is_scoped n (first_of_pair a) ≡ true) × (is_scoped n (second_of_pair a) ≡ true)
pair_scoped n a s = pair_scoped_layer n (out-Ty a) (sym (scoped_out n a) ∙ s)
