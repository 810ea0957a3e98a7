-- Entries of channels: the first of a channel, and lists with one changed or left out.
use Rattle.std.proofs.Common.{◌≡◌, ℕ, zero, suc, Bool, true, false, ◌==◌, ◌+◌, ◌-◌, ◌<◌, ◌≤◌, List, [], ◌∷◌, ◌++◌, Option, Some, None, arith, refl, sym, ap, ◌∙◌, length, take, drop, get_or, set, remove, replicate, if◌then◌else◌, eq-eqb, ne_eqb}
use Rattle.std.proofs.lemmas.List.{at_drop_more, length-append, length-take, length-drop, set_at, take-append-le, drop-append-le, drop-set-lt, drop-drop, drop-replicate}
use Rattle.rast_index.specs.Keys.{find_key, set_key, drop_key, IsPlace}

skip_none : {A : Type 0} (b : Bool) (x : A) (o : Option A) → (if b then Some x else o) ≡ None → (b ≡ false) × (o ≡ None)
skip_none true x o h = cc
skip_none false x o h = (refl, h)

-- past an entry that isn't the channel's
past : {A : Type 0} (k : ℕ) (e : ℕ × A) (es : List (ℕ × A)) → (e.0 == k) ≡ false → find_key k (e ∷ es) ≡ find_key k es
past k e es h = ap (λ b. if b then Some e.1 else find_key k es) h

not_same : (a b : ℕ) → (a ≡ b → ⊥) → (a == b) ≡ false
not_same a b h = ne_eqb a b h

find_suc : {A : Type 0} (k : ℕ) (es : List (ℕ × A)) (i : ℕ) (d : ℕ × A) → i < length es → find_key k (take i es) ≡ None → ((get_or es i d).0 ≡ k → ⊥) → find_key k (take (suc i) es) ≡ None
find_suc k [] i d l h n = refl
find_suc k (e ∷ es) zero d l h n = past k e [] (not_same e.0 k n)
find_suc k (e ∷ es) (suc i) d l h n =
    let r = skip_none (e.0 == k) e.1 (find_key k (take i es)) h in
    past k e (take (suc i) es) r.0 ∙ find_suc k es i d (omega (arith, l)) r.1 n

-- one more entry that isn't the channel's
pub find_more : {A : Type 0} (k : ℕ) (es : List (ℕ × A)) (i : ℕ) (d : ℕ × A) → i < length es → find_key k (take i es) ≡ None → ((get_or es i d).0 ≡ k → ⊥) → find_key k (take (i + 1) es) ≡ None
find_more k es i d l h n = let s : i + 1 ≡ suc i = omega arith in ap (λ (j : ℕ). find_key k (take j es)) s ∙ find_suc k es i d l h n

-- what stands at the place of a channel
found_suc : {A : Type 0} (k : ℕ) (es : List (ℕ × A)) (i : ℕ) (d : ℕ × A) → i < length es → find_key k (take i es) ≡ None → (get_or es i d).0 ≡ k → find_key k es ≡ Some (get_or es i d).1
found_suc k [] i d l f h = absurd (omega (arith, l))
found_suc k (e ∷ es) zero d l f h = ap (λ b. if b then Some e.1 else find_key k es) (eq-eqb e.0 k h)
found_suc k (e ∷ es) (suc i) d l f h =
    let r = skip_none (e.0 == k) e.1 (find_key k (take i es)) f in
    past k e es r.0 ∙ found_suc k es i d (omega (arith, l)) r.1 h

pub place_found : {A : Type 0} (k : ℕ) (es : List (ℕ × A)) (i : ℕ) (d : ℕ × A) → IsPlace k es i → find_key k es ≡ Some (get_or es i d).1
place_found k es i d p = found_suc k es i d p.below p.free (p.here d)

set_past_one : {A : Type 0} (k : ℕ) (a : A) (e : ℕ × A) (es : List (ℕ × A)) → (e.0 == k) ≡ false → set_key k a (e ∷ es) ≡ e ∷ set_key k a es
set_past_one k a e es h = ap (λ b. if b then (k, a) ∷ es else e ∷ set_key k a es) h

set_suc : {A : Type 0} (k : ℕ) (a : A) (es : List (ℕ × A)) (i : ℕ) (d : ℕ × A) → i < length es → find_key k (take i es) ≡ None → (get_or es i d).0 ≡ k → set_key k a es ≡ set es i (k, a)
set_suc k a [] i d l f h = absurd (omega (arith, l))
set_suc k a (e ∷ es) zero d l f h = ap (λ b. if b then (k, a) ∷ es else e ∷ set_key k a es) (eq-eqb e.0 k h)
set_suc {A} k a (e ∷ es) (suc i) d l f h =
    let r = skip_none (e.0 == k) e.1 (find_key k (take i es)) f in
    set_past_one k a e es r.0 ∙ ap (λ (xs : List (ℕ × A)). e ∷ xs) (set_suc k a es i d (omega (arith, l)) r.1 h)

pub place_set : {A : Type 0} (k : ℕ) (a : A) (es : List (ℕ × A)) (i : ℕ) (d : ℕ × A) → IsPlace k es i → set_key k a es ≡ set es i (k, a)
place_set k a es i d p = set_suc k a es i d p.below p.free (p.here d)

drop_past_one : {A : Type 0} (k : ℕ) (e : ℕ × A) (es : List (ℕ × A)) → (e.0 == k) ≡ false → drop_key k (e ∷ es) ≡ e ∷ drop_key k es
drop_past_one k e es h = ap (λ b. if b then es else e ∷ drop_key k es) h

drop_suc : {A : Type 0} (k : ℕ) (es : List (ℕ × A)) (i : ℕ) (d : ℕ × A) → i < length es → find_key k (take i es) ≡ None → (get_or es i d).0 ≡ k → drop_key k es ≡ remove es i
drop_suc k [] i d l f h = absurd (omega (arith, l))
drop_suc k (e ∷ es) zero d l f h = ap (λ b. if b then es else e ∷ drop_key k es) (eq-eqb e.0 k h)
drop_suc {A} k (e ∷ es) (suc i) d l f h =
    let r = skip_none (e.0 == k) e.1 (find_key k (take i es)) f in
    drop_past_one k e es r.0 ∙ ap (λ (xs : List (ℕ × A)). e ∷ xs) (drop_suc k es i d (omega (arith, l)) r.1 h)

pub place_drop : {A : Type 0} (k : ℕ) (es : List (ℕ × A)) (i : ℕ) (d : ℕ × A) → IsPlace k es i → drop_key k es ≡ remove es i
place_drop k es i d p = drop_suc k es i d p.below p.free (p.here d)

-- a channel that isn't there
pub set_missing : {A : Type 0} (k : ℕ) (a : A) (es : List (ℕ × A)) → find_key k es ≡ None → set_key k a es ≡ es
set_missing k a [] h = refl
set_missing {A} k a (e ∷ es) h =
    let r = skip_none (e.0 == k) e.1 (find_key k es) h in
    set_past_one k a e es r.0 ∙ ap (λ (xs : List (ℕ × A)). e ∷ xs) (set_missing k a es r.1)

pub drop_missing : {A : Type 0} (k : ℕ) (es : List (ℕ × A)) → find_key k es ≡ None → drop_key k es ≡ es
drop_missing k [] h = refl
drop_missing {A} k (e ∷ es) h =
    let r = skip_none (e.0 == k) e.1 (find_key k es) h in
    drop_past_one k e es r.0 ∙ ap (λ (xs : List (ℕ × A)). e ∷ xs) (drop_missing k es r.1)

-- an entry taken out, and the last place filled
pub gap_filled : {A : Type 0} (xs ws : List A) (p : ℕ) (x d : A) → p < length xs → ws ≡ remove xs p ++ x ∷ [] → set ws (length xs - 1) d ≡ remove xs p ++ d ∷ []
gap_filled {A} xs ws p x d l e =
    let n : length (remove xs p) ≡ length xs - 1 = omega (arith, length-append (take p xs) (drop (suc p) xs), length-take p xs, length-drop (suc p) xs, l) in
    ap (λ (ys : List A). set ys (length xs - 1) d) e ∙ set_at (remove xs p) x [] d (length xs - 1) n

pub gap_take : {A : Type 0} (ls : List A) (i c : ℕ) (d : A) → i ≤ c → c < length ls → take c (remove ls i ++ d ∷ []) ≡ remove (take (suc c) ls) i
gap_take [] i c d h l = absurd (omega (arith, l))
gap_take (x ∷ ls) zero c d h l = take-append-le c ls (d ∷ []) (omega (arith, l))
gap_take (x ∷ ls) (suc i) zero d h l = absurd (omega (arith, h))
gap_take {A} (x ∷ ls) (suc i) (suc c) d h l = ap (λ (xs : List A). x ∷ xs) (gap_take ls i c d (omega (arith, h)) (omega (arith, l)))

pub gap_drop : {A : Type 0} (ls : List A) (i c : ℕ) (d : A) → i ≤ c → c < length ls → drop c (remove ls i ++ d ∷ []) ≡ drop (suc c) ls ++ d ∷ []
gap_drop [] i c d h l = absurd (omega (arith, l))
gap_drop (x ∷ ls) zero c d h l = drop-append-le c ls (d ∷ []) (omega (arith, l))
gap_drop (x ∷ ls) (suc i) zero d h l = absurd (omega (arith, h))
gap_drop (x ∷ ls) (suc i) (suc c) d h l = gap_drop ls i c d (omega (arith, h)) (omega (arith, l))

-- one place more is used of an array that is filled behind
pub filled_more : {A : Type 0} (a v : A) (n c : ℕ) (xs : List A) → c < n → length xs ≡ n → drop c xs ≡ replicate (n - c) a → drop (c + 1) (set xs c v) ≡ replicate (n - (c + 1)) a
filled_more {A} a v n c xs h l d =
    let k : n - c - 1 ≡ n - (c + 1) = omega arith in
    drop-set-lt (c + 1) xs c v (omega arith) ∙ (sym (drop-drop 1 c xs) ∙ (ap (λ (ys : List A). drop 1 ys) d ∙ (drop-replicate 1 (n - c) a ∙ ap (λ (j : ℕ). replicate j a) k)))

-- the entry at a place has the key, or the rest of the list is left
pub find_here : {A : Type 0} (k : ℕ) (es : List (ℕ × A)) (i : ℕ) (d : ℕ × A) → i < length es → (get_or es i d).0 ≡ k → find_key k (drop i es) ≡ Some (get_or es i d).1
find_here k es i d l h = at_drop_more (find_key k) es i d l ∙ ap (λ b. if b then Some (get_or es i d).1 else find_key k (drop (i + 1) es)) (eq-eqb (get_or es i d).0 k h)

pub find_on : {A : Type 0} (k : ℕ) (es : List (ℕ × A)) (i : ℕ) (d : ℕ × A) → i < length es → ((get_or es i d).0 ≡ k → ⊥) → find_key k (drop i es) ≡ find_key k (drop (i + 1) es)
find_on k es i d l h = at_drop_more (find_key k) es i d l ∙ past k (get_or es i d) (drop (i + 1) es) (not_same (get_or es i d).0 k h)
