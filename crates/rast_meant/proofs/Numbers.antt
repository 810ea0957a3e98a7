-- Numbers of names that are among others.
use Rattle.std.proofs.Common.{◌≡◌, ℕ, suc, ◌+◌, ◌<◌, ◌≤◌, Bool, true, false, [], ◌∷◌, ◌++◌, length, refl, sym, ap, ◌∙◌, subst, arith, Option, Some, None, IfSome, is_some, ◌||◌, if◌then◌else◌}
use Rattle.std.specs.List.{AllByRecursion}
use Rattle.std.specs.Str.{bytes_eq}
use Rattle.std.proofs.lemmas.Slice.Eq.{bytes_eq-Decides}
use Rattle.rast_resolve.specs.Scopes.{Text, Texts, is_among, place_of, place_from, newest_of, newest_from, once_from, number_in, or_else}
use Rattle.rast_resolve.proofs.Places.{place_within, place_there}

-- each of these names is among those
abbrev pub AreAmong : Texts → Texts → Type 0
AreAmong names ns = AllByRecursion (λ n. is_among n names ≡ true) ns

pub left_among : (names ns ms : Texts) → AreAmong names (ns ++ ms) → AreAmong names ns
left_among names [] ms h = tt
left_among names (n ∷ ns) ms h = (h.0, left_among names ns ms h.1)

pub right_among : (names ns ms : Texts) → AreAmong names (ns ++ ms) → AreAmong names ms
right_among names [] ms h = h
right_among names (n ∷ ns) ms h = right_among names ns ms h.1

pub both_among : (names ns ms : Texts) → AreAmong names ns → AreAmong names ms → AreAmong names (ns ++ ms)
both_among names [] ms h k = k
both_among names (n ∷ ns) ms h k = (h.0, both_among names ns ms h.1 k)

-- ---- equal names

pub same_name : (a b : Text) → bytes_eq a b ≡ true → a ≡ b
same_name a b h = (bytes_eq-Decides a b).0 h

pub itself : (a : Text) → bytes_eq a a ≡ true
itself a = (bytes_eq-Decides a a).1 refl

or_true : (b : Bool) → (b || true) ≡ true
or_true true = refl
or_true false = refl

pub among_left : (n : Text) (ns ms : Texts) → is_among n ns ≡ true → is_among n (ns ++ ms) ≡ true
among_left n [] ms h = absurd (cc h)
among_left n (m ∷ ns) ms h = by (bytes_eq n m) h (among_left n ns ms)
  where
    by : (b : Bool) → (b || is_among n ns) ≡ true → (is_among n ns ≡ true → is_among n (ns ++ ms) ≡ true) → (b || is_among n (ns ++ ms)) ≡ true
    by true h f = refl
    by false h f = f h

pub among_right : (n : Text) (ns ms : Texts) → is_among n ms ≡ true → is_among n (ns ++ ms) ≡ true
among_right n [] ms h = h
among_right n (m ∷ ns) ms h = ap (λ b. bytes_eq n m || b) (among_right n ns ms h) ∙ or_true (bytes_eq n m)

pub among_last : (n : Text) (ns : Texts) → is_among n (ns ++ n ∷ []) ≡ true
among_last n ns = among_right n ns (n ∷ []) (ap (λ b. b || false) (itself n))

-- a name that is among these and isn't the last
pub among_before : (n m : Text) (ns : Texts) → is_among n (ns ++ m ∷ []) ≡ true → bytes_eq n m ≡ false → is_among n ns ≡ true
among_before n m [] h e = absurd (cc (sym (ap (λ b. b || false) e) ∙ h))
among_before n m (x ∷ ns) h e = by (bytes_eq n x) h (λ g. among_before n m ns g e)
  where
    by : (b : Bool) → (b || is_among n (ns ++ m ∷ [])) ≡ true → (is_among n (ns ++ m ∷ []) ≡ true → is_among n ns ≡ true) → (b || is_among n ns) ≡ true
    by true h f = refl
    by false h f = f h

-- ---- each name once

kept : (n : Text) (seen ns : Texts) → is_among n seen ≡ true → is_among n (once_from seen ns) ≡ true
kept n seen [] h = h
kept n seen (m ∷ ns) h = kept n (if is_among m seen then seen else seen ++ m ∷ []) ns (by (is_among m seen))
  where
    by : (b : Bool) → is_among n (if b then seen else seen ++ m ∷ []) ≡ true
    by true = h
    by false = among_left n seen (m ∷ []) h

pub once_among : (seen ns : Texts) → AreAmong (once_from seen ns) ns
once_among seen [] = tt
once_among seen (m ∷ ns) = (kept m (if is_among m seen then seen else seen ++ m ∷ []) ns (by (is_among m seen) refl), once_among (if is_among m seen then seen else seen ++ m ∷ []) ns)
  where
    by : (b : Bool) → is_among m seen ≡ b → is_among m (if b then seen else seen ++ m ∷ []) ≡ true
    by true h = h
    by false h = among_last m seen

-- ---- places

-- the place of a name that is there
pub place_among : (n : Text) (ns : Texts) → is_among n ns ≡ true → (k : ℕ) × (place_of n ns ≡ Some k) × (k < length ns)
place_among n ns h = by (place_of n ns) refl (place_there n ns ∙ h)
  where
    by : (o : Option ℕ) → place_of n ns ≡ o → is_some (place_of n ns) ≡ true → (k : ℕ) × (place_of n ns ≡ Some k) × (k < length ns)
    by None e f = absurd (cc (sym f ∙ ap is_some e))
    by (Some k) e f = (k, e, place_within n ns ns (Some k) (sym e) refl)

pub place_below : (n : Text) (ns : Texts) (k : ℕ) → place_of n ns ≡ Some k → k < length ns
place_below n ns k e = place_within n ns ns (Some k) (sym e) refl

-- a number is one of the list, also of a name that isn't there
pub number_within : (n : Text) (ns : Texts) → 0 < length ns → number_in ns n < length ns
number_within n ns h = by (place_of n ns) (place_within n ns ns (place_of n ns) refl refl)
  where
    by : (o : Option ℕ) → IfSome o (λ k. k < length ns) → or_else 0 o < length ns
    by None k = h
    by (Some j) k = k

pub some_among : (n : Text) (ns : Texts) → is_among n ns ≡ true → 0 < length ns
some_among n [] h = absurd (cc h)
some_among n (m ∷ ns) h = omega arith

place_above : (k : ℕ) (n : Text) (ns : Texts) (j : ℕ) → place_from k n ns ≡ Some j → k ≤ j
place_above k n [] j h = absurd (cc h)
place_above k n (m ∷ ns) j h = by (bytes_eq n m) h (place_above (suc k) n ns j)
  where
    by : (b : Bool) → (if b then Some k else place_from (suc k) n ns) ≡ Some j → (place_from (suc k) n ns ≡ Some j → suc k ≤ j) → k ≤ j
    by true h f = let e : k ≡ j = cc h in omega (arith, e)
    by false h f = let e = f h in omega (arith, e)

place_apart : (k : ℕ) (a b : Text) (ns : Texts) (j : ℕ) → place_from k a ns ≡ Some j → place_from k b ns ≡ Some j → a ≡ b
place_apart k a b [] j h g = absurd (cc h)
place_apart k a b (m ∷ ns) j h g = by (bytes_eq a m) (bytes_eq b m) refl refl h g (place_apart (suc k) a b ns j)
  where
    by : (p q : Bool) → bytes_eq a m ≡ p → bytes_eq b m ≡ q → (if p then Some k else place_from (suc k) a ns) ≡ Some j → (if q then Some k else place_from (suc k) b ns) ≡ Some j → (place_from (suc k) a ns ≡ Some j → place_from (suc k) b ns ≡ Some j → a ≡ b) → a ≡ b
    by true true e f h g i = same_name a m e ∙ sym (same_name b m f)
    by true false e f h g i = let s : k ≡ j = cc h in let le = place_above (suc k) b ns j g in absurd (omega (arith, s, le))
    by false true e f h g i = let s : k ≡ j = cc g in let le = place_above (suc k) a ns j h in absurd (omega (arith, s, le))
    by false false e f h g i = i h g

pub same_place : (a b : Text) (ns : Texts) (j : ℕ) → place_of a ns ≡ Some j → place_of b ns ≡ Some j → a ≡ b
same_place a b ns j h g = place_apart 0 a b ns j h g

-- names that are there have different numbers
pub number_apart : (a b : Text) (ns : Texts) → is_among a ns ≡ true → is_among b ns ≡ true → number_in ns a ≡ number_in ns b → a ≡ b
number_apart a b ns h g e =
    let p = place_among a ns h in
    let q = place_among b ns g in
    let s : p.0 ≡ q.0 = sym (ap (or_else 0) p.1) ∙ e ∙ ap (or_else 0) q.1 in
    place_apart 0 a b ns p.0 p.1 (q.1 ∙ ap Some (sym s))

-- ---- the newest of a name

newest_below : (found : Option ℕ) (k : ℕ) (n : Text) (ns : Texts) → IfSome found (λ j. j < k) → IfSome (newest_from found k n ns) (λ j. j < k + length ns)
newest_below found k n [] h = by found h
  where
    by : (o : Option ℕ) → IfSome o (λ j. j < k) → IfSome o (λ j. j < k + 0)
    by None h = tt
    by (Some j) h = omega (arith, h)
newest_below found k n (m ∷ ns) h = later (newest_from (if bytes_eq n m then Some k else found) (suc k) n ns) (newest_below (if bytes_eq n m then Some k else found) (suc k) n ns (by (bytes_eq n m) found h))
  where
    by : (b : Bool) (o : Option ℕ) → IfSome o (λ j. j < k) → IfSome (if b then Some k else o) (λ j. j < suc k)
    by true o h = omega arith
    by false None h = tt
    by false (Some j) h = omega (arith, h)

    later : (o : Option ℕ) → IfSome o (λ j. j < suc k + length ns) → IfSome o (λ j. j < k + length (m ∷ ns))
    later None h = tt
    later (Some j) h = omega (arith, h)

pub newest_within : (n : Text) (ns : Texts) (k : ℕ) → newest_of n ns ≡ Some k → k < length ns
newest_within n ns k e = let h : k < 0 + length ns = subst (λ o. IfSome o (λ j. j < 0 + length ns)) e (newest_below None 0 n ns tt) in omega (arith, h)
