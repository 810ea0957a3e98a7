-- One place more, and places of a list.
use Rattle.std.proofs.Common.{arith, ◌≡◌, ◌∙◌, ℕ, zero, suc, ◌+◌, ◌<◌, ◌≤◌, Bool, true, false, cond, if◌then◌else◌, List, [], ◌∷◌, length, Option, Some, None, refl, sym, ap, subst, ⊎_elim}
use Rattle.std.specs.Prelude.{◌==◌, slice_get, slice_set, sum_by}
use Rattle.std.specs.List.{AllByRecursion}
use Rattle.std.proofs.lemmas.Bool.{cases_lt}
use Rattle.std.proofs.lemmas.Bool.Decides.{nat_tests}
use Rattle.std.proofs.lemmas.List.Sums.{sum_by-cons}
use Rattle.rast_made.specs.Made.{Places, found, is_open, after, placed, all_placed}
use Rattle.rast_made.specs.declared.scope.Scope.{Scope}

pub some_same : {X : Type 0} (x y : X) → Some x ≡ Some y → x ≡ y
some_same {X} x y e = cc

pub guarded : {X : Type 0} (b : Bool) (x y : X) → (if b then Some x else None) ≡ Some y → (b ≡ true) × (x ≡ y)
guarded {X} true x y e = (refl, some_same x y e)
guarded {X} false x y e = absurd (cc)

pub after_is : {X Y : Type 0} (p : Option X) (f : X → Option Y) (y : Y) → after p f ≡ Some y → (x : X) × (p ≡ Some x) × (f x ≡ Some y)
after_is {X} {Y} (Some x) f y e = (x, refl, e)
after_is {X} {Y} None f y e = absurd (cc)

-- the scope of a node's place
abbrev pub at : Places → ℕ → Option Scope
at s m = found (slice_get s m)

-- how many places
abbrev pub full : Option Scope → ℕ
full None = 0
full (Some c) = 1

abbrev pub one_at : ℕ → ℕ → ℕ
one_at k m = cond (m == k) 1 0

open_found : (o : Option (Option Scope)) → is_open o ≡ true → found o ≡ None
open_found None h = refl
open_found (Some None) h = refl
open_found (Some (Some c)) h = absurd (let e : false ≡ true = h in cc)

open_within : (s : Places) (m : ℕ) → is_open (slice_get s m) ≡ true → m < length s
open_within [] m h = absurd (let e : false ≡ true = h in cc)
open_within (x ∷ s) zero h = omega arith
open_within (x ∷ s) (suc m) h = let l = open_within s m h in omega arith

zero_first : (k : ℕ) → (zero == suc k) ≡ false
zero_first k = grind (arith, nat_tests)

zero_last : (k : ℕ) → (suc k == zero) ≡ false
zero_last k = grind (arith, nat_tests)

both_more : (m k : ℕ) → (suc m == suc k) ≡ (m == k)
both_more m k = grind (arith, nat_tests)

at_put : (s : Places) (m k : ℕ) (c : Scope) → is_open (slice_get s m) ≡ true → at (slice_set s m (Some c)) k ≡ cond (m == k) (Some c) (at s k)
at_put [] m k c h = absurd (let e : false ≡ true = h in cc)
at_put (x ∷ s) zero zero c h = refl
at_put (x ∷ s) zero (suc k) c h = sym (ap (λ b. cond b (Some c) (at s k)) (zero_first k))
at_put (x ∷ s) (suc m) zero c h = sym (ap (λ b. cond b (Some c) (found (Some x))) (zero_last m))
at_put (x ∷ s) (suc m) (suc k) c h = at_put s m k c h ∙ sym (ap (λ b. cond b (Some c) (at s k)) (both_more m k))

same_number : (m k : ℕ) → (m == k) ≡ true → m ≡ k
same_number m k e = grind (arith, nat_tests)

pub number_itself : (m : ℕ) → (m == m) ≡ true
number_itself m = grind (arith, nat_tests)

long_put : (s : Places) (m : ℕ) (o : Option Scope) → length (slice_set s m o) ≡ length s
long_put [] m o = refl
long_put (x ∷ s) zero o = refl
long_put (x ∷ s) (suc m) o = ap suc (long_put s m o)

-- ---- one place

-- what is known of the places after one more
pub record Put (s : Places) (c : Scope) (m : ℕ) (t : Places) : Type 0 where
  pub free : at s m ≡ None
  pub within : m < length s
  pub each : (k : ℕ) → at t k ≡ cond (m == k) (Some c) (at s k)
  pub long : length t ≡ length s

pub put : (s : Places) (c : Scope) (m : ℕ) (t : Places) → placed s c m ≡ Some t → Put s c m t
put s c m t e =
    let h = guarded (is_open (slice_get s m)) (slice_set s m (Some c)) t e in
    record {
      free = open_found (slice_get s m) h.0;
      within = open_within s m h.0;
      each = λ k. ap (λ (u : Places). at u k) (sym h.1) ∙ at_put s m k c h.0;
      long = ap (λ (u : Places). length u) (sym h.1) ∙ long_put s m (Some c);
    }

pub put_here : (s : Places) (c : Scope) (m : ℕ) (t : Places) → Put s c m t → at t m ≡ Some c
put_here s c m t p = p.each m ∙ ap (λ b. cond b (Some c) (at s m)) (number_itself m)

either : (b : Bool) (c : Scope) (o : Option Scope) (d : Scope) → (b ≡ true → o ≡ None) → o ≡ Some d → cond b (Some c) o ≡ Some d
either true c o d f h = absurd (let e : None ≡ Some d = sym (f refl) ∙ h in cc)
either false c o d f h = h

pub put_kept : (s : Places) (c : Scope) (m : ℕ) (t : Places) → Put s c m t → (k : ℕ) (d : Scope) → at s k ≡ Some d → at t k ≡ Some d
put_kept s c m t p k d h = p.each k ∙ either (m == k) c (at s k) d (λ e. subst (λ n. at s n ≡ None) (same_number m k e) p.free) h

full_either : (b : Bool) (c : Scope) (o : Option Scope) → (b ≡ true → o ≡ None) → full (cond b (Some c) o) ≡ full o + cond b 1 0
full_either true c o f = let e = ap full (f refl) in omega arith
full_either false c o f = omega arith

pub put_full : (s : Places) (c : Scope) (m : ℕ) (t : Places) → Put s c m t → (k : ℕ) → full (at t k) ≡ full (at s k) + one_at k m
put_full s c m t p k = ap full (p.each k) ∙ full_either (m == k) c (at s k) (λ e. subst (λ n. at s n ≡ None) (same_number m k e) p.free)

-- each place of t is one of s or the new one
pub put_from : (s : Places) (c : Scope) (m : ℕ) (t : Places) → Put s c m t → (P : ℕ → Scope → Type 0) → ((k : ℕ) (d : Scope) → at s k ≡ Some d → P k d) → P m c → (k : ℕ) (d : Scope) → at t k ≡ Some d → P k d
put_from s c m t p P f x k d h = by (m == k) refl (sym (p.each k) ∙ h)
  where
    by : (b : Bool) → (m == k) ≡ b → cond b (Some c) (at s k) ≡ Some d → P k d
    by true e h = subst (λ n. P n d) (same_number m k e) (subst (P m) (some_same c d h) x)
    by false e h = f k d h

-- ---- places of a list

module _ {X : Type 0} (node : X → ℕ) (scope : X → Scope) where
  pub all_long : (s : Places) (xs : List X) (t : Places) → all_placed node scope s xs ≡ Some t → length t ≡ length s
  all_long s [] t e = ap (λ (u : Places). length u) (sym (some_same s t e))
  all_long s (x ∷ xs) t e =
      let a = after_is (placed s (scope x) (node x)) (λ u. all_placed node scope u xs) t e in
      all_long a.0 xs t a.2 ∙ (put s (scope x) (node x) a.0 a.1).long

  pub all_kept : (s : Places) (xs : List X) (t : Places) → all_placed node scope s xs ≡ Some t → (k : ℕ) (d : Scope) → at s k ≡ Some d → at t k ≡ Some d
  all_kept s [] t e k d h = subst (λ (u : Places). at u k ≡ Some d) (some_same s t e) h
  all_kept s (x ∷ xs) t e k d h =
      let a = after_is (placed s (scope x) (node x)) (λ u. all_placed node scope u xs) t e in
      all_kept a.0 xs t a.2 k d (put_kept s (scope x) (node x) a.0 (put s (scope x) (node x) a.0 a.1) k d h)

  pub all_there : (s : Places) (xs : List X) (t : Places) → all_placed node scope s xs ≡ Some t → (i : ℕ) (x : X) → slice_get xs i ≡ Some x → at t (node x) ≡ Some (scope x)
  all_there s [] t e i x h = absurd (cc)
  all_there s (y ∷ xs) t e zero x h =
      let a = after_is (placed s (scope y) (node y)) (λ u. all_placed node scope u xs) t e in
      subst (λ (z : X). at t (node z) ≡ Some (scope z)) (some_same y x h)
      (all_kept a.0 xs t a.2 (node y) (scope y) (put_here s (scope y) (node y) a.0 (put s (scope y) (node y) a.0 a.1)))
  all_there s (y ∷ xs) t e (suc i) x h = let a = after_is (placed s (scope y) (node y)) (λ u. all_placed node scope u xs) t e in all_there a.0 xs t a.2 i x h

  pub all_full : (s : Places) (xs : List X) (t : Places) → all_placed node scope s xs ≡ Some t → (k : ℕ) → full (at t k) ≡ full (at s k) + sum_by (λ x. one_at k (node x)) xs
  all_full s [] t e k = let h = ap (λ (u : Places). full (at u k)) (some_same s t e) in omega arith
  all_full s (x ∷ xs) t e k =
      let a = after_is (placed s (scope x) (node x)) (λ u. all_placed node scope u xs) t e in
      let h = all_full a.0 xs t a.2 k in
      let f = put_full s (scope x) (node x) a.0 (put s (scope x) (node x) a.0 a.1) k in
      let more = sum_by-cons (λ x. one_at k (node x)) x xs in
      omega arith

  pub all_from : (P : ℕ → Scope → Type 0) → (s : Places) (xs : List X) (t : Places) → all_placed node scope s xs ≡ Some t → ((k : ℕ) (d : Scope) → at s k ≡ Some d → P k d) → AllByRecursion (λ x. P (node x) (scope x)) xs → (k : ℕ) (d : Scope) → at t k ≡ Some d → P k d
  all_from P s [] t e f a k d h = f k d (subst (λ (u : Places). at u k ≡ Some d) (sym (some_same s t e)) h)
  all_from P s (x ∷ xs) t e f p k d h =
      let a = after_is (placed s (scope x) (node x)) (λ u. all_placed node scope u xs) t e in
      all_from P a.0 xs t a.2 (put_from s (scope x) (node x) a.0 (put s (scope x) (node x) a.0 a.1) P f p.0) p.1 k d h

  pub all_within : (s : Places) (xs : List X) (t : Places) → all_placed node scope s xs ≡ Some t → AllByRecursion (λ x. node x < length s) xs
  all_within s [] t e = tt
  all_within s (x ∷ xs) t e =
      let a = after_is (placed s (scope x) (node x)) (λ u. all_placed node scope u xs) t e in
      let p = put s (scope x) (node x) a.0 a.1 in
      (p.within, subst (λ l. AllByRecursion (λ x. node x < l) xs) p.long (all_within a.0 xs t a.2))

  -- a node that has a place comes before those that get one
  pub all_after : (s : Places) (xs : List X) (t : Places) (n : ℕ) → ((k : ℕ) → k ≤ n → full (at s k) ≡ 1) → all_placed node scope s xs ≡ Some t → AllByRecursion (λ x. (n < node x) × (node x < length s)) xs
  all_after s [] t n f e = tt
  all_after s (x ∷ xs) t n f e =
      let a = after_is (placed s (scope x) (node x)) (λ u. all_placed node scope u xs) t e in
      let p = put s (scope x) (node x) a.0 a.1 in
      let rest = all_after a.0 xs t n (λ k le. let h = put_full s (scope x) (node x) a.0 p k in let g = f k le in full_one (at a.0 k) (omega arith)) a.2 in
      ((past (node x) p.free, p.within), subst (λ l. AllByRecursion (λ x. (n < node x) × (node x < l)) xs) p.long rest)
    where
      full_one : (o : Option Scope) → 1 ≤ full o → full o ≡ 1
      full_one None le = absurd (let c : 1 ≤ 0 = le in omega arith)
      full_one (Some c) le = refl

      past : (m : ℕ) → at s m ≡ None → n < m
      past m h = ⊎_elim (λ (lt : n < m). lt) (λ (le : m ≤ n). absurd (let c = f m le in let d = ap full h in omega arith)) (cases_lt n m)
