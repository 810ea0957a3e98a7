-- So many names can't take one more numbered name than there are of them, so a new name is free.
use Rattle.std.proofs.Common.{arith, ◌≡◌, ◌∙◌, ℕ, zero, suc, ◌+◌, ◌^◌, ◌<◌, ◌≤◌, Bool, true, false, ◌||◌, if◌then◌else◌, List, [], ◌∷◌, ◌++◌, length, drop, Result, Ok, Err, refl, sym, ap, ap₂, subst}
use Rattle.std.specs.Prelude.{OnOk}
use Rattle.std.specs.List.{AllByRecursion, IsDistinct}
use Rattle.std.specs.Set.{is_member}
use Rattle.std.specs.Str.{bytes_eq}
use Rattle.std.proofs.lemmas.Cmp.{nat_list_eq_equiv}
use Rattle.std.proofs.lemmas.Fmt.{decimal_injective}
use Rattle.std.proofs.lemmas.List.{append_cancel_left}
use Rattle.std.proofs.lemmas.Map.Keys.{IsDistinct-push}
use Rattle.std.proofs.lemmas.Map.Made.{length-le_from_is_member}
use Rattle.std.proofs.lemmas.Slice.Eq.{bytes_eq-Decides}
use Rattle.rast_terms.specs.Texts.{Text}
use Rattle.rast_lines.specs.Naming.{numbered_name, is_taken, free_from, new_name}

taken_is : (taken : List Text) (q : Text) → is_taken taken q ≡ is_member bytes_eq taken q
taken_is [] q = refl
taken_is (t ∷ ts) q = ap₂ (λ a b. a || b) (nat_list_eq_equiv.symm t q) (taken_is ts q)

-- ---- numbered names

numbered_apart : (name : Text) (i j : ℕ) → i < j → j < 2 ^ 64 → bytes_eq (numbered_name name i) (numbered_name name j) ≡ false
numbered_apart name i j less within = by (bytes_eq (numbered_name name i) (numbered_name name j)) refl
  where
    by : (b : Bool) → bytes_eq (numbered_name name i) (numbered_name name j) ≡ b → b ≡ false
    by true e =
        let texts = append_cancel_left name _ _ ((bytes_eq-Decides (numbered_name name i) (numbered_name name j)).0 e) in
        let same = decimal_injective i j (omega arith) within (ap (drop 1) texts) in
        absurd (omega arith)
    by false e = refl

-- so many numbered names, from number k on
numbered : Text → ℕ → ℕ → List Text
numbered name k zero = []
numbered name k (suc n) = numbered_name name k ∷ numbered name (k + 1) n

as_many : (name : Text) (k n : ℕ) → length (numbered name k n) ≡ n
unfolding numbered
as_many name k zero = refl
as_many name k (suc n) = ap suc (as_many name (k + 1) n)

apart_from : (name : Text) (i k n : ℕ) → i < k → k + n ≤ 2 ^ 64 → AllByRecursion (λ y. bytes_eq (numbered_name name i) y ≡ false) (numbered name k n)
unfolding numbered
apart_from name i k zero less within = tt
apart_from name i k (suc n) less within = (numbered_apart name i k less (omega arith), apart_from name i (k + 1) n (omega arith) (omega arith))

all_apart : (name : Text) (k n : ℕ) → k + n ≤ 2 ^ 64 → IsDistinct bytes_eq (numbered name k n)
unfolding numbered IsDistinct
all_apart name k zero within = tt
all_apart name k (suc n) within = (apart_from name k (k + 1) n (omega arith) (omega arith), all_apart name (k + 1) n (omega arith))

-- ---- a new name

-- where even the last name that is tried is taken, so are all
all_taken : (ts : List Text) (k : ℕ) (taken : List Text) (name : Text) → is_taken taken (free_from ts k taken name) ≡ true → (q : Text) → is_member bytes_eq (numbered name k (suc (length ts))) q ≡ true → is_taken taken q ≡ true
unfolding numbered
all_taken [] k taken name e q h = one (bytes_eq q (numbered_name name k)) refl h
  where
    one : (b : Bool) → bytes_eq q (numbered_name name k) ≡ b → (b || false) ≡ true → is_taken taken q ≡ true
    one true s g = ap (is_taken taken) ((bytes_eq-Decides q (numbered_name name k)).0 s) ∙ e
    one false s g = cc
all_taken (t ∷ ts) k taken name e q h = by (is_taken taken (numbered_name name k)) (bytes_eq q (numbered_name name k)) refl refl e h (λ g m. all_taken ts (k + 1) taken name g q m)
  where
    by : (b d : Bool) → is_taken taken (numbered_name name k) ≡ b → bytes_eq q (numbered_name name k) ≡ d → is_taken taken (if b then free_from ts (k + 1) taken name else numbered_name name k) ≡ true →
        (d || is_member bytes_eq (numbered name (k + 1) (suc (length ts))) q) ≡ true →
        (is_taken taken (free_from ts (k + 1) taken name) ≡ true → is_member bytes_eq (numbered name (k + 1) (suc (length ts))) q ≡ true → is_taken taken q ≡ true) → is_taken taken q ≡ true
    by false d s r g m rest = cc
    by true true s r g m rest = ap (is_taken taken) ((bytes_eq-Decides q (numbered_name name k)).0 r) ∙ s
    by true false s r g m rest = rest g m

pub free_is_free : (taken : List Text) (name : Text) → length taken + 1 < 2 ^ 64 → is_taken taken (free_from taken 1 taken name) ≡ false
free_is_free taken name within = by (is_taken taken (free_from taken 1 taken name)) refl
  where
    by : (b : Bool) → is_taken taken (free_from taken 1 taken name) ≡ b → b ≡ false
    by false e = refl
    by true e =
        let many = length-le_from_is_member nat_list_eq_equiv (numbered name 1 (suc (length taken))) taken (all_apart name 1 (suc (length taken)) (omega arith))
        (λ q m. sym (taken_is taken q) ∙ all_taken taken 1 taken name e q m) in
        let size = as_many name 1 (suc (length taken)) in
        absurd (omega arith)

pub new_is_free : (taken : List Text) (name : Text) → length taken + 1 < 2 ^ 64 → is_taken taken (new_name taken name) ≡ false
new_is_free taken name within = by (is_taken taken name) refl
  where
    by : (b : Bool) → is_taken taken name ≡ b → is_taken taken (if b then free_from taken 1 taken name else name) ≡ false
    by true e = free_is_free taken name within
    by false e = e

-- names that are apart stay so with one more that is free
pub push_apart : (taken : List Text) (p : Text) → is_taken taken p ≡ false → IsDistinct bytes_eq taken → IsDistinct bytes_eq (taken ++ p ∷ [])
push_apart taken p free apart = IsDistinct-push nat_list_eq_equiv taken p apart (sym (taken_is taken p) ∙ free)

-- ---- answers that may be want of memory

pub apart_answer : {U E : Type 0} (r : Result U E) (old new : List Text) (p : Text) → is_taken old p ≡ false → OnOk r (new ≡ old ++ p ∷ []) → OnOk r (IsDistinct bytes_eq old → IsDistinct bytes_eq new)
apart_answer {U} {E} (Ok u) old new p free put = λ apart. subst (IsDistinct bytes_eq) (sym put) (push_apart old p free apart)
apart_answer {U} {E} (Err e) old new p free put = tt
