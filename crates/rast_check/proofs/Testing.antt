-- Tests of each element of a list, one after the other.
use Rattle.std.specs.Prelude.{IfOk}
use Rattle.std.proofs.Common.{arith, ◌≡◌, ℕ, zero, suc, ◌+◌, ◌<◌, ◌≤◌, Bool, true, ◌&&◌, Result, Ok, Err, refl, List, [], ◌∷◌, drop, take, length, get_or, sym, ap, ◌∙◌, subst, All}
use Rattle.std.specs.List.{list_all}
use Rattle.std.proofs.lemmas.List.{drop_more, take_more}
use Rattle.std.proofs.lemmas.List.Elements.{All-push}
use Rattle.rast_cooper.specs.Verdicts.{is_within}
use Rattle.rast_equal.specs.Fit.{AreWithin, IsWithin}
use Rattle.rast_equal.proofs.Fits.{all_append}
use Rattle.rast_index.specs.declared.formula.Formula.{Formula}

-- the test of one more passed
pub test_step : {X : Type 0} (p : X → Bool) (xs : List X) (i : ℕ) (x : X) → i < length xs → x ≡ get_or xs i x → p x ≡ true → list_all p (drop i xs) ≡ list_all p xs → list_all p (drop (i + 1) xs) ≡ list_all p xs
test_step {X} p xs i x h e t k =
    sym (ap (λ (b : Bool). b && list_all p (drop (i + 1) xs)) (ap p (sym e) ∙ t)) ∙ sym (ap (list_all p) (drop_more xs i x h)) ∙ k

-- what holds of the first ones holds of one more
pub taken_step : {X : Type 0} (P : X → Type 0) (xs : List X) (i : ℕ) (x : X) → i < length xs → x ≡ get_or xs i x → P x → All P (take i xs) → All P (take (i + 1) xs)
taken_step {X} P xs i x h e p k = subst (All P) (sym (take_more xs i x h)) (All-push P (take i xs) (get_or xs i x) k (subst P e p))

pub within_taken : (n : ℕ) (fs : List Formula) (i : ℕ) (f : Formula) → i < length fs → f ≡ get_or fs i f → IsWithin n f → AreWithin n (take i fs) → AreWithin n (take (i + 1) fs)
within_taken n fs i f h e p k m le = ap (list_all (is_within m)) (take_more fs i f h) ∙ all_append (is_within m) (take i fs) (get_or fs i f) (k m le) (ap (is_within m) (sym e) ∙ p m le)

-- what holds of the first ones, so many as there are, holds of all
pub taken_all : {X : Type 0} (P : X → Type 0) (xs : List X) (i : ℕ) → length xs ≤ i → All P (take i xs) → All P xs
taken_all {X} P xs i h k = subst (All P) (take_past xs i h) k
  where
    take_past : {X : Type 0} (xs : List X) (i : ℕ) → length xs ≤ i → take i xs ≡ xs
    take_past {X} [] zero h = refl
    take_past {X} [] (suc i) h = refl
    take_past {X} (x ∷ xs) zero h = absurd (let m : suc (length xs) ≤ zero = h in omega arith)
    take_past {X} (x ∷ xs) (suc i) h = ap (λ (ys : List X). x ∷ ys) (take_past xs i (let m : suc (length xs) ≤ suc i = h in omega arith))

-- what follows from an answer
pub for_ok : {T E : Type 0} {P Q : T → Type 0} (r : Result T E) → ((t : T) → P t → Q t) → IfOk r P → IfOk r Q
for_ok {T} {E} {P} {Q} (Ok t) f h = f t h
for_ok {T} {E} {P} {Q} (Err e) f h = h

pub whenever_ok : {T E : Type 0} {P : Type 0} (r : Result T E) → P → IfOk r (λ t. P)
whenever_ok {T} {E} {P} (Ok t) h = h
whenever_ok {T} {E} {P} (Err e) h = tt
