-- A list of bounded numbers that a loop fills place by place.
use Rattle.std.proofs.Common.{◌≡◌, ℕ, zero, suc, ◌+◌, ◌<◌, ◌≤◌, Bool, true, false, ◌&&◌, List, [], ◌∷◌, ◌++◌, length, get_or, take, map, set, sym, ◌∙◌, ap, ap₂, refl, arith, ℤ, pos, ◌+ℤ◌, ◌*ℤ◌, subst, take-suc-set, length-set, add-one}
use Rattle.std.specs.List.{list_all}
use Rattle.std.proofs.lemmas.List.{take_all, length-map}
use Rattle.std.proofs.Math.Seq.{take-suc}
use Rattle.rast_cooper.specs.Arithmetic.{bounded, both, sums}
use Rattle.rast_cooper.proofs.Values.{get_or-map_times}
use Rattle.rast_cooper.proofs.Occurs.{get_or-both}

pub length-both : (cs ds : List ℤ) (n : ℕ) → length cs ≡ n → length ds ≡ n → length (both cs ds) ≡ n
length-both [] ds n e f = f
length-both (c ∷ cs) [] n e f = e
length-both (c ∷ cs) (d ∷ ds) zero e f = absurd (omega (arith, e))
length-both (c ∷ cs) (d ∷ ds) (suc n) e f = let r = length-both cs ds n (omega (arith, e)) (omega (arith, f)) in omega (arith, r)

pub all_push : (p : ℤ → Bool) (xs : List ℤ) (y : ℤ) → list_all p xs ≡ true → p y ≡ true → list_all p (xs ++ y ∷ []) ≡ true
all_push p [] y h e = ap (λ b. b && true) e
all_push p (x ∷ xs) y h e = let g = two (p x) _ h in ap₂ (λ a b. a && b) g.0 (all_push p xs y g.1 e)
  where
    two : (a b : Bool) → (a && b) ≡ true → (a ≡ true) × (b ≡ true)
    two true b e = (refl, e)
    two false b e = absurd (cc)

pub all_fails : (p : ℤ → Bool) (xs : List ℤ) (k : ℕ) → k < length xs → p (get_or xs k (pos 0)) ≡ false → list_all p xs ≡ false
all_fails p [] k h e = absurd (omega arith)
all_fails p (x ∷ xs) zero h e = ap (λ b. b && list_all p xs) e
all_fails p (x ∷ xs) (suc k) h e = two (p x) _ (all_fails p xs k (omega arith) e)
  where
    two : (a b : Bool) → b ≡ false → (a && b) ≡ false
    two true b e = e
    two false b e = refl

pub all_holds : (p : ℤ → Bool) (xs : List ℤ) (k : ℕ) → k < length xs → list_all p xs ≡ true → p (get_or xs k (pos 0)) ≡ true
all_holds p [] k h e = absurd (omega arith)
all_holds p (x ∷ xs) zero h e = (two (p x) _ e).0
  where
    two : (a b : Bool) → (a && b) ≡ true → (a ≡ true) × (b ≡ true)
    two true b e = (refl, e)
    two false b e = absurd (cc)
all_holds p (x ∷ xs) (suc k) h e = all_holds p xs k (omega arith) ((two (p x) _ e).1)
  where
    two : (a b : Bool) → (a && b) ≡ true → (a ≡ true) × (b ≡ true)
    two true b e = (refl, e)
    two false b e = absurd (cc)

-- the places below i have the list's numbers, which are bounded
pub record IsFilled (xs out : List ℤ) (i : ℕ) : Type 0 where
  pub is : take i out ≡ take i xs
  pub fits : list_all bounded (take i xs) ≡ true
  pub sized : length out ≡ 16

pub filled_more : (xs out : List ℤ) (i : ℕ) (y : ℤ) → length xs ≡ 16 → IsFilled xs out i → i < 16 → y ≡ get_or xs i (pos 0) → bounded (get_or xs i (pos 0)) ≡ true → IsFilled xs (set out i y) (i + 1)
filled_more xs out i y n m below e s =
    let h : i < length out = omega (arith, m.sized) in
    let k : i < length xs = omega (arith, n) in
    let step : take (suc i) xs ≡ take i xs ++ get_or xs i (pos 0) ∷ [] = take-suc xs i (pos 0) k in
    record {
      is = rw add-one (take-suc-set out i y h ∙ ap₂ (λ a b. a ++ b ∷ []) m.is e ∙ sym step);
      fits = rw add-one (ap (list_all bounded) step ∙ all_push bounded (take i xs) (get_or xs i (pos 0)) m.fits s);
      sized = length-set out i y ∙ m.sized;
    }

pub filled_all : (xs out : List ℤ) (i : ℕ) → length xs ≡ 16 → IsFilled xs out i → 16 ≤ i → i ≤ 16 → (out ≡ xs) × (list_all bounded xs ≡ true)
filled_all xs out i n m h k =
    let same : i ≡ 16 = omega arith in
    let m' : IsFilled xs out 16 = subst (IsFilled xs out) same m in
    let whole : take 16 xs ≡ xs = take_all 16 xs (omega (arith, n)) in
    (sym (take_all 16 out (omega (arith, m.sized))) ∙ m'.is ∙ whole, ap (list_all bounded) (sym whole) ∙ m'.fits)

-- ---- sums
pub get_or-sums : (base numbers : List ℤ) (k : ℤ) (i : ℕ) → get_or (sums base k numbers) i (pos 0) ≡ get_or base i (pos 0) +ℤ (k *ℤ get_or numbers i (pos 0))
unfolding sums
get_or-sums base numbers k i = get_or-both base (map (λ c. k *ℤ c) numbers) i ∙ ap (λ z. get_or base i (pos 0) +ℤ z) (get_or-map_times k numbers i)

pub length-sums : (base numbers : List ℤ) (k : ℤ) → length base ≡ 16 → length numbers ≡ 16 → length (sums base k numbers) ≡ 16
unfolding sums
length-sums base numbers k e f = length-both base (map (λ c. k *ℤ c) numbers) 16 e (length-map numbers (λ c. k *ℤ c) ∙ f)

pub sums_are : (base numbers : List ℤ) (k : ℤ) → sums base k numbers ≡ both base (map (λ c. k *ℤ c) numbers)
unfolding sums
sums_are base numbers k = refl
