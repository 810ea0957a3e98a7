-- A list that a loop fills place by place.
use Rattle.std.proofs.Common.{◌≡◌, ℕ, zero, suc, ◌+◌, ◌<◌, ◌≤◌, Bool, true, false, ◌&&◌, List, [], ◌∷◌, ◌++◌, length, get_or, take, drop, set, sym, ◌∙◌, ap, ap₂, refl, arith, ℤ, pos, subst, take-suc-set, length-set, add-one, IsTrue, Result, Ok, Err}
use Rattle.std.specs.List.{list_all}
use Rattle.std.specs.Result.{IfOk}
use Rattle.std.proofs.lemmas.List.{take_all}
use Rattle.std.proofs.Math.Seq.{take-suc}
use Rattle.rast_index.specs.Linear.{Linear, small, is_small, tabulate, from_parts, from_numbers}
use Rattle.rast_index.specs.Answer.{Fits}
use Rattle.rast_index.specs.declared.refusal.Coefficient.{Coefficient}

tabulate_more : (f : ℕ → ℤ) (i n : ℕ) → tabulate f i (suc n) ≡ tabulate f i n ++ f (i + n) ∷ []
tabulate_more f i zero = ap (λ k. f k ∷ []) (omega arith)
tabulate_more f i (suc n) = ap (λ t. f i ∷ t) (tabulate_more f (suc i) n ∙ ap (λ k. tabulate f (suc i) n ++ f k ∷ []) (omega arith))

-- the places below i have f's numbers
pub record Filled (f : ℕ → ℤ) (n : ℕ) (out : List ℤ) (i : ℕ) : Type 0 where
  pub is : take i out ≡ tabulate f 0 i
  pub sized : length out ≡ n

pub filled_more : (f : ℕ → ℤ) (n : ℕ) (out : List ℤ) (i : ℕ) (y : ℤ) → Filled f n out i → i < n → y ≡ f i → Filled f n (set out i y) (i + 1)
filled_more f n out i y m below e =
    let h : i < length out = omega (arith, m.sized) in
    record {
      is = rw add-one (take-suc-set out i y h ∙ ap₂ (λ a b. a ++ b ∷ []) m.is e ∙ sym (tabulate_more f 0 i ∙ ap (λ k. tabulate f 0 i ++ f k ∷ []) (omega arith)));
      sized = length-set out i y ∙ m.sized;
    }

filled_all : (f : ℕ → ℤ) (n : ℕ) (out : List ℤ) (i : ℕ) → Filled f n out i → n ≤ i → i ≤ n → out ≡ tabulate f 0 n
filled_all f n out i m h k =
    let same : i ≡ n = omega arith in
    let m' : Filled f n out n = subst (Filled f n out) same m in
    sym (take_all n out (omega (arith, m'.sized))) ∙ m'.is

-- the term of seventeen numbers that f gives
numbers_are : (f : ℕ → ℤ) (out : List ℤ) (i : ℕ) → Filled f 17 out i → 17 ≤ i → i ≤ 17 → from_numbers out ≡ from_parts f
unfolding from_parts
numbers_are f out i m h k = ap from_numbers (filled_all f 17 out i m h k)

pub fits_parts : (f : ℕ → ℤ) (out : List ℤ) (i : ℕ) (r : Result Linear Coefficient) → Filled f 17 out i → 17 ≤ i → i ≤ 17 →
    Fits is_small (from_numbers out) r → Fits is_small (from_parts f) r
fits_parts f out i r m h k fit = subst (λ (l : Linear). Fits is_small l r) (numbers_are f out i m h k) fit

-- what is true of the stated term is true of the answer
pub of_fits : (P : Linear → Type 0) (l : Linear) (r : Result Linear Coefficient) → Fits is_small l r → P l → IfOk r P
of_fits P l (Ok x) fit p = subst P (sym fit.0) p
of_fits P l (Err e) fit p = tt

-- the coefficients below i are the numbers behind the first, and they are small
pub record Narrowed (numbers out : List ℤ) (i : ℕ) : Type 0 where
  pub is : take i out ≡ take i (drop 1 numbers)
  pub fits : list_all small (take i (drop 1 numbers)) ≡ true
  pub sized : length out ≡ 16

all_push : (p : ℤ → Bool) (xs : List ℤ) (y : ℤ) → list_all p xs ≡ true → p y ≡ true → list_all p (xs ++ y ∷ []) ≡ true
all_push p [] y h e = ap (λ b. b && true) e
all_push p (x ∷ xs) y h e = let g = two (p x) _ h in ap₂ (λ a b. a && b) g.0 (all_push p xs y g.1 e)
  where
    two : (a b : Bool) → (a && b) ≡ true → (a ≡ true) × (b ≡ true)
    two true b e = (refl, e)
    two false b e = absurd (cc)

all_fails : (p : ℤ → Bool) (xs : List ℤ) (i : ℕ) → i < length xs → p (get_or xs i (pos 0)) ≡ false → list_all p xs ≡ false
all_fails p [] i h e = absurd (omega arith)
all_fails p (x ∷ xs) zero h e = ap (λ b. b && list_all p xs) e
all_fails p (x ∷ xs) (suc i) h e = two (p x) _ (all_fails p xs i (omega arith) e)
  where
    two : (a b : Bool) → b ≡ false → (a && b) ≡ false
    two true b e = e
    two false b e = refl

-- the number at i + 1 is the one at i behind the first
behind : (numbers : List ℤ) (i : ℕ) → get_or (drop 1 numbers) i (pos 0) ≡ get_or numbers (i + 1) (pos 0)
behind [] zero = refl
behind [] (suc i) = refl
behind (x ∷ xs) i = ap (λ k. get_or (x ∷ xs) k (pos 0)) (sym (add-one i))

length_behind : (numbers : List ℤ) → length numbers ≡ 17 → length (drop 1 numbers) ≡ 16
length_behind [] h = absurd (omega arith)
length_behind (x ∷ xs) h = omega arith

pub narrowed_more : (numbers out : List ℤ) (i : ℕ) (y : ℤ) → Narrowed numbers out i → i < 16 → length numbers ≡ 17 → y ≡ get_or numbers (i + 1) (pos 0) →
    small (get_or numbers (i + 1) (pos 0)) ≡ true → Narrowed numbers (set out i y) (i + 1)
narrowed_more numbers out i y m below many e s =
    let h : i < length out = omega (arith, m.sized) in
    let k : i < length (drop 1 numbers) = omega (arith, length_behind numbers many) in
    let step : take (suc i) (drop 1 numbers) ≡ take i (drop 1 numbers) ++ get_or numbers (i + 1) (pos 0) ∷ [] =
    take-suc (drop 1 numbers) i (pos 0) k ∙ ap (λ z. take i (drop 1 numbers) ++ z ∷ []) (behind numbers i) in
    record {
      is = rw add-one (take-suc-set out i y h ∙ ap₂ (λ a b. a ++ b ∷ []) m.is e ∙ sym step);
      fits = rw add-one (ap (list_all small) step ∙ all_push small (take i (drop 1 numbers)) (get_or numbers (i + 1) (pos 0)) m.fits s);
      sized = length-set out i y ∙ m.sized;
    }

pub narrowed_all : (numbers out : List ℤ) (c : ℤ) (i : ℕ) → Narrowed numbers out i → 16 ≤ i → i ≤ 16 → length numbers ≡ 17 → c ≡ get_or numbers 0 (pos 0) →
    small (get_or numbers 0 (pos 0)) ≡ true →
    (record { constant = c; coefficients = out } ≡ from_numbers numbers) × (is_small (from_numbers numbers) ≡ true)
narrowed_all [] out c i m h k many e s = absurd (omega arith)
narrowed_all (x ∷ xs) out c i m h k many e s =
    let same : i ≡ 16 = omega arith in
    let m' : Narrowed (x ∷ xs) out 16 = subst (Narrowed (x ∷ xs) out) same m in
    let l : length xs ≤ 16 = omega arith in
    let rest : take 16 xs ≡ xs = take_all 16 xs l in
    let whole : out ≡ xs = sym (take_all 16 out (omega (arith, m'.sized))) ∙ m'.is ∙ rest in
    (ap₂ (λ a b. record { constant = a; coefficients = b }) e whole, ap₂ (λ a b. a && b) s (ap (list_all small) (sym rest) ∙ m'.fits))

pub fails_first : (numbers : List ℤ) → length numbers ≡ 17 → small (get_or numbers 0 (pos 0)) ≡ false → is_small (from_numbers numbers) ≡ false
fails_first [] many e = absurd (omega arith)
fails_first (x ∷ xs) many e = ap (λ b. b && list_all small xs) e

pub fails_at : (numbers : List ℤ) (i : ℕ) → length numbers ≡ 17 → i < 16 → small (get_or numbers (i + 1) (pos 0)) ≡ false → is_small (from_numbers numbers) ≡ false
fails_at [] i many h e = absurd (omega arith)
fails_at (x ∷ xs) i many h e =
    let there : small (get_or xs i (pos 0)) ≡ false = subst (λ k. small (get_or (x ∷ xs) k (pos 0)) ≡ false) (add-one i) e in
    two (small x) _ (all_fails small xs i (omega arith) there)
  where
    two : (a b : Bool) → b ≡ false → (a && b) ≡ false
    two true b e = e
    two false b e = refl

pub is_true_of : (a b : Linear) → a ≡ b → is_small b ≡ true → IsTrue (is_small a)
is_true_of a b e h = subst (λ (t : Bool). IsTrue t) (sym (ap is_small e ∙ h)) refl
