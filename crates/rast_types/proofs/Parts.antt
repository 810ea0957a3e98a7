-- A term that is made part by part, each of which passes a test.
use Rattle.std.proofs.Common.{◌≡◌, ℕ, zero, suc, ◌+◌, ◌<◌, ◌≤◌, Bool, true, false, ◌&&◌, List, [], ◌∷◌, ◌++◌, length, take, drop, get_or, pos, set, sym, ◌∙◌, ap, ap₂, refl, arith, ℤ, subst, take-suc-set, length-set, add-one, IsTrue}
use Rattle.std.proofs.Math.Seq.{drop-cons}
use Rattle.std.specs.List.{list_all}
use Rattle.std.proofs.lemmas.List.{take_all}
use Rattle.std.proofs.lemmas.Bool.{and_parts, and_right}
use Rattle.rast_index.specs.Linear.{Linear, tabulate, from_parts, part}

tabulate_more : (f : ℕ → ℤ) (i n : ℕ) → tabulate f i (suc n) ≡ tabulate f i n ++ f (i + n) ∷ []
tabulate_more f i zero = ap (λ k. f k ∷ []) (omega arith)
tabulate_more f i (suc n) = ap (λ t. f i ∷ t) (tabulate_more f (suc i) n ∙ ap (λ k. tabulate f (suc i) n ++ f k ∷ []) (omega arith))

all_push : (p : ℤ → Bool) (xs : List ℤ) (y : ℤ) → list_all p xs ≡ true → p y ≡ true → list_all p (xs ++ y ∷ []) ≡ true
all_push p [] y h e = ap (λ b. b && true) e
all_push p (x ∷ xs) y h e = let g = and_parts (p x) (list_all p xs) h in ap₂ (λ a b. a && b) g.0 (all_push p xs y g.1 e)

all_fails : (p : ℤ → Bool) (f : ℕ → ℤ) (i n k : ℕ) → k < n → p (f (i + k)) ≡ false → list_all p (tabulate f i n) ≡ false
all_fails p f i zero k h e = absurd (omega arith)
all_fails p f i (suc n) zero h e = ap (λ b. b && list_all p (tabulate f (suc i) n)) (subst (λ j. p (f j) ≡ false) (omega arith) e)
all_fails p f i (suc n) (suc k) h e = and_right (p (f i)) _ (all_fails p f (suc i) n k (omega arith) (subst (λ j. p (f j) ≡ false) (omega arith) e))

-- whether the constant and each coefficient passes the test
abbrev pub passes : (ℤ → Bool) → Linear → Bool
passes p l = p l.constant && list_all p l.coefficients

-- the first i coefficients are made
pub record Made (p : ℤ → Bool) (f : ℕ → ℤ) (out : List ℤ) (i : ℕ) : Type 0 where
  pub is : take i out ≡ tabulate f 1 i
  pub fits : list_all p (tabulate f 1 i) ≡ true
  pub sized : length out ≡ 16

pub made_more : (p : ℤ → Bool) (f : ℕ → ℤ) (out : List ℤ) (i : ℕ) (y : ℤ) → Made p f out i → i < 16 → y ≡ f (i + 1) → p (f (i + 1)) ≡ true → Made p f (set out i y) (i + 1)
made_more p f out i y m small_i e s =
    let h : i < length out = omega (arith, m.sized) in
    let step : tabulate f 1 (suc i) ≡ tabulate f 1 i ++ f (i + 1) ∷ [] = tabulate_more f 1 i ∙ ap (λ k. tabulate f 1 i ++ f k ∷ []) (omega arith) in
    record {
      is = rw add-one (take-suc-set out i y h ∙ ap₂ (λ a b. a ++ b ∷ []) m.is e ∙ sym step);
      fits = rw add-one (ap (list_all p) step ∙ all_push p (tabulate f 1 i) (f (i + 1)) m.fits s);
      sized = length-set out i y ∙ m.sized;
    }

pub made_all : (p : ℤ → Bool) (f : ℕ → ℤ) (out : List ℤ) (c : ℤ) (i : ℕ) → Made p f out i → 16 ≤ i → i ≤ 16 → c ≡ f 0 → p (f 0) ≡ true →
    (record { constant = c; coefficients = out } ≡ from_parts f) × (passes p (from_parts f) ≡ true)
unfolding from_parts
made_all p f out c i m h k e s =
    let same : i ≡ 16 = omega arith in
    let m' : Made p f out 16 = subst (Made p f out) same m in
    let whole : out ≡ tabulate f 1 16 = sym (take_all 16 out (omega (arith, m.sized))) ∙ m'.is in
    (ap₂ (λ a b. record { constant = a; coefficients = b }) e whole, ap₂ (λ a b. a && b) s m'.fits)

pub fails_first : (p : ℤ → Bool) (f : ℕ → ℤ) → p (f 0) ≡ false → passes p (from_parts f) ≡ false
unfolding from_parts
fails_first p f e = ap (λ b. b && list_all p (tabulate f 1 16)) e

pub fails_at : (p : ℤ → Bool) (f : ℕ → ℤ) (i : ℕ) → i < 16 → p (f (i + 1)) ≡ false → passes p (from_parts f) ≡ false
unfolding from_parts
fails_at p f i h e = and_right (p (f 0)) _ (all_fails p f 1 16 i h (subst (λ j. p (f j) ≡ false) (omega arith) e))

pub is_true_of : (p : ℤ → Bool) (a b : Linear) → a ≡ b → passes p b ≡ true → IsTrue (passes p a)
is_true_of p a b e h = subst (λ (t : Bool). IsTrue t) (sym (ap (passes p) e ∙ h)) refl

tabulate_part : (l : Linear) (i n : ℕ) → i + n ≤ length l.coefficients → tabulate (part l) (suc i) n ≡ take n (drop i l.coefficients)
tabulate_part l i zero h = refl
tabulate_part l i (suc n) h =
    let here : i < length l.coefficients = omega arith in
    ap (λ t. get_or l.coefficients i (pos 0) ∷ t) (tabulate_part l (suc i) n (omega arith)) ∙ ap (take (suc n)) (sym (drop-cons l.coefficients i (pos 0) here))

-- a term of 16 coefficients is made of its parts
pub parts_again : (l : Linear) → length l.coefficients ≡ 16 → from_parts (part l) ≡ l
unfolding from_parts
parts_again l sized =
    ap (λ cs. record { constant = l.constant; coefficients = cs }) (tabulate_part l 0 16 (omega (arith, sized)) ∙ take_all 16 l.coefficients (omega (arith, sized)))
