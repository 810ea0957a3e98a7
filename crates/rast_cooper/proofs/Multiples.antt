-- Least common multiples.
use Rattle.std.proofs.Common.{◌≡◌, ℕ, zero, suc, ◌+◌, ◌*◌, ◌/◌, ◌%◌, ◌<◌, ◌≤◌, List, [], ◌∷◌, sym, ◌∙◌, ap, ap₂, refl, arith, ℤ, pos, negsuc, Bool, true, false, not, ◌&&◌, subst, unsigned_abs, cond, mul_assoc, div-add-mod', mod-lt, length, get_or, drop, drop-cons, ◌++◌, add-one, ◌^◌, mul-div_cancel, mul-pos, zero-lt-suc}
use Rattle.std.proofs.lemmas.Bool.{leb-true, le-leb}
use Rattle.rast_cooper.specs.Arithmetic.{at_most, coefficient}
use Rattle.rast_cooper.specs.declared.literal.Literal.{Literal}
use Rattle.rast_cooper.specs.Eliminate.{gcd, gcd_by, lcm, has, common, common_over, period, is_divided, is_zero, Positive}

-- n is a multiple of d
abbrev pub Of : ℕ → ℕ → Type 0
Of d n = (m : ℕ) × (n ≡ m * d)

of_mul : (d n k : ℕ) → Of d n → Of d (k * n)
of_mul d n k (m, e) = (k * m, ap (λ z. k * z) e ∙ sym (mul_assoc k m d))

of_add : (d a b : ℕ) → Of d a → Of d b → Of d (a + b)
of_add d a b (m, e) (n, f) = (m + n, omega (arith, e, f))

pub of_trans : (a b c : ℕ) → Of a b → Of b c → Of a c
of_trans a b c h (n, f) = subst (λ z. Of a z) (sym f) (of_mul a b n h)

gcd_divides : (n a b : ℕ) → b ≤ n → Of (gcd_by n a b) a × Of (gcd_by n a b) b
gcd_divides zero a b h = ((1, omega arith), (0, omega arith))
gcd_divides (suc n) a zero h = ((1, omega arith), (0, omega arith))
gcd_divides (suc n) a (suc b) h =
    let k = mod-lt a (zero-lt-suc b) in
    let r = gcd_divides n (suc b) (a % suc b) (omega arith) in
    let g = gcd_by n (suc b) (a % suc b) in
    (subst (λ z. Of g z) (div-add-mod' a (suc b)) (of_add g (a / suc b * suc b) (a % suc b) (of_mul g (suc b) (a / suc b) r.0) r.1), r.0)

over : (p g : ℕ) → 0 < g → p * g / g ≡ p
over p g h = mul-div_cancel p h

pos_factor : (m g a : ℕ) → a ≡ m * g → 0 < a → (0 < m) × (0 < g)
pos_factor zero g a e h = absurd (omega arith)
pos_factor (suc m) zero a e h = absurd (omega arith)
pos_factor (suc m) (suc g) a e h = (zero-lt-suc m, zero-lt-suc g)

pub record IsMultiple (a b n : ℕ) : Type 0 where
  pub left : Of a n
  pub right : Of b n
  pub above : 0 < n

pub lcm_is : (a b : ℕ) → 0 < a → 0 < b → IsMultiple a b (lcm a b)
unfolding lcm gcd
lcm_is a b h k =
    let d = gcd_divides b a b (omega arith) in
    let g = gcd_by b a b in
    let p = d.0.0 in
    let r = d.1.0 in
    let f = pos_factor p g a d.0.1 h in
    let e : a / g ≡ p = ap (λ z. z / g) d.0.1 ∙ over p g f.1 in
    record {
      left = (r, ap (λ z. z * b) e ∙ ap (λ z. p * z) d.1.1 ∙ (omega arith) ∙ ap (λ z. r * z) (sym d.0.1));
      right = (a / g, refl);
      above = subst (λ z. 0 < z * b) (sym e) (mul-pos f.0 k);
    }

-- what the least common multiple of the coefficients gives
pub Fits : ℕ → ℕ → Literal → Type 0
Fits x l lit = has x lit ≡ true → Of (unsigned_abs (coefficient lit.term x)) l

abbrev pub AllFit : ℕ → ℕ → List Literal → Type 0
AllFit x l [] = Unit {0}
AllFit x l (lit ∷ ls) = (has x lit ≡ true → Of (unsigned_abs (coefficient lit.term x)) l) × AllFit x l ls

fit_more : (x l n : ℕ) (ls : List Literal) → Of l n → AllFit x l ls → AllFit x n ls
fit_more x l n [] h f = tt
fit_more x l n (lit ∷ ls) h f = (λ e. of_trans _ l n (f.0 e) h, fit_more x l n ls h f.1)

above_zero : (c : ℤ) → not (is_zero c) ≡ true → 0 < unsigned_abs c
above_zero (pos zero) e = absurd (cc)
above_zero (pos (suc n)) e = omega arith
above_zero (negsuc n) e = omega arith

pub common_fits : (x : ℕ) (ls : List Literal) → (0 < common x ls) × AllFit x (common x ls) ls
common_fits x [] = (omega arith, tt)
common_fits x (lit ∷ ls) = by (has x lit) refl (common_fits x ls)
  where
    by : (t : Bool) → has x lit ≡ t → (0 < common x ls) × AllFit x (common x ls) ls → let l = cond t (lcm (unsigned_abs (coefficient lit.term x)) (common x ls)) (common x ls) in (0 < l) × ((has x lit ≡ true → Of (unsigned_abs (coefficient lit.term x)) l) × AllFit x l ls)
    by true e r =
        let m = lcm_is (unsigned_abs (coefficient lit.term x)) (common x ls) (above_zero _ e) r.0 in
        (m.above, (λ _. m.left, fit_more x _ _ ls m.right r.1))
    by false e r = (r.0, (λ f. absurd (cc), r.1))

abbrev pub AllDivide : ℕ → ℕ → List Literal → Type 0
AllDivide x l [] = Unit {0}
AllDivide x l (lit ∷ ls) = ((has x lit && is_divided lit.sort) ≡ true → Of lit.divisor l) × AllDivide x l ls

divide_more : (x l n : ℕ) (ls : List Literal) → Of l n → AllDivide x l ls → AllDivide x n ls
divide_more x l n [] h f = tt
divide_more x l n (lit ∷ ls) h f = (λ e. of_trans _ l n (f.0 e) h, divide_more x l n ls h f.1)

right_true : (a b : Bool) → (a && b) ≡ true → b ≡ true
right_true true b e = e
right_true false b e = absurd (cc)

pub period_divides : (x : ℕ) (ls : List Literal) → Positive ls → (0 < period x ls) × AllDivide x (period x ls) ls
period_divides x [] p = (omega arith, tt)
period_divides x (lit ∷ ls) p = by (has x lit && is_divided lit.sort) refl (period_divides x ls p.1)
  where
    by : (t : Bool) → (has x lit && is_divided lit.sort) ≡ t → (0 < period x ls) × AllDivide x (period x ls) ls → let l = cond t (lcm lit.divisor (period x ls)) (period x ls) in (0 < l) × (((has x lit && is_divided lit.sort) ≡ true → Of lit.divisor l) × AllDivide x l ls)
    by true e r =
        let m = lcm_is lit.divisor (period x ls) (p.0 (right_true _ _ e)) r.0 in
        (m.above, (λ _. m.left, divide_more x _ _ ls m.right r.1))
    by false e r = (r.0, (λ f. absurd (cc), r.1))

-- ---- a least common multiple is no less
of_at_least : (d n : ℕ) → Of d n → 0 < n → d ≤ n
of_at_least d n (zero, e) h = absurd (omega (arith, e))
of_at_least d n (suc m, e) h = omega (arith, e, mul_at_least m d)
  where
    mul_at_least : (m d : ℕ) → d ≤ suc m * d
    mul_at_least m d = omega arith

pub lcm_at_least : (a b : ℕ) → 0 < a → 0 < b → b ≤ lcm a b
lcm_at_least a b h k = let m = lcm_is a b h k in of_at_least b (lcm a b) m.right m.above

pub common_above : (x : ℕ) (ls : List Literal) (s : ℕ) → 0 < s → 0 < common_over x ls s
common_above x [] s h = h
common_above x (lit ∷ ls) s h = by (has x lit) refl (common_above x ls s h)
  where
    by : (t : Bool) → has x lit ≡ t → 0 < common_over x ls s → 0 < cond t (lcm (unsigned_abs (coefficient lit.term x)) (common_over x ls s)) (common_over x ls s)
    by true e r = (lcm_is (unsigned_abs (coefficient lit.term x)) (common_over x ls s) (above_zero _ e) r).above
    by false e r = r

common_more : (x : ℕ) (lit : Literal) (ls : List Literal) (s : ℕ) → 0 < s → common_over x ls s ≤ common_over x (lit ∷ ls) s
common_more x lit ls s h = by (has x lit) refl
  where
    by : (t : Bool) → has x lit ≡ t → common_over x ls s ≤ cond t (lcm (unsigned_abs (coefficient lit.term x)) (common_over x ls s)) (common_over x ls s)
    by true e = lcm_at_least (unsigned_abs (coefficient lit.term x)) (common_over x ls s) (above_zero _ e) (common_above x ls s h)
    by false e = omega arith

pub common_drop : (x : ℕ) (ls : List Literal) (s i : ℕ) → 0 < s → common_over x (drop i ls) s ≤ common_over x ls s
common_drop x ls s zero h = omega arith
common_drop x [] s (suc i) h = omega arith
common_drop x (lit ∷ ls) s (suc i) h = let r = common_drop x ls s i h in let m = common_more x lit ls s h in omega (arith, r, m)

pub common_start : (x : ℕ) (ls : List Literal) (s : ℕ) → 0 < s → s ≤ common_over x ls s
common_start x [] s h = omega arith
common_start x (lit ∷ ls) s h = let r = common_start x ls s h in let m = common_more x lit ls s h in omega (arith, r, m)

pub common_append : (x : ℕ) (ls ms : List Literal) (s : ℕ) → common_over x (ls ++ ms) s ≡ common_over x ls (common_over x ms s)
common_append x [] ms s = refl
common_append x (lit ∷ ls) ms s = ap (λ n. cond (has x lit) (lcm (unsigned_abs (coefficient lit.term x)) n) n) (common_append x ls ms s)

period_more : (x : ℕ) (lit : Literal) (ls : List Literal) → Positive (lit ∷ ls) → period x ls ≤ period x (lit ∷ ls)
period_more x lit ls p = by (has x lit && is_divided lit.sort) refl
  where
    by : (t : Bool) → (has x lit && is_divided lit.sort) ≡ t → period x ls ≤ cond t (lcm lit.divisor (period x ls)) (period x ls)
    by true e = lcm_at_least lit.divisor (period x ls) (p.0 (right_true _ _ e)) (period_divides x ls p.1).0
    by false e = omega arith

pub period_drop : (x : ℕ) (ls : List Literal) (i : ℕ) → Positive ls → period x (drop i ls) ≤ period x ls
period_drop x ls zero p = omega arith
period_drop x [] (suc i) p = omega arith
period_drop x (lit ∷ ls) (suc i) p = let r = period_drop x ls i p.1 in let m = period_more x lit ls p in omega (arith, r, m)

pub positive_drop : (ls : List Literal) (i : ℕ) → Positive ls → Positive (drop i ls)
positive_drop ls zero p = p
positive_drop [] (suc i) p = tt
positive_drop (lit ∷ ls) (suc i) p = positive_drop ls i p.1

-- ---- one more literal from the end
drop_at : (ls : List Literal) (i : ℕ) (d : Literal) → i < length ls → drop i ls ≡ get_or ls i d ∷ drop (i + 1) ls
drop_at ls i d h = drop-cons ls i d h ∙ ap (λ n. get_or ls i d ∷ drop n ls) (sym (add-one i))

pub common_back : (x : ℕ) (ls : List Literal) (s i : ℕ) (lit : Literal) → i < length ls → lit ≡ get_or ls i lit → common_over x (drop i ls) s ≡ cond (has x lit) (lcm (unsigned_abs (coefficient lit.term x)) (common_over x (drop (i + 1) ls) s)) (common_over x (drop (i + 1) ls) s)
common_back x ls s i lit h e = ap (λ m. common_over x m s) (drop_at ls i lit h ∙ ap (λ (l : Literal). l ∷ drop (i + 1) ls) (sym e))

pub period_back : (x : ℕ) (ls : List Literal) (i : ℕ) (lit : Literal) → i < length ls → lit ≡ get_or ls i lit → period x (drop i ls) ≡ cond (has x lit && is_divided lit.sort) (lcm lit.divisor (period x (drop (i + 1) ls))) (period x (drop (i + 1) ls))
period_back x ls i lit h e = ap (λ m. period x m) (drop_at ls i lit h ∙ ap (λ (l : Literal). l ∷ drop (i + 1) ls) (sym e))

-- ---- the greatest common divisor
fuel : (n m a b : ℕ) → b ≤ n → b ≤ m → gcd_by n a b ≡ gcd_by m a b
fuel zero zero a b h k = refl
fuel zero (suc m) a zero h k = refl
fuel zero (suc m) a (suc b) h k = absurd (omega arith)
fuel (suc n) zero a zero h k = refl
fuel (suc n) zero a (suc b) h k = absurd (omega arith)
fuel (suc n) (suc m) a zero h k = refl
fuel (suc n) (suc m) a (suc b) h k = let l = mod-lt a (zero-lt-suc b) in fuel n m (suc b) (a % suc b) (omega arith) (omega arith)

pub gcd_step : (a b : ℕ) → 0 < b → gcd a b ≡ gcd b (a % b)
unfolding gcd
gcd_step a zero h = absurd (omega arith)
gcd_step a (suc b) h = let l = mod-lt a (zero-lt-suc b) in fuel b (a % suc b) (suc b) (a % suc b) (omega arith) (omega arith)

pub gcd_end : (a b : ℕ) → b ≡ 0 → gcd a b ≡ a
unfolding gcd
gcd_end a b e = ap (λ n. gcd_by n a n) e

pub gcd_above : (a b : ℕ) → 0 < a → 0 < gcd a b
unfolding gcd
gcd_above a b h = let d = gcd_divides b a b (omega arith) in (pos_factor d.0.0 (gcd_by b a b) a d.0.1 h).1

pub lcm_at : (a b : ℕ) → lcm a b ≡ a / gcd a b * b
unfolding lcm
lcm_at a b = refl

pub at_most_false : (m n : ℕ) → at_most m ≡ false → m ≤ n → at_most n ≡ false
at_most_false m n e h = by (at_most n) refl
  where
    by : (b : Bool) → at_most n ≡ b → b ≡ false
    by true f = absurd (let k = leb-true n (2 ^ 120) f in let g = le-leb m (2 ^ 120) (omega (arith, k)) in let t : true ≡ false = sym g ∙ e in cc)
    by false f = refl

pub common_fails : (x : ℕ) (ls : List Literal) (s i : ℕ) (lit : Literal) (a l : ℕ) → 0 < s → i < length ls → lit ≡ get_or ls i lit → has x lit ≡ true →
    a ≡ unsigned_abs (coefficient lit.term x) → l ≡ common_over x (drop (i + 1) ls) s → at_most (lcm a l) ≡ false → at_most (common_over x ls s) ≡ false
common_fails x ls s i lit a l some h e f g k low =
    let back = common_back x ls s i lit h e ∙ ap (λ b. cond b (lcm (unsigned_abs (coefficient lit.term x)) (common_over x (drop (i + 1) ls) s)) (common_over x (drop (i + 1) ls) s)) f in
    at_most_false (common_over x (drop i ls) s) (common_over x ls s) (ap at_most (back ∙ sym (ap₂ (λ p q. lcm p q) g k)) ∙ low) (common_drop x ls s i some)

pub period_fails : (x : ℕ) (ls : List Literal) (i : ℕ) (lit : Literal) (l : ℕ) → Positive ls → i < length ls → lit ≡ get_or ls i lit → (has x lit && is_divided lit.sort) ≡ true →
    l ≡ period x (drop (i + 1) ls) → at_most (lcm lit.divisor l) ≡ false → at_most (period x ls) ≡ false
period_fails x ls i lit l p h e f k low =
    let back = period_back x ls i lit h e ∙ ap (λ b. cond b (lcm lit.divisor (period x (drop (i + 1) ls))) (period x (drop (i + 1) ls))) f in
    at_most_false (period x (drop i ls)) (period x ls) (ap at_most (back ∙ sym (ap (λ q. lcm lit.divisor q) k)) ∙ low) (period_drop x ls i p)

pub divisor_above : (ls : List Literal) (i : ℕ) (lit : Literal) → Positive ls → i < length ls → lit ≡ get_or ls i lit → is_divided lit.sort ≡ true → 0 < lit.divisor
divisor_above ls i lit p h e f = (subst Positive (drop_at ls i lit h ∙ ap (λ (m : Literal). m ∷ drop (i + 1) ls) (sym e)) (positive_drop ls i p)).0 f
