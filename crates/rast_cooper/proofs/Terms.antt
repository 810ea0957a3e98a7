-- Sums of terms, number by number.
use Rattle.std.proofs.Common.{◌≡◌, ℕ, zero, suc, ◌^◌, ◌<◌, ◌≤◌, Bool, true, false, ◌&&◌, List, [], ◌∷◌, length, map, set, sym, ◌∙◌, ap, ap₂, refl, arith, ℤ, pos, negsuc, ◌+ℤ◌, ◌*ℤ◌, unsigned_abs, subst, IsTrue}
use Rattle.std.specs.List.{list_all}
use Rattle.std.specs.Prelude.{nat_le}
use Rattle.std.proofs.lemmas.Int.{ints}
use Rattle.std.proofs.lemmas.List.{length-map}
use Rattle.std.proofs.lemmas.Bool.{leb-true, le-leb}
use borrow.Author.Tests.{ltb-true}
use Rattle.rast_index.specs.Linear.{nought, small, is_small, tabulate, magnitude}
use Rattle.rast_cooper.specs.Arithmetic.{Linear, bounded, is_bounded, both, sums, added, times, shifted, put, minus}
use Rattle.rast_cooper.specs.Eliminate.{sign}
use Rattle.rast_cooper.proofs.Values.{set_twice}
use Rattle.rast_cooper.proofs.Filled.{sums_are}

pub is_true : (b : Bool) → IsTrue b → b ≡ true
is_true true h = refl
is_true false h = absurd (let g : false ≡ true = h in cc)

pub true_of : (b : Bool) → b ≡ true → IsTrue b
true_of true e = refl
true_of false e = absurd (cc)

pub and_true : (a b : Bool) → (a && b) ≡ true → (a ≡ true) × (b ≡ true)
and_true true b e = (refl, e)
and_true false b e = absurd (cc)

pub bounded_at_most : (z : ℤ) → bounded z ≡ true → unsigned_abs z ≤ 2 ^ 120
bounded_at_most z e = leb-true (unsigned_abs z) (2 ^ 120) e

pub constant_at_most : (k : ℤ) (cs : List ℤ) → IsTrue (is_bounded (record { constant = k; coefficients = cs })) → unsigned_abs k ≤ 2 ^ 120
constant_at_most k cs h = bounded_at_most k (and_true (bounded k) (list_all bounded cs) (is_true _ h)).0

module _ (a b : Linear) (k m : ℤ) (cs ds : List ℤ) (ea : record { constant = k; coefficients = cs } ≡ a) (eb : record { constant = m; coefficients = ds } ≡ b) (f : ℤ) (more : ℕ) where
  abbrev parts : Linear
  parts = record { constant = k +ℤ (f *ℤ (m +ℤ pos more)); coefficients = sums cs f ds }

  same : parts ≡ added a (times f (shifted more b))
  same = ap (λ xs. record { constant = k +ℤ (f *ℤ (m +ℤ pos more)); coefficients = xs }) (sums_are cs ds f) ∙ ap₂ (λ x y. added x (times f (shifted more y))) ea eb

  pub fails_constant : bounded (k +ℤ (f *ℤ (m +ℤ pos more))) ≡ false → is_bounded (added a (times f (shifted more b))) ≡ false
  fails_constant e = sym (ap is_bounded same) ∙ ap (λ t. t && list_all bounded (sums cs f ds)) e

  pub fails_rest : list_all bounded (sums cs f ds) ≡ false → is_bounded (added a (times f (shifted more b))) ≡ false
  fails_rest e = sym (ap is_bounded same) ∙ two (bounded (k +ℤ (f *ℤ (m +ℤ pos more)))) _ e
    where
      two : (p q : Bool) → q ≡ false → (p && q) ≡ false
      two true q h = h
      two false q h = refl

  pub fits_sum : (z : ℤ) (out : List ℤ) → z ≡ k +ℤ (f *ℤ (m +ℤ pos more)) → bounded (k +ℤ (f *ℤ (m +ℤ pos more))) ≡ true → out ≡ sums cs f ds → list_all bounded (sums cs f ds) ≡ true →
      (record { constant = z; coefficients = out } ≡ added a (times f (shifted more b))) × (is_bounded (added a (times f (shifted more b))) ≡ true)
  fits_sum z out e p g q = (ap₂ (λ x xs. record { constant = x; coefficients = xs }) e g ∙ same, sym (ap is_bounded same) ∙ ap₂ (λ x y. x && y) p q)

-- ---- another coefficient
all_set : (p : ℤ → Bool) (cs : List ℤ) (x : ℕ) (c : ℤ) → list_all p cs ≡ true → p c ≡ true → list_all p (set cs x c) ≡ true
all_set p [] x c h e = h
all_set p (d ∷ cs) zero c h e = let g = and_true _ _ h in ap₂ (λ a b. a && b) e g.1
all_set p (d ∷ cs) (suc x) c h e = let g = and_true _ _ h in ap₂ (λ a b. a && b) g.0 (all_set p cs x c g.1 e)

pub put_bounded : (k : ℤ) (cs : List ℤ) (x : ℕ) (c : ℤ) → IsTrue (is_bounded (record { constant = k; coefficients = cs })) → bounded c ≡ true → IsTrue (is_bounded (record { constant = k; coefficients = set cs x c }))
put_bounded k cs x c h e = let g = and_true (bounded k) (list_all bounded cs) (is_true _ h) in true_of _ (ap₂ (λ a b. a && b) g.0 (all_set bounded cs x c g.1 e))

-- ---- small numbers
same_magnitude : (z : ℤ) → magnitude z ≡ unsigned_abs z
same_magnitude (pos n) = refl
same_magnitude (negsuc n) = refl

pub small_at_most : (z : ℤ) → small z ≡ true → unsigned_abs z < 2 ^ 32
small_at_most z e = subst (λ n. n < 2 ^ 32) (same_magnitude z) (ltb-true (magnitude z) (2 ^ 32) e)

pub bounded_of : (z : ℤ) → unsigned_abs z ≤ 2 ^ 120 → bounded z ≡ true
bounded_of z h = le-leb (unsigned_abs z) (2 ^ 120) h

pub small_bounded : (z : ℤ) → small z ≡ true → bounded z ≡ true
small_bounded z e = bounded_of z (let h = small_at_most z e in omega (arith, h))

-- ---- nothing added
none_both : (i n : ℕ) (cs : List ℤ) → length cs ≡ n → both (tabulate (λ j. pos 0) i n) cs ≡ cs
none_both i zero cs e = refl
none_both i (suc n) [] e = absurd (omega (arith, e))
none_both i (suc n) (c ∷ cs) e = ap₂ (λ x xs. x ∷ xs) (omega (arith, ints)) (none_both (suc i) n cs (omega (arith, e)))

pub shifted_none : (l : Linear) → shifted 0 l ≡ l
shifted_none l = ap (λ z. record { constant = z; coefficients = l.coefficients }) (let k = l.constant in omega (arith, ints))

pub times_is : (k : ℤ) (l : Linear) → length l.coefficients ≡ 16 → added nought (times k (shifted 0 l)) ≡ times k l
times_is k l e = ap (λ m. added nought (times k m)) (shifted_none l) ∙ ap₂ (λ z cs. record { constant = z; coefficients = cs })
    (let z = k *ℤ l.constant in omega (arith, ints))
    (none_both 0 16 (map (λ c. k *ℤ c) l.coefficients) (length-map l.coefficients (λ c. k *ℤ c) ∙ e))

-- ---- turned signs
turned_same : (z : ℤ) → unsigned_abs (negsuc 0 *ℤ z) ≡ unsigned_abs z
turned_same z = omega (arith, ints)

turned_bounded : (cs : List ℤ) → list_all bounded cs ≡ true → list_all bounded (map (λ c. negsuc 0 *ℤ c) cs) ≡ true
turned_bounded [] h = refl
turned_bounded (c ∷ cs) h = let g = and_true _ _ h in ap₂ (λ a b. a && b) (ap (λ n. nat_le n (2 ^ 120)) (turned_same c) ∙ g.0) (turned_bounded cs g.1)

pub negated_bounded : (l : Linear) → is_bounded l ≡ true → is_bounded (times (negsuc 0) l) ≡ true
negated_bounded l h = let g = and_true (bounded l.constant) _ h in ap₂ (λ a b. a && b) (ap (λ n. nat_le n (2 ^ 120)) (turned_same l.constant) ∙ g.0) (turned_bounded l.coefficients g.1)

-- ---- differences of small terms
difference_at_most : (x y : ℤ) → small x ≡ true → small y ≡ true → unsigned_abs (x +ℤ (negsuc 0 *ℤ y)) ≤ 2 ^ 33
difference_at_most x y e f = let h = small_at_most x e in let k = small_at_most y f in omega (arith, ints, h, k)

all_bounded : (cs : List ℤ) → list_all small cs ≡ true → list_all bounded cs ≡ true
all_bounded [] h = refl
all_bounded (c ∷ cs) h = let g = and_true _ _ h in ap₂ (λ a b. a && b) (small_bounded c g.0) (all_bounded cs g.1)

differences : (cs ds : List ℤ) → list_all small cs ≡ true → list_all small ds ≡ true → list_all bounded (both cs (map (λ d. negsuc 0 *ℤ d) ds)) ≡ true
differences [] [] h k = refl
differences [] (d ∷ ds) h k = let g = and_true _ _ k in ap₂ (λ a b. a && b) (ap (λ n. nat_le n (2 ^ 120)) (turned_same d) ∙ small_bounded d g.0) (differences [] ds refl g.1)
differences (c ∷ cs) [] h k = all_bounded (c ∷ cs) h
differences (c ∷ cs) (d ∷ ds) h k =
    let g = and_true _ _ h in let m = and_true _ _ k in
    let r = difference_at_most c d g.0 m.0 in
    let e : bounded (c +ℤ (negsuc 0 *ℤ d)) ≡ true = bounded_of (c +ℤ (negsuc 0 *ℤ d)) (omega (arith, r)) in
    ap₂ (λ a b. a && b) e (differences cs ds g.1 m.1)

pub difference_bounded : (a b : Linear) → is_small a ≡ true → is_small b ≡ true → (is_bounded (minus a b) ≡ true) × (unsigned_abs (minus a b).constant ≤ 2 ^ 33)
difference_bounded a b h k =
    let g = and_true (small a.constant) _ h in let m = and_true (small b.constant) _ k in
    let r = difference_at_most a.constant b.constant g.0 m.0 in
    let e : bounded (a.constant +ℤ (negsuc 0 *ℤ b.constant)) ≡ true = bounded_of (a.constant +ℤ (negsuc 0 *ℤ b.constant)) (omega (arith, r)) in
    (ap₂ (λ x y. x && y) e (differences a.coefficients b.coefficients g.1 m.1), r)

-- ---- multiples, but for one variable
map-set : (k : ℤ) (cs : List ℤ) (x : ℕ) → map (λ c. k *ℤ c) (set cs x (pos 0)) ≡ set (map (λ c. k *ℤ c) cs) x (pos 0)
map-set k [] x = refl
map-set k (c ∷ cs) zero = ap (λ z. z ∷ map (λ d. k *ℤ d) cs) (omega (arith, ints))
map-set k (c ∷ cs) (suc x) = ap (λ t. (k *ℤ c) ∷ t) (map-set k cs x)

pub put_times : (x : ℕ) (s k : ℤ) (l : Linear) → put x s (times k (put x (pos 0) l)) ≡ put x s (times k l)
put_times x s k l = ap (λ cs. record { constant = k *ℤ l.constant; coefficients = cs }) (ap (λ cs. set cs x s) (map-set k l.coefficients x) ∙ set_twice (map (λ c. k *ℤ c) l.coefficients) x (pos 0) s)

put_back : (x : ℕ) (s k : ℤ) (l : Linear) → put x (pos 0) (put x s (times k l)) ≡ times k (put x (pos 0) l)
put_back x s k l = ap (λ cs. record { constant = k *ℤ l.constant; coefficients = cs }) (set_twice (map (λ c. k *ℤ c) l.coefficients) x s (pos 0) ∙ sym (map-set k l.coefficients x))

pub put_times_fails : (x : ℕ) (s k : ℤ) (l : Linear) → is_bounded (times k (put x (pos 0) l)) ≡ false → is_bounded (put x s (times k l)) ≡ false
put_times_fails x s k l e = by (is_bounded (put x s (times k l))) refl
  where
    by : (b : Bool) → is_bounded (put x s (times k l)) ≡ b → b ≡ false
    by true f = absurd (
        let g = is_true _ (put_bounded (put x s (times k l)).constant (put x s (times k l)).coefficients x (pos 0) (true_of _ f) refl) in
        let h : true ≡ false = sym g ∙ ap is_bounded (put_back x s k l) ∙ e in cc)
    by false f = refl

pub put_times_fits : (x : ℕ) (s k : ℤ) (l : Linear) → bounded s ≡ true → is_bounded (times k (put x (pos 0) l)) ≡ true → is_bounded (put x s (times k l)) ≡ true
put_times_fits x s k l b e = sym (ap is_bounded (put_times x s k l)) ∙ is_true _ (put_bounded (times k (put x (pos 0) l)).constant (times k (put x (pos 0) l)).coefficients x s (true_of _ e) b)

pub sign_bounded : (z : ℤ) → bounded (sign z) ≡ true
sign_bounded (pos zero) = refl
sign_bounded (pos (suc n)) = refl
sign_bounded (negsuc n) = refl
