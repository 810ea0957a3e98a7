-- The value of a term that was made from others.
use Rattle.std.proofs.Common.{◌≡◌, ℕ, zero, suc, ◌≤◌, List, [], ◌∷◌, length, get_or, map, sym, ◌∙◌, ap, ap₂, refl, arith, ℤ, pos, negsuc, ◌+ℤ◌, ◌-ℤ◌, ◌*ℤ◌}
use Rattle.std.proofs.lemmas.Int.{ints}
use Rattle.rast_index.specs.Linear.{Linear, value, weighted, tabulate, part, plus, less, times, base_part, mixed, replaced, fixed, from_parts}
use Rattle.rast_index.proofs.Whole.{mul_assoc_ℤ, mul_add_ℤ, add_mul_ℤ, zero_mul_ℤ}

pub tabulate_suc : {X : Type 0} (f : ℕ → X) (i n : ℕ) → tabulate f (suc i) n ≡ tabulate (λ j. f (suc j)) i n
tabulate_suc f i zero = refl
tabulate_suc f i (suc n) = ap (λ t. f (suc i) ∷ t) (tabulate_suc f (suc i) n)

pub weighted_none : (cs : List ℤ) → weighted cs [] ≡ pos 0
weighted_none [] = refl
weighted_none (c ∷ cs) = refl

pub weighted_zeros : (i n : ℕ) (vs : List ℤ) → weighted (tabulate (λ j. pos 0) i n) vs ≡ pos 0
weighted_zeros i zero vs = refl
weighted_zeros i (suc n) [] = refl
weighted_zeros i (suc n) (v ∷ vs) = let z = zero_mul_ℤ v in omega (arith, ints, z, weighted_zeros (suc i) n vs)

weighted_sums : (f g : ℕ → ℤ) (i n : ℕ) (vs : List ℤ) →
    weighted (tabulate (λ j. f j +ℤ g j) i n) vs ≡ weighted (tabulate f i n) vs +ℤ weighted (tabulate g i n) vs
weighted_sums f g i zero vs = omega (arith, ints)
weighted_sums f g i (suc n) [] = omega (arith, ints)
weighted_sums f g i (suc n) (v ∷ vs) = omega (arith, ints, add_mul_ℤ (f i) (g i) v, weighted_sums f g (suc i) n vs)

weighted_multiples : (k : ℤ) (f : ℕ → ℤ) (i n : ℕ) (vs : List ℤ) → weighted (tabulate (λ j. k *ℤ f j) i n) vs ≡ k *ℤ weighted (tabulate f i n) vs
weighted_multiples k f i zero vs = omega (arith, ints)
weighted_multiples k f i (suc n) [] = omega (arith, ints)
weighted_multiples k f i (suc n) (v ∷ vs) =
    ap₂ (λ x y. x +ℤ y) (mul_assoc_ℤ k (f i) v) (weighted_multiples k f (suc i) n vs)
    ∙ sym (mul_add_ℤ k (f i *ℤ v) (weighted (tabulate f (suc i) n) vs))

pub listed : (cs : List ℤ) (n : ℕ) (vs : List ℤ) → length vs ≤ n → weighted (tabulate (λ j. get_or cs j (pos 0)) 0 n) vs ≡ weighted cs vs
listed cs n [] h = weighted_none _ ∙ sym (weighted_none cs)
listed [] n (v ∷ vs) h = weighted_zeros 0 n (v ∷ vs)
listed (c ∷ cs) zero (v ∷ vs) h = absurd (omega arith)
listed (c ∷ cs) (suc n) (v ∷ vs) h =
    ap (λ z. (c *ℤ v) +ℤ z) (ap (λ t. weighted t vs) (tabulate_suc (λ j. get_or (c ∷ cs) j (pos 0)) 0 n) ∙ listed cs n vs (omega arith))

-- a term's coefficients, read one by one
pub weighted_parts : (n : ℕ) (l : Linear) (vs : List ℤ) → length vs ≤ n → weighted (tabulate (part l) 1 n) vs ≡ weighted l.coefficients vs
weighted_parts n l vs h = ap (λ t. weighted t vs) (tabulate_suc (part l) 0 n) ∙ listed l.coefficients n vs h

sum_at : (n : ℕ) (a b : Linear) (vs : List ℤ) → length vs ≤ n →
    (part a 0 +ℤ part b 0) +ℤ weighted (tabulate (λ j. part a j +ℤ part b j) 1 n) vs ≡ value a vs +ℤ value b vs
sum_at n a b vs h =
    omega (arith, ints, weighted_sums (part a) (part b) 1 n vs, weighted_parts n a vs h, weighted_parts n b vs h)

pub value_plus : (a b : Linear) (vs : List ℤ) → length vs ≤ 16 → value (plus a b) vs ≡ value a vs +ℤ value b vs
unfolding from_parts
value_plus a b vs h = sum_at 16 a b vs h

multiple_at : (n : ℕ) (k : ℤ) (a : Linear) (vs : List ℤ) → length vs ≤ n →
    (k *ℤ part a 0) +ℤ weighted (tabulate (λ j. k *ℤ part a j) 1 n) vs ≡ k *ℤ value a vs
multiple_at n k a vs h =
    ap (λ z. (k *ℤ a.constant) +ℤ z) (weighted_multiples k (part a) 1 n vs ∙ ap (λ z. k *ℤ z) (weighted_parts n a vs h))
    ∙ sym (mul_add_ℤ k a.constant (weighted a.coefficients vs))

pub value_times : (k : ℕ) (a : Linear) (vs : List ℤ) → length vs ≤ 16 → value (times k a) vs ≡ pos k *ℤ value a vs
unfolding from_parts
value_times k a vs h = multiple_at 16 (pos k) a vs h

less_at : (n : ℕ) (a b : Linear) (vs : List ℤ) → length vs ≤ n →
    (part a 0 +ℤ (negsuc 0 *ℤ part b 0)) +ℤ weighted (tabulate (λ j. part a j +ℤ (negsuc 0 *ℤ part b j)) 1 n) vs ≡ value a vs -ℤ value b vs
less_at n a b vs h =
    let e = weighted_sums (part a) (λ j. negsuc 0 *ℤ part b j) 1 n vs in
    omega (arith, ints, e, weighted_parts n a vs h, multiple_at n (negsuc 0) b vs h)

pub value_less : (a b : Linear) (vs : List ℤ) → length vs ≤ 16 → value (less a b) vs ≡ value a vs -ℤ value b vs
unfolding from_parts
value_less a b vs h = less_at 16 a b vs h

-- a sum of columns is the weighted sum of the rows
rows : (n : ℕ) (cs : List ℤ) (args : List Linear) (vs : List ℤ) →
    weighted (tabulate (λ j. weighted cs (map (λ a. part a j) args)) 1 n) vs ≡ weighted cs (map (λ a. weighted (tabulate (part a) 1 n) vs) args)
rows n [] args vs = weighted_zeros 1 n vs
rows n (c ∷ cs) [] vs = weighted_zeros 1 n vs
rows n (c ∷ cs) (a ∷ args) vs =
    weighted_sums (λ j. c *ℤ part a j) (λ j. weighted cs (map (λ x. part x j) args)) 1 n vs
    ∙ ap₂ (λ x y. x +ℤ y) (weighted_multiples c (part a) 1 n vs) (rows n cs args vs)

weighted_join : (f g : Linear → ℤ) (cs : List ℤ) (args : List Linear) →
    weighted cs (map f args) +ℤ weighted cs (map g args) ≡ weighted cs (map (λ a. f a +ℤ g a) args)
weighted_join f g [] args = omega (arith, ints)
weighted_join f g (c ∷ cs) [] = omega (arith, ints)
weighted_join f g (c ∷ cs) (a ∷ args) = omega (arith, ints, mul_add_ℤ c (f a) (g a), weighted_join f g cs args)

weighted_same : (f g : Linear → ℤ) → ((a : Linear) → f a ≡ g a) → (cs : List ℤ) (args : List Linear) → weighted cs (map f args) ≡ weighted cs (map g args)
weighted_same f g e [] args = refl
weighted_same f g e (c ∷ cs) [] = refl
weighted_same f g e (c ∷ cs) (a ∷ args) = ap₂ (λ x y. (c *ℤ x) +ℤ y) (e a) (weighted_same f g e cs args)

mixed_at : (n : ℕ) (l : Linear) (args : List Linear) (vs : List ℤ) → length vs ≤ n →
    mixed l args 0 +ℤ weighted (tabulate (mixed l args) 1 n) vs ≡ value l (map (λ a. value a vs) args)
mixed_at n l args vs h =
    let own : weighted (tabulate (base_part l) 1 n) vs ≡ pos 0 = ap (λ t. weighted t vs) (tabulate_suc (base_part l) 0 n) ∙ weighted_zeros 0 n vs in
    let apart = weighted_sums (base_part l) (λ j. weighted l.coefficients (map (λ a. part a j) args)) 1 n vs in
    let joined = weighted_join (λ a. a.constant) (λ a. weighted (tabulate (part a) 1 n) vs) l.coefficients args in
    let same = weighted_same (λ a. a.constant +ℤ weighted (tabulate (part a) 1 n) vs) (λ a. value a vs)
    (λ a. ap (λ z. a.constant +ℤ z) (weighted_parts n a vs h)) l.coefficients args in
    omega (arith, ints, own, apart, rows n l.coefficients args vs, joined, same)

-- the value of a term whose variables were replaced
pub value_replaced : (args : List Linear) (l : Linear) (vs : List ℤ) → length vs ≤ 16 → value (replaced args l) vs ≡ value l (map (λ a. value a vs) args)
unfolding from_parts
value_replaced args l vs h = mixed_at 16 l args vs h

pub value_fixed : (z : ℤ) (vs : List ℤ) → value (fixed z) vs ≡ z
value_fixed z vs = omega (arith, ints, weighted_zeros 0 16 vs)
