-- The value of a term that was made from others.
use Rattle.std.proofs.Common.{◌≡◌, ℕ, zero, suc, ◌<◌, ◌≤◌, List, [], ◌∷◌, length, get_or, set, map, sym, ◌∙◌, ap, ap₂, refl, arith, ℤ, pos, ◌+ℤ◌, ◌*ℤ◌, get_or-set_same}
use Rattle.std.proofs.lemmas.Int.{ints}
use Rattle.std.proofs.lemmas.List.{length-map}
use Rattle.rast_cooper.specs.Arithmetic.{Linear, weighted, value, coefficient, put, times, both, added, exchanged}
use Rattle.rast_index.proofs.Whole.{mul_assoc_ℤ, mul_add_ℤ, add_mul_ℤ}

weighted_times : (k : ℤ) (cs vs : List ℤ) → weighted (map (λ c. k *ℤ c) cs) vs ≡ k *ℤ weighted cs vs
weighted_times k [] vs = omega (arith, ints)
weighted_times k (c ∷ cs) [] = omega (arith, ints)
weighted_times k (c ∷ cs) (v ∷ vs) = ap₂ (λ x y. x +ℤ y) (mul_assoc_ℤ k c v) (weighted_times k cs vs) ∙ sym (mul_add_ℤ k (c *ℤ v) (weighted cs vs))

pub value_times : (k : ℤ) (l : Linear) (vs : List ℤ) → value (times k l) vs ≡ k *ℤ value l vs
value_times k l vs = ap (λ z. (k *ℤ l.constant) +ℤ z) (weighted_times k l.coefficients vs) ∙ sym (mul_add_ℤ k l.constant (weighted l.coefficients vs))

weighted_both : (cs ds vs : List ℤ) → weighted (both cs ds) vs ≡ weighted cs vs +ℤ weighted ds vs
weighted_both [] ds vs = omega (arith, ints)
weighted_both (c ∷ cs) [] vs = omega (arith, ints)
weighted_both (c ∷ cs) (d ∷ ds) [] = omega (arith, ints)
weighted_both (c ∷ cs) (d ∷ ds) (v ∷ vs) = omega (arith, ints, add_mul_ℤ c d v, weighted_both cs ds vs)

pub value_added : (a b : Linear) (vs : List ℤ) → value (added a b) vs ≡ value a vs +ℤ value b vs
value_added a b vs = omega (arith, ints, weighted_both a.coefficients b.coefficients vs)

-- a sum, and what x brings to it
weighted_split : (x : ℕ) (cs vs : List ℤ) → weighted cs vs ≡ (get_or cs x (pos 0) *ℤ get_or vs x (pos 0)) +ℤ weighted (set cs x (pos 0)) vs
weighted_split zero [] vs = omega (arith, ints)
weighted_split (suc x) [] vs = omega (arith, ints)
weighted_split zero (c ∷ cs) [] = omega (arith, ints)
weighted_split (suc x) (c ∷ cs) [] = omega (arith, ints)
weighted_split zero (c ∷ cs) (v ∷ vs) = omega (arith, ints)
weighted_split (suc x) (c ∷ cs) (v ∷ vs) = omega (arith, ints, weighted_split x cs vs)

-- where x has no part, its number does not matter
weighted_free : (x : ℕ) (v : ℤ) (cs vs : List ℤ) → weighted (set cs x (pos 0)) (set vs x v) ≡ weighted (set cs x (pos 0)) vs
weighted_free zero v [] vs = refl
weighted_free (suc x) v [] vs = refl
weighted_free zero v (c ∷ cs) [] = refl
weighted_free (suc x) v (c ∷ cs) [] = refl
weighted_free zero v (c ∷ cs) (w ∷ vs) = omega (arith, ints)
weighted_free (suc x) v (c ∷ cs) (w ∷ vs) = ap (λ z. (c *ℤ w) +ℤ z) (weighted_free x v cs vs)

pub get_or_set : (x : ℕ) (v : ℤ) (vs : List ℤ) → x < length vs → get_or (set vs x v) x (pos 0) ≡ v
get_or_set x v vs h = get_or-set_same vs x v (pos 0) h

-- the value where x is v
pub value_at : (x : ℕ) (v : ℤ) (l : Linear) (vs : List ℤ) → x < length vs →
    value l (set vs x v) ≡ (coefficient l x *ℤ v) +ℤ value (put x (pos 0) l) vs
value_at x v l vs h =
    let e : weighted l.coefficients (set vs x v) ≡ (coefficient l x *ℤ v) +ℤ weighted (set l.coefficients x (pos 0)) vs =
    weighted_split x l.coefficients (set vs x v)
    ∙ ap₂ (λ a b. (coefficient l x *ℤ a) +ℤ b) (get_or_set x v vs h) (weighted_free x v l.coefficients vs) in
    omega (arith, ints, e)

-- the value where x is as it is
pub value_here : (x : ℕ) (l : Linear) (vs : List ℤ) → value l vs ≡ (coefficient l x *ℤ get_or vs x (pos 0)) +ℤ value (put x (pos 0) l) vs
value_here x l vs = omega (arith, ints, weighted_split x l.coefficients vs)

pub value_exchanged : (x : ℕ) (t l : Linear) (vs : List ℤ) → x < length vs → value (exchanged x t l) vs ≡ value l (set vs x (value t vs))
value_exchanged x t l vs h =
    value_added (put x (pos 0) l) (times (coefficient l x) t) vs
    ∙ ap (λ z. value (put x (pos 0) l) vs +ℤ z) (value_times (coefficient l x) t vs)
    ∙ (let e = value_at x (value t vs) l vs h in omega (arith, ints, e))

pub get_or-map_times : (k : ℤ) (cs : List ℤ) (x : ℕ) → get_or (map (λ c. k *ℤ c) cs) x (pos 0) ≡ k *ℤ get_or cs x (pos 0)
get_or-map_times k [] zero = omega (arith, ints)
get_or-map_times k [] (suc x) = omega (arith, ints)
get_or-map_times k (c ∷ cs) zero = refl
get_or-map_times k (c ∷ cs) (suc x) = get_or-map_times k cs x

pub coefficient_times : (k : ℤ) (l : Linear) (x : ℕ) → coefficient (times k l) x ≡ k *ℤ coefficient l x
coefficient_times k l x = get_or-map_times k l.coefficients x

pub set_twice : {A : Type 0} (cs : List A) (x : ℕ) (a b : A) → set (set cs x a) x b ≡ set cs x b
set_twice [] x a b = refl
set_twice (c ∷ cs) zero a b = refl
set_twice (c ∷ cs) (suc x) a b = ap (λ z. c ∷ z) (set_twice cs x a b)

get_or_past : (cs : List ℤ) (x : ℕ) → length cs ≤ x → get_or cs x (pos 0) ≡ pos 0
get_or_past [] x h = refl
get_or_past (c ∷ cs) zero h = absurd (omega arith)
get_or_past (c ∷ cs) (suc x) h = get_or_past cs x (omega arith)

-- a term scaled by k in which x, whose coefficient is no zero, stands for m times itself
pub value_scaled : (x : ℕ) (k s m v : ℤ) (l : Linear) (vs : List ℤ) → x < length vs → x < length l.coefficients → s *ℤ m ≡ k *ℤ coefficient l x →
    value (put x s (times k l)) (set vs x (m *ℤ v)) ≡ k *ℤ value l (set vs x v)
value_scaled x k s m v l vs h g e =
    let b : x < length (times k l).coefficients = omega (arith, length-map l.coefficients (λ c. k *ℤ c)) in
    let p = value_at x (m *ℤ v) (put x s (times k l)) vs h in
    let q = value_at x v (times k l) vs h in
    let same : value (put x (pos 0) (put x s (times k l))) vs ≡ value (put x (pos 0) (times k l)) vs =
    ap (λ cs. (k *ℤ l.constant) +ℤ weighted cs vs) (set_twice (times k l).coefficients x s (pos 0)) in
    let c1 : coefficient (put x s (times k l)) x ≡ s = get_or_set x s (times k l).coefficients b in
    p ∙ ap₂ (λ a z. (a *ℤ (m *ℤ v)) +ℤ z) c1 same
    ∙ ap (λ a. a +ℤ value (put x (pos 0) (times k l)) vs) (sym (mul_assoc_ℤ s m v) ∙ ap (λ a. a *ℤ v) (e ∙ sym (coefficient_times k l x)))
    ∙ sym q ∙ value_times k l (set vs x v)
