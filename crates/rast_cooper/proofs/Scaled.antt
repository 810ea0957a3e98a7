-- A literal that is multiplied says the same of a multiple of x.
use Rattle.std.proofs.Common.{◌≡◌, ℕ, zero, suc, ◌*◌, ◌/◌, ◌<◌, ◌↔◌, List, [], ◌∷◌, length, get_or, set, sym, ◌∙◌, ap, refl, arith, ℤ, pos, negsuc, ◌+ℤ◌, ◌*ℤ◌, ◌≤ℤ◌, Bool, true, false, not, subst, unsigned_abs, cond, mul-div_cancel, mul-pos}
use Rattle.std.proofs.lemmas.Int.{ints}
use borrow.Author.Differences.{product_is}
use Rattle.rast_cooper.specs.Arithmetic.{Linear, value, coefficient, put, exchanged}
use Rattle.rast_cooper.specs.declared.literal.Sort.{Sort}
use Rattle.rast_cooper.specs.declared.literal.Sort.TheVariants.{AtLeast, Equals, Multiple, NotMultiple}
use Rattle.rast_cooper.specs.declared.literal.Literal.{Literal}
use Rattle.rast_cooper.specs.Meaning.{Says, Holds, literal}
use Rattle.rast_cooper.specs.Eliminate.{is_zero, sign, has, multiplied, scaled, substituted}
use Rattle.rast_index.proofs.Whole.{mul_assoc_ℤ, mul_comm_ℤ, zero_mul_ℤ}
use Rattle.rast_cooper.proofs.Whole.{cancel}
use Rattle.rast_cooper.proofs.Values.{value_at, value_here, value_exchanged, value_scaled}
use Rattle.rast_cooper.proofs.Multiples.{Of}

at_least_times : (k : ℕ) (z : ℤ) → 0 < k → pos 0 ≤ℤ z → pos 0 ≤ℤ (pos k *ℤ z)
at_least_times k (pos n) h g = omega (arith, ints)
at_least_times k (negsuc n) h g = absurd (omega (arith, ints, g))

at_least_over : (k : ℕ) (z : ℤ) → 0 < k → pos 0 ≤ℤ (pos k *ℤ z) → pos 0 ≤ℤ z
at_least_over k (pos n) h g = omega (arith, ints)
at_least_over k (negsuc n) h g = let p = product_is (pos k) (negsuc n) in let q : 0 < k * suc n = mul-pos h (omega arith) in absurd (omega (arith, ints, g, p, q))

three : (k d : ℕ) (m : ℤ) → pos k *ℤ (m *ℤ pos d) ≡ m *ℤ pos (k * d)
three k d m = sym (mul_assoc_ℤ (pos k) m (pos d)) ∙ ap (λ z. z *ℤ pos d) (mul_comm_ℤ (pos k) m) ∙ mul_assoc_ℤ m (pos k) (pos d)

pub says_times : (s : Sort) (k d : ℕ) (z : ℤ) → 0 < k → Says s d z → Says s (k * d) (pos k *ℤ z)
says_times AtLeast k d z h g = at_least_times k z h g
says_times Equals k d z h g = ap (λ a. pos k *ℤ a) g ∙ (omega (arith, ints))
says_times Multiple k d z h (m, e) = (m, ap (λ a. pos k *ℤ a) e ∙ three k d m)
says_times NotMultiple k d z h g = λ p. g (p.0, cancel k z (p.0 *ℤ pos d) h (p.1 ∙ sym (three k d p.0)))

pub says_over : (s : Sort) (k d : ℕ) (z : ℤ) → 0 < k → Says s (k * d) (pos k *ℤ z) → Says s d z
says_over AtLeast k d z h g = at_least_over k z h g
says_over Equals k d z h g = cancel k z (pos 0) h (g ∙ (omega (arith, ints)))
says_over Multiple k d z h (m, e) = (m, cancel k z (m *ℤ pos d) h (e ∙ sym (three k d m)))
says_over NotMultiple k d z h g = λ p. g (p.0, ap (λ a. pos k *ℤ a) p.1 ∙ three k d p.0)

pub zero_of : (c : ℤ) → not (is_zero c) ≡ false → c ≡ pos 0
zero_of (pos zero) e = refl
zero_of (pos (suc n)) e = absurd (cc)
zero_of (negsuc n) e = absurd (cc)

-- x may be any number where a term does not have it
pub value_without : (x : ℕ) (v : ℤ) (l : Linear) (vs : List ℤ) → x < length vs → coefficient l x ≡ pos 0 → value l (set vs x v) ≡ value (put x (pos 0) l) vs
value_without x v l vs h e = value_at x v l vs h ∙ ap (λ c. (c *ℤ v) +ℤ value (put x (pos 0) l) vs) e ∙ (let z = zero_mul_ℤ v in omega (arith, ints, z))

pub inside_of : (cs : List ℤ) (x : ℕ) → not (is_zero (get_or cs x (pos 0))) ≡ true → x < length cs
inside_of [] x e = absurd (cc)
inside_of (c ∷ cs) zero e = omega arith
inside_of (c ∷ cs) (suc x) e = let r = inside_of cs x e in omega arith

sign_times : (c : ℤ) (l m : ℕ) → not (is_zero c) ≡ true → l ≡ m * unsigned_abs c → sign c *ℤ pos l ≡ pos m *ℤ c
sign_times (pos zero) l m e f = absurd (cc)
sign_times (pos (suc n)) l m e f = omega (arith, ints, f)
sign_times (negsuc n) l m e f = omega (arith, ints, f)

pub quotient : (c : ℤ) (l m : ℕ) → not (is_zero c) ≡ true → l ≡ m * unsigned_abs c → l / unsigned_abs c ≡ m
quotient (pos zero) l m e f = absurd (cc)
quotient (pos (suc n)) l m e f = ap (λ z. z / suc n) f ∙ mul-div_cancel m (omega arith)
quotient (negsuc n) l m e f = ap (λ z. z / suc n) f ∙ mul-div_cancel m (omega arith)

pub above : (m a l : ℕ) → l ≡ m * a → 0 < l → 0 < m
above zero a l e h = absurd (omega arith)
above (suc m) a l e h = omega arith

-- the value of a multiplied literal, where x stands for l times itself
pub value_multiplied : (x l k : ℕ) (lit : Literal) (v : ℤ) (vs : List ℤ) → x < length vs → has x lit ≡ true → l ≡ k * unsigned_abs (coefficient lit.term x) →
    value (multiplied x k lit).term (set vs x (pos l *ℤ v)) ≡ pos k *ℤ value lit.term (set vs x v)
value_multiplied x l k lit v vs h e f =
    value_scaled x (pos k) (sign (coefficient lit.term x)) (pos l) v lit.term vs h (inside_of _ x e) (sign_times _ l k e f)

module _ (x l : ℕ) (some : 0 < l) (lit : Literal) (v : ℤ) (vs : List ℤ) (h : x < length vs) (fits : has x lit ≡ true → Of (unsigned_abs (coefficient lit.term x)) l) where
  Same : Literal → Type 0
  Same scaled = Holds lit (set vs x v) ↔ Holds scaled (set vs x (pos l *ℤ v))

  by : (t : Bool) → has x lit ≡ t → Same (cond t (multiplied x (l / unsigned_abs (coefficient lit.term x)) lit) lit)
  unfolding Same
  by true e =
      let f = fits e in
      let q = quotient _ l f.0 e f.1 in
      let p = above f.0 _ l f.1 some in
      let g = value_multiplied x l f.0 lit v vs h e f.1 in
      subst (λ k. Holds lit (set vs x v) ↔ Holds (multiplied x k lit) (set vs x (pos l *ℤ v))) (sym q) (
        λ a. subst (λ z. Says lit.sort (f.0 * lit.divisor) z) (sym g) (says_times lit.sort f.0 lit.divisor _ p a),
        λ a. says_over lit.sort f.0 lit.divisor _ p (subst (λ z. Says lit.sort (f.0 * lit.divisor) z) g a),
      )
  by false e =
      let z = zero_of _ e in
      let a = value_without x v lit.term vs h z in
      let b = value_without x (pos l *ℤ v) lit.term vs h z in
      (λ k. subst (λ w. Says lit.sort lit.divisor w) (a ∙ sym b) k, λ k. subst (λ w. Says lit.sort lit.divisor w) (b ∙ sym a) k)

  pub scaled_same : Holds lit (set vs x v) ↔ Holds (scaled x l lit) (set vs x (pos l *ℤ v))
  unfolding Same
  scaled_same = by (has x lit) refl

-- a literal with t in the place of x
module _ (x : ℕ) (t : Linear) (lit : Literal) (vs : List ℤ) (h : x < length vs) where
  put_by : (b : Bool) → has x lit ≡ b → Holds (cond b (literal lit.sort lit.divisor (exchanged x t lit.term)) lit) vs ↔ Holds lit (set vs x (value t vs))
  put_by true e = let g = value_exchanged x t lit.term vs h in
      (λ a. subst (λ z. Says lit.sort lit.divisor z) g a, λ a. subst (λ z. Says lit.sort lit.divisor z) (sym g) a)
  put_by false e =
      let z = zero_of _ e in
      let a = value_without x (value t vs) lit.term vs h z in
      let w = zero_mul_ℤ (get_or vs x (pos 0)) in
      let b : value lit.term vs ≡ value (put x (pos 0) lit.term) vs =
      value_here x lit.term vs ∙ ap (λ c. (c *ℤ get_or vs x (pos 0)) +ℤ value (put x (pos 0) lit.term) vs) z ∙ omega (arith, ints, w) in
      (λ k. subst (λ y. Says lit.sort lit.divisor y) (b ∙ sym a) k, λ k. subst (λ y. Says lit.sort lit.divisor y) (a ∙ sym b) k)

  pub substituted_same : Holds (substituted x t lit) vs ↔ Holds lit (set vs x (value t vs))
  substituted_same = put_by (has x lit) refl
