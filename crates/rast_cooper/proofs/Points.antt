-- Test points: where literals hold at some number, they hold at a bound and less than a period more.
use Rattle.std.proofs.Common.{◌≡◌, ◌⊎◌, inl, inr, ℕ, zero, suc, ◌+◌, ◌*◌, ◌-◌, ◌/◌, ◌%◌, ◌<◌, List, [], ◌∷◌, length, set, sym, ◌∙◌, ap, ap₂, refl, arith, ℤ, pos, negsuc, ◌+ℤ◌, ◌*ℤ◌, ◌≤ℤ◌, Bool, true, false, ◌&&◌, subst, cond, mul_assoc, ⊎_elim, mod-lt, div-add-mod'}
use Rattle.std.proofs.lemmas.Int.{ints, by_lt_z}
use borrow.Author.Differences.{up, down}
use Rattle.rast_cooper.specs.Arithmetic.{Linear, value, coefficient, put}
use Rattle.rast_cooper.specs.declared.literal.Sort.{Sort}
use Rattle.rast_cooper.specs.declared.literal.Sort.TheVariants.{AtLeast, Equals, Multiple, NotMultiple}
use Rattle.rast_cooper.specs.declared.literal.Literal.{Literal}
use Rattle.rast_cooper.specs.Meaning.{Divides, Says, Holds, Hold}
use Rattle.rast_cooper.specs.Eliminate.{is_bound, is_one, is_lower, bound, bounds}
use Rattle.rast_index.proofs.Whole.{mul_assoc_ℤ, mul_add_ℤ, add_mul_ℤ, zero_mul_ℤ}
use Rattle.rast_cooper.proofs.Values.{value_at, value_times}

abbrev pub In : {A : Type 0} → A → List A → Type 0
In a [] = ⊥
In a (x ∷ xs) = (a ≡ x) ⊎ In a xs

-- what a literal's coefficient of the tested variable may be
abbrev pub Ready : ℕ → Sort → ℕ → ℤ → Type 0
Ready period AtLeast d c = (c ≡ pos 0) ⊎ (c ≡ pos 1) ⊎ (c ≡ negsuc 0)
Ready period Equals d c = c ≡ pos 0
Ready period Multiple d c = (c ≡ pos 0) ⊎ ((m : ℕ) × (period ≡ m * d))
Ready period NotMultiple d c = (c ≡ pos 0) ⊎ ((m : ℕ) × (period ≡ m * d))

-- a multiple stays one when a multiple is added
divides_more : (d : ℕ) (z k : ℤ) → Divides d z → Divides d (z +ℤ (k *ℤ pos d))
divides_more d z k (m, e) = (m +ℤ k, ap (λ a. a +ℤ (k *ℤ pos d)) e ∙ sym (add_mul_ℤ m k (pos d)))

-- what c brings, q periods further down
down_by : (c y r : ℤ) (q period d m : ℕ) → period ≡ m * d →
    (c *ℤ (y +ℤ pos (q * period))) +ℤ r ≡ ((c *ℤ y) +ℤ r) +ℤ ((c *ℤ pos (q * m)) *ℤ pos d)
down_by c y r q period d m e =
    let f : pos (q * period) ≡ pos (q * m) *ℤ pos d = ap pos (ap (λ n. q * n) e ∙ sym (mul_assoc q m d)) in
    let g = mul_add_ℤ c y (pos (q * period)) in
    let h : c *ℤ pos (q * period) ≡ (c *ℤ pos (q * m)) *ℤ pos d = ap (λ z. c *ℤ z) f ∙ sym (mul_assoc_ℤ c (pos (q * m)) (pos d)) in
    omega (arith, ints, g, h)

back : (z k : ℤ) (d : ℕ) → Divides d (z +ℤ (k *ℤ pos d)) → Divides d z
back z k d (m, e) =
    let f = add_mul_ℤ m (negsuc 0 *ℤ k) (pos d) in
    let g = mul_assoc_ℤ (negsuc 0) k (pos d) in
    (m +ℤ (negsuc 0 *ℤ k), omega (arith, ints, e, f, g))

none : (c a b r : ℤ) → c ≡ pos 0 → (c *ℤ a) +ℤ r ≡ (c *ℤ b) +ℤ r
none c a b r e = ap (λ z. z +ℤ r) (ap (λ z. z *ℤ a) e ∙ zero_mul_ℤ a ∙ sym (zero_mul_ℤ b) ∙ ap (λ z. z *ℤ b) (sym e))

shift : (period : ℕ) (s : Sort) (d : ℕ) (c y r : ℤ) (q : ℕ) → Ready period s d c →
    (is_bound s ≡ true → c ≡ pos 1 → pos 0 ≤ℤ (y +ℤ r)) →
    Says s d ((c *ℤ (y +ℤ pos (q * period))) +ℤ r) → Says s d ((c *ℤ y) +ℤ r)
shift period AtLeast d c y r q (inl e) low h = subst (λ z. pos 0 ≤ℤ z) (none c _ y r e) h
shift period AtLeast d c y r q (inr (inl e)) low h = subst (λ z. pos 0 ≤ℤ ((z *ℤ y) +ℤ r)) (sym e) (omega (arith, ints, low refl e))
shift period AtLeast d c y r q (inr (inr e)) low h =
    let g = subst (λ z. pos 0 ≤ℤ ((z *ℤ (y +ℤ pos (q * period))) +ℤ r)) e h in
    subst (λ z. pos 0 ≤ℤ ((z *ℤ y) +ℤ r)) (sym e) (omega (arith, ints, g))
shift period Equals d c y r q e low h = none c y _ r e ∙ h
shift period Multiple d c y r q (inl e) low h = subst (λ z. Divides d z) (none c _ y r e) h
shift period Multiple d c y r q (inr (m, e)) low h = back ((c *ℤ y) +ℤ r) (c *ℤ pos (q * m)) d (subst (λ z. Divides d z) (down_by c y r q period d m e) h)
shift period NotMultiple d c y r q (inl e) low h = λ p. h (subst (λ z. Divides d z) (none c y _ r e) p)
shift period NotMultiple d c y r q (inr (m, e)) low h = λ p. h (subst (λ z. Divides d z) (sym (down_by c y r q period d m e)) (divides_more d ((c *ℤ y) +ℤ r) (c *ℤ pos (q * m)) p))

-- one sign of a number
one_is : (c : ℤ) → is_one c ≡ true → c ≡ pos 1
one_is (pos zero) e = absurd (cc)
one_is (pos (suc zero)) e = refl
one_is (pos (suc (suc n))) e = absurd (cc)
one_is (negsuc n) e = absurd (cc)

is_one_of : (c : ℤ) → c ≡ pos 1 → is_one c ≡ true
is_one_of c e = ap is_one e

says_bound : (s : Sort) (d : ℕ) (z : ℤ) → is_bound s ≡ true → Says s d z → pos 0 ≤ℤ z
says_bound AtLeast d z e h = h
says_bound Equals d z e h = absurd (cc)
says_bound Multiple d z e h = absurd (cc)
says_bound NotMultiple d z e h = absurd (cc)

and_true : (a b : Bool) → (a && b) ≡ true → (a ≡ true) × (b ≡ true)
and_true true true e = (refl, refl)
and_true true false e = absurd (cc)
and_true false b e = absurd (cc)

module _ (x period : ℕ) (vs : List ℤ) (inside : x < length vs) where
  at : ℤ → List ℤ
  at y = set vs x y

  abbrev pub AllReady : List Literal → Type 0
  AllReady [] = Unit {0}
  AllReady (lit ∷ ls) = Ready period lit.sort lit.divisor (coefficient lit.term x) × AllReady ls

  holds_at : (lit : Literal) (y : ℤ) → value lit.term (set vs x y) ≡ (coefficient lit.term x *ℤ y) +ℤ value (put x (pos 0) lit.term) vs
  holds_at lit y = value_at x y lit.term vs inside

  -- a bound's value
  bound_is : (lit : Literal) → value (bound x lit) vs ≡ negsuc 0 *ℤ value (put x (pos 0) lit.term) vs
  bound_is lit = value_times (negsuc 0) (put x (pos 0) lit.term) vs

  down_one : (lit : Literal) (y : ℤ) (q : ℕ) → Ready period lit.sort lit.divisor (coefficient lit.term x) →
      (is_lower x lit ≡ true → value (bound x lit) vs ≤ℤ y) →
      Holds lit (set vs x (y +ℤ pos (q * period))) → Holds lit (set vs x y)
  down_one lit y q ready low h =
      let r = value (put x (pos 0) lit.term) vs in
      subst (λ z. Says lit.sort lit.divisor z) (sym (holds_at lit y))
      (shift period lit.sort lit.divisor (coefficient lit.term x) y r q ready
      (λ b e. let g = low (ap₂ (λ s t. s && t) b (is_one_of _ e)) in let f = bound_is lit in omega (arith, ints, g, f))
      (subst (λ z. Says lit.sort lit.divisor z) (holds_at lit (y +ℤ pos (q * period))) h))

  -- a lower bound that holds is one
  bound_below : (lit : Literal) (y : ℤ) → is_lower x lit ≡ true → Holds lit (set vs x y) → value (bound x lit) vs ≤ℤ y
  bound_below lit y e h =
      let parts = and_true _ _ e in
      let r = value (put x (pos 0) lit.term) vs in
      let f = bound_is lit in
      let c1 = one_is _ parts.1 in
      let g : pos 0 ≤ℤ ((pos 1 *ℤ y) +ℤ r) = subst (λ c. pos 0 ≤ℤ ((c *ℤ y) +ℤ r)) c1 (says_bound lit.sort lit.divisor _ parts.0 (subst (λ z. Says lit.sort lit.divisor z) (holds_at lit y) h)) in
      omega (arith, ints, f, g)

  -- each lower bound of literals that hold is at most the number
  below_by : (t : Bool) (lit : Literal) (ls : List Literal) → is_lower x lit ≡ t → (y : ℤ) → Holds lit (set vs x y) →
      ((b : Linear) → In b (bounds x ls) → value b vs ≤ℤ y) → (b : Linear) → In b (cond t (bound x lit ∷ bounds x ls) (bounds x ls)) → value b vs ≤ℤ y
  below_by true lit ls e y h more b (inl same) = subst (λ z. value z vs ≤ℤ y) (sym same) (bound_below lit y e h)
  below_by true lit ls e y h more b (inr there) = more b there
  below_by false lit ls e y h more b there = more b there

  all_below : (ls : List Literal) (y : ℤ) → Hold ls (set vs x y) → (b : Linear) → In b (bounds x ls) → value b vs ≤ℤ y
  all_below [] y h b there = absurd there
  all_below (lit ∷ ls) y h b there = below_by (is_lower x lit) lit ls refl y h.0 (all_below ls y h.1) b there

  in_head : (t : Bool) (lit : Literal) (bs : List Linear) → t ≡ true → In (bound x lit) (cond t (bound x lit ∷ bs) bs)
  in_head true lit bs e = inl refl
  in_head false lit bs e = absurd (cc)

  in_tail : (t : Bool) (a b : Linear) (bs : List Linear) → In b bs → In b (cond t (a ∷ bs) bs)
  in_tail true a b bs h = inr h
  in_tail false a b bs h = h

  down_all : (ls : List Literal) (y : ℤ) (q : ℕ) → AllReady ls → ((b : Linear) → In b (bounds x ls) → value b vs ≤ℤ y) →
      Hold ls (set vs x (y +ℤ pos (q * period))) → Hold ls (set vs x y)
  down_all [] y q ready low h = tt
  down_all (lit ∷ ls) y q ready low h = (
    down_one lit y q ready.0 (λ e. low (bound x lit) (in_head (is_lower x lit) lit (bounds x ls) e)) h.0,
    down_all ls y q ready.1 (λ b there. low b (in_tail (is_lower x lit) (bound x lit) b (bounds x ls) there)) h.1,
  )

  -- the greatest of some bounds
  abbrev Greatest : List Linear → Type 0
  Greatest bs = (b : Linear) × In b bs × ((a : Linear) → In a bs → value a vs ≤ℤ value b vs)

  greatest : (b : Linear) (bs : List Linear) → Greatest (b ∷ bs)
  greatest b [] = (b, inl refl, λ a there. ⊎_elim (λ e. subst (λ z. value z vs ≤ℤ value b vs) (sym e) (omega (arith, ints))) (λ e. absurd e) there)
  greatest b (d ∷ bs) =
      let g = greatest d bs in
      by_lt_z (value g.0 vs) (value b vs)
      (λ lt. (b, inl refl, λ a there. ⊎_elim (λ e. subst (λ z. value z vs ≤ℤ value b vs) (sym e) (omega (arith, ints))) (λ e. let k = g.2 a e in omega (arith, ints, lt, k)) there))
      (λ le. (g.0, inr g.1, λ a there. ⊎_elim (λ e. subst (λ z. value z vs ≤ℤ value g.0 vs) (sym e) le) (λ e. g.2 a e) there))

  pub test_point : (ls : List Literal) (b : Linear) (bs : List Linear) → bounds x ls ≡ b ∷ bs → AllReady ls → 0 < period → (y : ℤ) → Hold ls (set vs x y) →
      (a : Linear) × (j : ℕ) × In a (bounds x ls) × (j < period) × Hold ls (set vs x (value a vs +ℤ pos j))
  test_point ls b bs e ready some y h =
      let g = subst (λ (l : List Linear). Greatest l) (sym e) (greatest b bs) in
      let low = all_below ls y h g.0 g.1 in
      let va = value g.0 vs in
      let n = (up y + down va) - (up va + down y) in
      let j = n % period in
      let q = n / period in
      let up_to : y ≡ (va +ℤ pos j) +ℤ pos (q * period) = omega (arith, ints, low, div-add-mod' n period) in (
        g.0,
        j,
        g.1,
        mod-lt n some,
        down_all ls (va +ℤ pos j) q ready (λ a there. let k = g.2 a there in omega (arith, ints, k))
            (subst (λ z. Hold ls (set vs x z)) up_to h),
      )
