-- Literals can be made true exactly where those at one of their test points can.
use Rattle.std.proofs.Common.{◌≡◌, ◌⊎◌, inl, inr, ℕ, zero, suc, ◌+◌, ◌*◌, ◌/◌, ◌<◌, ◌↔◌, List, [], ◌∷◌, ◌++◌, length, get_or, set, map, replicate, sym, ◌∙◌, ap, ap₂, refl, arith, ℤ, pos, negsuc, ◌+ℤ◌, ◌*ℤ◌, ◌≤ℤ◌, Bool, true, false, not, ◌&&◌, subst, unsigned_abs, cond, mul-pos, eqb, eqb-true, T}
use Rattle.std.proofs.Math.Dec.{eqb_refl}
use Rattle.std.proofs.lemmas.Int.{ints}
use Rattle.std.proofs.lemmas.List.{set-get_or, length-map}
use Rattle.rast_index.specs.Linear.{tabulate}
use Rattle.rast_cooper.specs.Arithmetic.{Linear, weighted, value, coefficient, put, times, exchanged, shifted, variable}
use Rattle.rast_cooper.specs.declared.literal.Sort.{Sort}
use Rattle.rast_cooper.specs.declared.literal.Sort.TheVariants.{AtLeast, Equals, Multiple, NotMultiple}
use Rattle.rast_cooper.specs.declared.literal.Literal.{Literal}
use Rattle.rast_cooper.specs.Meaning.{Divides, Says, Holds, Hold, literal}
use Rattle.rast_cooper.specs.Eliminate.{is_divided, is_equation, is_zero, sign, has, halves, multiplied, scaled, substituted, without_equations, period, bounds, prepared_by, at_point}
use Rattle.rast_index.proofs.Whole.{mul_comm_ℤ, zero_mul_ℤ}
use Rattle.rast_cooper.proofs.Values.{value_times, get_or_set}
use Rattle.rast_cooper.specs.Eliminate.{Positive}
use Rattle.rast_cooper.proofs.Multiples.{Of, AllFit, AllDivide, period_divides}
use Rattle.rast_cooper.proofs.Scaled.{scaled_same, substituted_same, inside_of, zero_of, quotient, above}
use Rattle.rast_cooper.proofs.Points.{In, Ready, AllReady, test_point}

pub hold_append : (ls ms : List Literal) (vs : List ℤ) → Hold ls vs → Hold ms vs → Hold (ls ++ ms) vs
hold_append [] ms vs h k = k
hold_append (lit ∷ ls) ms vs h k = (h.0, hold_append ls ms vs h.1 k)

pub hold_split : (ls ms : List Literal) (vs : List ℤ) → Hold (ls ++ ms) vs → Hold ls vs × Hold ms vs
hold_split [] ms vs h = (tt, h)
hold_split (lit ∷ ls) ms vs h = let r = hold_split ls ms vs h.1 in ((h.0, r.0), r.1)

-- ---- equations
says_equation : (s : Sort) (d : ℕ) (z : ℤ) → is_equation s ≡ true → Says s d z → z ≡ pos 0
says_equation Equals d z e h = h
says_equation AtLeast d z e h = absurd (cc)
says_equation Multiple d z e h = absurd (cc)
says_equation NotMultiple d z e h = absurd (cc)

equation_says : (s : Sort) (d : ℕ) (z : ℤ) → is_equation s ≡ true → z ≡ pos 0 → Says s d z
equation_says Equals d z e h = h
equation_says AtLeast d z e h = absurd (cc)
equation_says Multiple d z e h = absurd (cc)
equation_says NotMultiple d z e h = absurd (cc)

and_left : (a b : Bool) → (a && b) ≡ true → a ≡ true
and_left true b e = refl
and_left false b e = absurd (cc)

halves_hold : (lit : Literal) (vs : List ℤ) → is_equation lit.sort ≡ true → Holds lit vs ↔ Hold (halves lit) vs
halves_hold lit vs e =
    let t = value_times (negsuc 0) lit.term vs in
    let z = value lit.term vs in (
      λ h. let g = says_equation lit.sort lit.divisor z e h in (omega (arith, ints, g), (subst (λ w. pos 0 ≤ℤ w) (sym t) (omega (arith, ints, g)), tt)),
      λ h. let g = h.0 in let k = subst (λ w. pos 0 ≤ℤ w) t h.1.0 in equation_says lit.sort lit.divisor z e (omega (arith, ints, g, k)),
    )

parts_same : (b : Bool) (lit : Literal) (vs : List ℤ) → (b ≡ true → is_equation lit.sort ≡ true) → Holds lit vs ↔ Hold (cond b (halves lit) (lit ∷ [])) vs
parts_same true lit vs e = halves_hold lit vs (e refl)
parts_same false lit vs e = (λ h. (h, tt), λ h. h.0)

pub without_same : (x : ℕ) (ls : List Literal) (vs : List ℤ) → Hold ls vs ↔ Hold (without_equations x ls) vs
without_same x [] vs = (λ h. h, λ h. h)
without_same x (lit ∷ ls) vs =
    let b = is_equation lit.sort && has x lit in
    let p = parts_same b lit vs (λ e. and_left _ _ e) in
    let r = without_same x ls vs in (
      λ h. hold_append (cond b (halves lit) (lit ∷ [])) (without_equations x ls) vs (p.0 h.0) (r.0 h.1),
      λ h. let q = hold_split (cond b (halves lit) (lit ∷ [])) (without_equations x ls) vs h in (p.1 q.0, r.1 q.1),
    )

-- ---- multiplied
multiplied_same : (x l : ℕ) (ls : List Literal) (v : ℤ) (vs : List ℤ) → 0 < l → x < length vs → AllFit x l ls →
    Hold ls (set vs x v) ↔ Hold (map (scaled x l) ls) (set vs x (pos l *ℤ v))
multiplied_same x l [] v vs some h fit = (λ k. k, λ k. k)
multiplied_same x l (lit ∷ ls) v vs some h fit =
    let p = scaled_same x l some lit v vs h fit.0 in
    let r = multiplied_same x l ls v vs some h fit.1 in
    (λ k. (p.0 k.0, r.0 k.1), λ k. (p.1 k.0, r.1 k.1))

pub put_all : (x : ℕ) (t : Linear) (ls : List Literal) (vs : List ℤ) → x < length vs → Hold (map (substituted x t) ls) vs ↔ Hold ls (set vs x (value t vs))
put_all x t [] vs h = (λ k. k, λ k. k)
put_all x t (lit ∷ ls) vs h =
    let p = substituted_same x t lit vs h in
    let r = put_all x t ls vs h in
    (λ k. (p.0 k.0, r.0 k.1), λ k. (p.1 k.0, r.1 k.1))

-- ---- the coefficients are 0, 1 and -1
abbrev Unit' : ℤ → Type 0
Unit' c = (c ≡ pos 0) ⊎ (c ≡ pos 1) ⊎ (c ≡ negsuc 0)

abbrev AllPlain : ℕ → List Literal → Type 0
AllPlain x [] = Unit {0}
AllPlain x (lit ∷ ls) = (Unit' (coefficient lit.term x) × (is_equation lit.sort ≡ true → coefficient lit.term x ≡ pos 0)) × AllPlain x ls

abbrev NoEquation : ℕ → List Literal → Type 0
NoEquation x [] = Unit {0}
NoEquation x (lit ∷ ls) = (is_equation lit.sort ≡ true → has x lit ≡ false) × NoEquation x ls

no_equation_append : (x : ℕ) (ls ms : List Literal) → NoEquation x ls → NoEquation x ms → NoEquation x (ls ++ ms)
no_equation_append x [] ms h k = k
no_equation_append x (lit ∷ ls) ms h k = (h.0, no_equation_append x ls ms h.1 k)

no_equation_part : (x : ℕ) (a b : Bool) (lit : Literal) → is_equation lit.sort ≡ a → has x lit ≡ b → NoEquation x (cond (a && b) (halves lit) (lit ∷ []))
no_equation_part x true true lit e f = (λ g. absurd (cc), (λ g. absurd (cc), tt))
no_equation_part x true false lit e f = (λ g. f, tt)
no_equation_part x false b lit e f = (λ g. absurd (cc), tt)

no_equation : (x : ℕ) (ls : List Literal) → NoEquation x (without_equations x ls)
no_equation x [] = tt
no_equation x (lit ∷ ls) = no_equation_append x (cond (is_equation lit.sort && has x lit) (halves lit) (lit ∷ [])) (without_equations x ls) (no_equation_part x (is_equation lit.sort) (has x lit) lit refl refl) (no_equation x ls)

sign_unit : (c : ℤ) → Unit' (sign c)
sign_unit (pos zero) = inl refl
sign_unit (pos (suc n)) = inr (inl refl)
sign_unit (negsuc n) = inr (inr refl)

abbrev PlainOne : ℕ → Literal → Type 0
PlainOne x lit = Unit' (coefficient lit.term x) × (is_equation lit.sort ≡ true → coefficient lit.term x ≡ pos 0)

plain_by : (x k : ℕ) (b : Bool) (lit : Literal) → has x lit ≡ b → (is_equation lit.sort ≡ true → has x lit ≡ false) → PlainOne x (cond b (multiplied x k lit) lit)
plain_by x k true lit e never =
    let i = inside_of _ x e in
    let j : x < length (times (pos k) lit.term).coefficients = omega (arith, length-map lit.term.coefficients (λ c. pos k *ℤ c), i) in
    let c = get_or_set x (sign (coefficient lit.term x)) (times (pos k) lit.term).coefficients j in
    (subst Unit' (sym c) (sign_unit (coefficient lit.term x)), λ q. absurd (let n = never q in cc))
plain_by x k false lit e never = let z = zero_of _ e in (inl z, λ q. z)

plain_scaled : (x l : ℕ) (ls : List Literal) → NoEquation x ls → AllPlain x (map (scaled x l) ls)
plain_scaled x l [] h = tt
plain_scaled x l (lit ∷ ls) h = (plain_by x (l / unsigned_abs (coefficient lit.term x)) (has x lit) lit refl h.0, plain_scaled x l ls h.1)

plain_append : (x : ℕ) (ls ms : List Literal) → AllPlain x ls → AllPlain x ms → AllPlain x (ls ++ ms)
plain_append x [] ms h k = k
plain_append x (lit ∷ ls) ms h k = (h.0, plain_append x ls ms h.1 k)

ready_one : (s : Sort) (n d : ℕ) (c : ℤ) → Unit' c → (is_equation s ≡ true → c ≡ pos 0) → ((not (is_zero c) && is_divided s) ≡ true → Of d n) → Ready n s d c
ready_one AtLeast n d c u e f = u
ready_one Equals n d c u e f = e refl
ready_one Multiple n d (pos zero) u e f = inl refl
ready_one Multiple n d (pos (suc a)) u e f = inr (f refl)
ready_one Multiple n d (negsuc a) u e f = inr (f refl)
ready_one NotMultiple n d (pos zero) u e f = inl refl
ready_one NotMultiple n d (pos (suc a)) u e f = inr (f refl)
ready_one NotMultiple n d (negsuc a) u e f = inr (f refl)

all_ready : (x n : ℕ) (vs : List ℤ) (h : x < length vs) (ls : List Literal) → AllPlain x ls → AllDivide x n ls → AllReady x n vs h ls
all_ready x n vs h [] p d = tt
all_ready x n vs h (lit ∷ ls) p d = (ready_one lit.sort n lit.divisor (coefficient lit.term x) p.0.0 p.0.1 d.0, all_ready x n vs h ls p.1 d.1)

-- ---- divisors stay above 0
pub positive_append : (ls ms : List Literal) → Positive ls → Positive ms → Positive (ls ++ ms)
positive_append [] ms h k = k
positive_append (lit ∷ ls) ms h k = (h.0, positive_append ls ms h.1 k)

positive_part : (b : Bool) (lit : Literal) → (is_divided lit.sort ≡ true → 0 < lit.divisor) → Positive (cond b (halves lit) (lit ∷ []))
positive_part true lit h = (λ e. absurd (cc), (λ e. absurd (cc), tt))
positive_part false lit h = (h, tt)

pub positive_without : (x : ℕ) (ls : List Literal) → Positive ls → Positive (without_equations x ls)
positive_without x [] h = tt
positive_without x (lit ∷ ls) h = positive_append (cond (is_equation lit.sort && has x lit) (halves lit) (lit ∷ [])) (without_equations x ls) (positive_part (is_equation lit.sort && has x lit) lit h.0) (positive_without x ls h.1)

positive_by : (x l : ℕ) (b : Bool) (lit : Literal) → 0 < l → has x lit ≡ b → (has x lit ≡ true → Of (unsigned_abs (coefficient lit.term x)) l) → (is_divided lit.sort ≡ true → 0 < lit.divisor) →
    is_divided (cond b (multiplied x (l / unsigned_abs (coefficient lit.term x)) lit) lit).sort ≡ true → 0 < (cond b (multiplied x (l / unsigned_abs (coefficient lit.term x)) lit) lit).divisor
positive_by x l true lit some e fit h f =
    let m = fit e in
    subst (λ k. 0 < k * lit.divisor) (sym (quotient _ l m.0 e m.1)) (mul-pos (above m.0 _ l m.1 some) (h f))
positive_by x l false lit some e fit h f = h f

pub positive_scaled : (x l : ℕ) (ls : List Literal) → 0 < l → AllFit x l ls → Positive ls → Positive (map (scaled x l) ls)
positive_scaled x l [] some fit h = tt
positive_scaled x l (lit ∷ ls) some fit h = (positive_by x l (has x lit) lit some refl fit.0 h.0, positive_scaled x l ls some fit.1 h.1)

pub positive_put : (x : ℕ) (t : Linear) (ls : List Literal) → Positive ls → Positive (map (substituted x t) ls)
positive_put x t [] h = tt
positive_put x t (lit ∷ ls) h = (by (has x lit), positive_put x t ls h.1)
  where
    by : (b : Bool) → is_divided (cond b (literal lit.sort lit.divisor (exchanged x t lit.term)) lit).sort ≡ true → 0 < (cond b (literal lit.sort lit.divisor (exchanged x t lit.term)) lit).divisor
    by true e = h.0 e
    by false e = h.0 e

-- ---- a variable by itself
pub unequal : (j x : ℕ) → (j ≡ x → ⊥) → eqb j x ≡ false
unequal j x h = by (eqb j x) refl
  where
    by : (b : Bool) → eqb j x ≡ b → b ≡ false
    by true e = absurd (h (eqb-true j x e))
    by false e = refl

pub equal : (n : ℕ) → eqb n n ≡ true
equal n = by (eqb n n) (eqb_refl n)
  where
    by : (b : Bool) → T b → b ≡ true
    by true t = refl
    by false t = absurd t

zeros : (x i n : ℕ) → x < i → tabulate (λ j. cond (eqb j x) (pos 1) (pos 0)) i n ≡ replicate n (pos 0)
zeros x i zero h = refl
zeros x i (suc n) h = ap₂ (λ a b. a ∷ b) (ap (λ t. cond t (pos 1) (pos 0)) (unequal i x (λ e. omega (arith, e)))) (zeros x (suc i) n (omega arith))

one_only : (x i k n : ℕ) → x ≡ i + k → tabulate (λ j. cond (eqb j x) (pos 1) (pos 0)) i n ≡ set (replicate n (pos 0)) k (pos 1)
one_only x i k zero e = refl
one_only x i zero (suc n) e = ap₂ (λ a b. a ∷ b) (ap (λ t. cond t (pos 1) (pos 0)) (ap (eqb i) (sym (let f : i ≡ x = omega arith in f)) ∙ equal i)) (zeros x (suc i) n (omega arith))
one_only x i (suc k) (suc n) e = ap₂ (λ a b. a ∷ b) (ap (λ t. cond t (pos 1) (pos 0)) (unequal i x (λ f. omega arith))) (one_only x (suc i) k n (omega arith))

pub variable_is : (x : ℕ) → variable x ≡ put x (pos 1) (record { constant = pos 0; coefficients = replicate 16 (pos 0) })
variable_is x = ap (λ cs. record { constant = pos 0; coefficients = cs }) (one_only x 0 x 16 (omega arith))

weighted_none : (n : ℕ) (vs : List ℤ) → weighted (replicate n (pos 0)) vs ≡ pos 0
weighted_none zero vs = refl
weighted_none (suc n) [] = refl
weighted_none (suc n) (v ∷ vs) = let z = zero_mul_ℤ v in let r = weighted_none n vs in omega (arith, ints, z, r)

weighted_one : (n x : ℕ) (vs : List ℤ) → x < n → weighted (set (replicate n (pos 0)) x (pos 1)) vs ≡ get_or vs x (pos 0)
weighted_one zero x vs h = absurd (omega arith)
weighted_one (suc n) zero [] h = refl
weighted_one (suc n) (suc x) [] h = refl
weighted_one (suc n) zero (v ∷ vs) h = let r = weighted_none n vs in omega (arith, ints, r)
weighted_one (suc n) (suc x) (v ∷ vs) h = let z = zero_mul_ℤ v in let r = weighted_one n x vs (omega arith) in omega (arith, ints, z, r)

pub value_variable : (x : ℕ) (vs : List ℤ) → x < 16 → value (variable x) vs ≡ get_or vs x (pos 0)
value_variable x vs h = let r = weighted_one 16 x vs h in ap (λ l. value l vs) (variable_is x) ∙ omega (arith, ints, r)

pub coefficient_variable : (x : ℕ) → x < 16 → coefficient (variable x) x ≡ pos 1
coefficient_variable x h = ap (λ l. coefficient l x) (variable_is x) ∙ get_or_set x (pos 1) (replicate 16 (pos 0)) h

-- ---- the point as a whole
module _ (x : ℕ) (small : x < 16) (ls : List Literal) (some : Positive ls) (least : ℕ) (facts : (0 < least) × AllFit x least (without_equations x ls)) where
  abbrev pub split : List Literal
  split = without_equations x ls

  abbrev pub ready : List Literal
  ready = prepared_by x least split

  abbrev pub span : ℕ
  span = period x ready

  pub positive_ready : Positive ready
  positive_ready = positive_append (map (scaled x least) split) _ (positive_scaled x least split facts.0 facts.1 (positive_without x ls some)) (λ e. facts.0, tt)

  periods : (0 < span) × AllDivide x span ready
  periods = period_divides x ready positive_ready

  ready_is : (vs : List ℤ) (h : x < length vs) → AllReady x span vs h ready
  ready_is vs h = all_ready x span vs h ready
      (plain_append x (map (scaled x least) split) _ (plain_scaled x least split (no_equation x ls)) ((inr (inl (coefficient_variable x small)), λ e. absurd (cc)), tt))
      periods.1

  -- where x has the number v, and where it is l times that
  at_multiple : (v : ℤ) (vs : List ℤ) → x < length vs → Hold ls (set vs x v) ↔ Hold ready (set vs x (pos least *ℤ v))
  at_multiple v vs h =
      let p = without_same x ls (set vs x v) in
      let q = multiplied_same x least split v vs facts.0 h facts.1 in
      let here : value (variable x) (set vs x (pos least *ℤ v)) ≡ pos least *ℤ v = value_variable x _ small ∙ get_or_set x _ vs h in (
        λ k. hold_append (map (scaled x least) split) _ _ (q.0 (p.0 k)) ((v, here ∙ mul_comm_ℤ (pos least) v), tt),
        λ k. p.1 (q.1 (hold_split (map (scaled x least) split) _ _ k).0),
      )

  -- from the literals to a test point, with the other numbers as they were
  pub forward : (b : Linear) (bs : List Linear) → bounds x ready ≡ b ∷ bs → (vs : List ℤ) → x < length vs → Hold ls vs →
      (a : Linear) × (j : ℕ) × In a (bounds x ready) × (j < span) × Hold (at_point x a j ready) vs
  forward b bs e vs h k =
      let v = get_or vs x (pos 0) in
      let here : Hold ls (set vs x v) = subst (λ ws. Hold ls ws) (sym (set-get_or vs x (pos 0))) k in
      let t = test_point x span vs h ready b bs e (ready_is vs h) periods.0 (pos least *ℤ v) ((at_multiple v vs h).0 here) in
      let same : value t.0 vs +ℤ pos t.1 ≡ value (shifted t.1 t.0) vs = omega (arith, ints) in
      (t.0, t.1, t.2, t.3, (put_all x (shifted t.1 t.0) ready vs h).1 (subst (λ z. Hold ready (set vs x z)) same t.4))

  -- and back
  pub backward : (a : Linear) (j : ℕ) (vs : List ℤ) → x < length vs → Hold (at_point x a j ready) vs → (v : ℤ) × (value (shifted j a) vs ≡ pos least *ℤ v) × Hold ls (set vs x v)
  backward a j vs h k =
      let w = value (shifted j a) vs in
      let g = (put_all x (shifted j a) ready vs h).0 k in
      let last = hold_split (map (scaled x least) split) _ (set vs x w) g in
      let d : Divides least (value (variable x) (set vs x w)) = last.1.0 in
      let here : value (variable x) (set vs x w) ≡ w = value_variable x _ small ∙ get_or_set x w vs h in
      let e : w ≡ pos least *ℤ d.0 = sym here ∙ d.1 ∙ mul_comm_ℤ d.0 (pos least) in
      (d.0, e, (at_multiple d.0 vs h).1 (subst (λ z. Hold ready (set vs x z)) e g))
