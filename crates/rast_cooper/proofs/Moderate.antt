-- The state of a test point that is made of moderate numbers.
use Rattle.std.proofs.Common.{◌≡◌, ℕ, zero, suc, ◌-◌, ◌^◌, ◌<◌, ◌≤◌, Bool, true, false, ◌&&◌, ◌||◌, List, [], ◌∷◌, length, get_or, map, set, sym, ◌∙◌, ap, ap₂, refl, arith, ℤ, pos, ◌+ℤ◌, ◌*ℤ◌, unsigned_abs, subst, cond}
use Rattle.std.specs.List.{list_all, list_any}
use Rattle.std.proofs.lemmas.Int.{ints, unsigned_abs-mul}
use Rattle.std.proofs.lemmas.Nat.{mul-le}
use Rattle.std.proofs.lemmas.Bool.{leb-true}
use Rattle.rast_cooper.specs.declared.literal.Literal.{Literal}
use Rattle.rast_cooper.specs.declared.explore.Course.TheVariants.{Done}
use Rattle.rast_cooper.specs.Arithmetic.{Linear, at_most, bounded, is_bounded, both, coefficient, shifted, exchanged}
use Rattle.rast_cooper.specs.Course.{Explores}
use Rattle.rast_cooper.specs.Eliminate.{has, substituted, at_point}
use Rattle.rast_cooper.specs.Meaning.{literal}
use Rattle.rast_cooper.specs.Moderate.{moderate, is_moderate, are_moderate}
use Rattle.rast_cooper.specs.Search.{state, in_bounds, all_in_bounds, fails}
use Rattle.rast_cooper.proofs.Terms.{and_true, bounded_of}
use Rattle.rast_cooper.proofs.Courses.{explores_ended}

within : (z : ℤ) → moderate z ≡ true → unsigned_abs z ≤ 2 ^ 59
within z e = leb-true (unsigned_abs z) (2 ^ 59) e

-- ---- numbers
sum_within : (a p : ℤ) → unsigned_abs a ≤ 2 ^ 59 → unsigned_abs p ≤ 2 ^ 119 → unsigned_abs (a +ℤ p) ≤ 2 ^ 120
sum_within a p h k = omega (arith, ints, h, k)

product_within : (c z : ℤ) → unsigned_abs c ≤ 2 ^ 59 → unsigned_abs z ≤ 2 ^ 60 → unsigned_abs (c *ℤ z) ≤ 2 ^ 119
product_within c z h k = subst (λ n. n ≤ 2 ^ 119) (sym (unsigned_abs-mul c z)) (mul-le (unsigned_abs c) (unsigned_abs z) (2 ^ 59) (2 ^ 60) h k)

shift_within : (z : ℤ) (j : ℕ) → unsigned_abs z ≤ 2 ^ 59 → j ≤ 2 ^ 59 → unsigned_abs (z +ℤ pos j) ≤ 2 ^ 60
shift_within z j h k = omega (arith, ints, h, k)

sum_bounded : (a c z : ℤ) → unsigned_abs a ≤ 2 ^ 59 → unsigned_abs c ≤ 2 ^ 59 → unsigned_abs z ≤ 2 ^ 60 → bounded (a +ℤ (c *ℤ z)) ≡ true
sum_bounded a c z h k l = bounded_of (a +ℤ (c *ℤ z)) (sum_within a (c *ℤ z) h (product_within c z k l))

near_bounded : (z : ℤ) → moderate z ≡ true → bounded z ≡ true
near_bounded z e = let h = within z e in bounded_of z (omega (arith, h))

product_bounded : (c z : ℤ) → unsigned_abs c ≤ 2 ^ 59 → unsigned_abs z ≤ 2 ^ 60 → bounded (c *ℤ z) ≡ true
product_bounded c z h k = let p = product_within c z h k in bounded_of (c *ℤ z) (omega (arith, p))

-- ---- lists of numbers
get_moderate : (cs : List ℤ) (x : ℕ) → list_all moderate cs ≡ true → unsigned_abs (get_or cs x (pos 0)) ≤ 2 ^ 59
get_moderate [] x h = omega arith
get_moderate (c ∷ cs) zero h = within c (and_true (moderate c) _ h).0
get_moderate (c ∷ cs) (suc x) h = get_moderate cs x (and_true (moderate c) _ h).1

set_moderate : (cs : List ℤ) (x : ℕ) → list_all moderate cs ≡ true → list_all moderate (set cs x (pos 0)) ≡ true
set_moderate [] x h = refl
set_moderate (c ∷ cs) zero h = (and_true (moderate c) _ h).1
set_moderate (c ∷ cs) (suc x) h = let g = and_true (moderate c) _ h in ap₂ (λ a b. a && b) g.0 (set_moderate cs x g.1)

all_near : (cs : List ℤ) → list_all moderate cs ≡ true → list_all bounded cs ≡ true
all_near [] h = refl
all_near (c ∷ cs) h = let g = and_true (moderate c) _ h in ap₂ (λ a b. a && b) (near_bounded c g.0) (all_near cs g.1)

further : (z : ℤ) → moderate z ≡ true → unsigned_abs z ≤ 2 ^ 60
further z e = let h = within z e in omega (arith, h)

both_bounded : (cs ds : List ℤ) (k : ℤ) → list_all moderate cs ≡ true → list_all moderate ds ≡ true → unsigned_abs k ≤ 2 ^ 59 → list_all bounded (both cs (map (λ d. k *ℤ d) ds)) ≡ true
both_bounded [] [] k h e l = refl
both_bounded [] (d ∷ ds) k h e l = let g = and_true (moderate d) _ e in ap₂ (λ a b. a && b) (product_bounded k d l (further d g.0)) (both_bounded [] ds k refl g.1 l)
both_bounded (c ∷ cs) [] k h e l = all_near (c ∷ cs) h
both_bounded (c ∷ cs) (d ∷ ds) k h e l =
    let g = and_true (moderate c) _ h in let m = and_true (moderate d) _ e in
    ap₂ (λ a b. a && b) (sum_bounded c k d (within c g.0) l (further d m.0)) (both_bounded cs ds k g.1 m.1 l)

-- ---- literals
exchanged_bounded : (x j : ℕ) (t l : Linear) → is_moderate t ≡ true → j ≤ 2 ^ 59 → is_moderate l ≡ true → is_bounded (exchanged x (shifted j t) l) ≡ true
exchanged_bounded x j t l h k e =
    let g = and_true (moderate t.constant) _ h in let m = and_true (moderate l.constant) _ e in
    let c = get_moderate l.coefficients x m.1 in
    ap₂ (λ a b. a && b)
    (sum_bounded l.constant (coefficient l x) (t.constant +ℤ pos j) (within l.constant m.0) c (shift_within t.constant j (within t.constant g.0) k))
    (both_bounded (set l.coefficients x (pos 0)) t.coefficients (coefficient l x) (set_moderate l.coefficients x m.1) g.1 c)

put_one : (x j : ℕ) (t : Linear) (lit : Literal) → is_moderate t ≡ true → j ≤ 2 ^ 59 → is_moderate lit.term ≡ true → in_bounds lit ≡ true → in_bounds (substituted x (shifted j t) lit) ≡ true
put_one x j t lit h k e b = by (has x lit) refl
  where
    by : (q : Bool) → has x lit ≡ q → in_bounds (substituted x (shifted j t) lit) ≡ true
    by true f = ap (λ q. in_bounds (cond q (literal lit.sort lit.divisor (exchanged x (shifted j t) lit.term)) lit)) f ∙ ap₂ (λ p q. p && q) (and_true (at_most lit.divisor) _ b).0 (exchanged_bounded x j t lit.term h k e)
    by false f = ap (λ q. in_bounds (cond q (literal lit.sort lit.divisor (exchanged x (shifted j t) lit.term)) lit)) f ∙ b

put_bounded : (x j : ℕ) (t : Linear) (ls : List Literal) → is_moderate t ≡ true → j ≤ 2 ^ 59 → are_moderate ls ≡ true → all_in_bounds ls ≡ true → all_in_bounds (at_point x t j ls) ≡ true
put_bounded x j t [] h k e b = refl
put_bounded x j t (l ∷ ls) h k e b =
    let g = and_true (is_moderate l.term) _ e in let m = and_true (in_bounds l) _ b in
    ap₂ (λ p q. p && q) (put_one x j t l h k g.0 m.0) (put_bounded x j t ls h k g.1 m.1)

-- ---- a state that ends
pub point_ended : (n x : ℕ) (t : Linear) (j : ℕ) (ls rows : List Literal) → all_in_bounds ls ≡ true → all_in_bounds rows ≡ true → is_moderate t ≡ true → j ≤ 2 ^ 59 →
    (are_moderate ls ≡ true) × (are_moderate rows ≡ true) → list_any fails (at_point x t j ls) ≡ true → 0 < n → Explores n (state [] (at_point x t j ls) (at_point x t j rows) ∷ []) (Done (n - 1))
point_ended n x t j ls rows a b h k m e l = explores_ended n (at_point x t j ls) (at_point x t j rows) (put_bounded x j t ls h k m.0 a) (put_bounded x j t rows h k m.1 b) e l

-- ---- a false literal among others
pub any_at : (f : Literal → Literal) (ls : List Literal) (i : ℕ) (lit : Literal) → i < length ls → lit ≡ get_or ls i lit → fails (f lit) ≡ true → list_any fails (map f ls) ≡ true
any_at f [] i lit h e a = absurd (omega arith)
any_at f (l ∷ ls) zero lit h e a = ap (λ b. b || list_any fails (map f ls)) (sym (ap (λ m. fails (f m)) e) ∙ a)
any_at f (l ∷ ls) (suc i) lit h e a = either (fails (f l)) _ (any_at f ls i lit (omega arith) e a)
  where
    either : (a b : Bool) → b ≡ true → (a || b) ≡ true
    either true b e = refl
    either false b e = e
