-- Terms in which only variables below a number occur.
use Rattle.std.proofs.Common.{◌≡◌, ℕ, zero, suc, ◌+◌, ◌-◌, ◌<◌, ◌≤◌, Bool, true, false, not, ◌&&◌, List, [], ◌∷◌, get_or, refl, ap, ap₂, ◌∙◌, arith, subst, ℤ, pos, negsuc, ◌+ℤ◌, ◌*ℤ◌, int_lt, cond, Option, Some, None, IfSome}
use Rattle.std.specs.Prelude.{◌==◌, if◌then◌else◌}
use Rattle.std.specs.List.{list_all}
use Rattle.std.specs.Str.{bytes_eq}
use Rattle.std.proofs.lemmas.Int.{ints}
use Rattle.std.proofs.lemmas.Bool.{ne_eqb}
use Rattle.rast_index.specs.Linear.{Linear, int_eq, is_closed, part, tabulate, from_parts, plus, less, times, fixed, variable}
use Rattle.rast_formula.specs.Scopes.{Bound, Text, FindsBelow, newest_from, variable_of, span, is_scoped}

zero_is : ℤ → Bool
zero_is c = int_eq c (pos 0)

both : (a b : Bool) → (a && b) ≡ true → (a ≡ true) × (b ≡ true)
both true b e = (refl, e)
both false b e = absurd (cc)

equal_zero : (c : ℤ) → int_eq c (pos 0) ≡ true → c ≡ pos 0
equal_zero c e = by (int_lt c (pos 0)) (int_lt (pos 0) c) refl refl e
  where
    by : (p q : Bool) → int_lt c (pos 0) ≡ p → int_lt (pos 0) c ≡ q → (not p && not q) ≡ true → c ≡ pos 0
    by true q f g h = absurd (cc)
    by false true f g h = absurd (cc)
    by false false f g h = omega (arith, ints, f, g)

zero_at : (g : ℕ → ℤ) (n k j : ℕ) → list_all (λ c. int_eq c (pos 0)) (tabulate g n k) ≡ true → n ≤ j → j < n + k → g j ≡ pos 0
zero_at g n zero j h lo hi = absurd (omega arith)
zero_at g n (suc k) j h lo hi = by (λ more. zero_at g (suc n) k j (both _ _ h).1 more (omega arith)) (j - n) refl
  where
    by : (suc n ≤ j → g j ≡ pos 0) → (d : ℕ) → j - n ≡ d → g j ≡ pos 0
    by further zero e = let same : n ≡ j = omega arith in subst (λ x. g x ≡ pos 0) same (equal_zero _ (both _ _ h).0)
    by further (suc d) e = further (omega arith)

zero_all : (g : ℕ → ℤ) (n k : ℕ) → ((j : ℕ) → n ≤ j → g j ≡ pos 0) → list_all (λ c. int_eq c (pos 0)) (tabulate g n k) ≡ true
zero_all g n zero h = refl
zero_all g n (suc k) h = ap₂ (λ a b. a && b) (ap zero_is' (h n (omega arith))) (zero_all g (suc n) k (λ j lo. h j (omega arith)))
  where
    zero_is' : ℤ → Bool
    zero_is' c = int_eq c (pos 0)

part_zero : (f : ℕ → ℤ) (i n j : ℕ) → (j < n → f (i + j) ≡ pos 0) → get_or (tabulate f i n) j (pos 0) ≡ pos 0
part_zero f i zero zero h = refl
part_zero f i zero (suc j) h = refl
part_zero f i (suc n) zero h = let same : i + 0 ≡ i = omega arith in subst (λ k. f k ≡ pos 0) same (h (omega arith))
part_zero f i (suc n) (suc j) h = part_zero f (suc i) n j (λ lt. let same : i + suc j ≡ suc i + j = omega arith in subst (λ k. f k ≡ pos 0) same (h (omega arith)))

-- a term is in scope where its own parts from the number on are zero
from_zero : (n : ℕ) (f : ℕ → ℤ) → ((j : ℕ) → n ≤ j → j < 16 → f (suc j) ≡ pos 0) → is_closed n (from_parts f) ≡ true
unfolding from_parts
from_zero n f h = zero_all (λ j. part (from_parts f) (suc j)) n 16 (λ j lo. part_zero f 1 16 j (λ lt. let same : suc j ≡ 1 + j = omega arith in subst (λ k. f k ≡ pos 0) same (h j lo lt)))

of_scoped : (n : ℕ) (l : Linear) (j : ℕ) → is_scoped n l ≡ true → n ≤ j → j < 16 → part l (suc j) ≡ pos 0
unfolding is_scoped
of_scoped n l j h lo hi = zero_at (λ k. part l (suc k)) n 16 j h lo (omega arith)

pub scoped_plus : (n : ℕ) (a b : Linear) → is_scoped n a ≡ true → is_scoped n b ≡ true → is_scoped n (plus a b) ≡ true
unfolding is_scoped
scoped_plus n a b h g = from_zero n _ (λ j lo hi. ap₂ (λ x y. x +ℤ y) (of_scoped n a j h lo hi) (of_scoped n b j g lo hi))

pub scoped_less : (n : ℕ) (a b : Linear) → is_scoped n a ≡ true → is_scoped n b ≡ true → is_scoped n (less a b) ≡ true
unfolding is_scoped
scoped_less n a b h g = from_zero n _ (λ j lo hi. ap₂ (λ x y. x +ℤ (negsuc 0 *ℤ y)) (of_scoped n a j h lo hi) (of_scoped n b j g lo hi))

times_zero : (k : ℕ) → pos k *ℤ pos 0 ≡ pos 0
times_zero k = omega (arith, ints)

pub scoped_times : (n k : ℕ) (a : Linear) → is_scoped n a ≡ true → is_scoped n (times k a) ≡ true
unfolding is_scoped
scoped_times n k a h = from_zero n _ (λ j lo hi. ap (λ x. pos k *ℤ x) (of_scoped n a j h lo hi) ∙ times_zero k)

pub scoped_fixed : (n : ℕ) (z : ℤ) → is_scoped n (fixed z) ≡ true
unfolding is_scoped
scoped_fixed n z = zero_all (λ j. part (fixed z) (suc j)) n 16 (λ j lo. part_zero (λ k. pos 0) 0 16 j (λ lt. refl))

at_place : ℕ → ℕ → ℤ
at_place p j = if j == p then pos 1 else pos 0

elsewhere : (p k : ℕ) → (k ≡ p → ⊥) → at_place p k ≡ pos 0
unfolding at_place
elsewhere p k e = ap (λ b. cond b (pos 1) (pos 0)) (ne_eqb k p e)

pub scoped_variable : (n k : ℕ) → k < n → is_scoped n (variable k) ≡ true
unfolding is_scoped at_place
scoped_variable n k lt = zero_all (λ j. part (variable k) (suc j)) n 16 (λ j lo. part_zero (at_place k) 0 16 j (λ hi. elsewhere k (0 + j) (λ e. omega arith)))

pub ruleset scoped = (scoped_plus, scoped_less, scoped_times, scoped_fixed, scoped_variable)

-- where a variable is the last of its name, its number is below each bound of all
newest_below : (found : Option ℕ) (m : Text) (s : List Bound) (n : ℕ) → IfSome found (λ k. k < n) → span s ≤ n → IfSome (newest_from found m s) (λ k. k < n)
newest_below found m [] n h le = h
newest_below found m (b ∷ s) n h le = newest_below (if bytes_eq b.name m then Some b.number else found) m s n (by (bytes_eq b.name m)) (omega arith)
  where
    by : (t : Bool) → IfSome (if t then Some b.number else found) (λ k. k < n)
    by true = omega arith
    by false = h

pub finds_below : (s : List Bound) → FindsBelow (span s) (variable_of s)
finds_below s m = newest_below None m s (span s) tt (omega arith)
