-- Terms and types in which only variables in scope occur.
use Rattle.std.proofs.Common.{◌≡◌, ℕ, zero, suc, ◌+◌, ◌<◌, ◌≤◌, ◌==◌, List, [], ◌∷◌, ◌++◌, length, get_or, map, sym, ◌∙◌, ap, ap₂, refl, arith, ℤ, pos, negsuc, ◌+ℤ◌, ◌*ℤ◌, Bool, true, ◌&&◌, ◌⊎◌, inl, inr, if◌then◌else◌}
use Rattle.std.specs.List.{list_all}
use Rattle.std.proofs.lemmas.Int.{ints}
use Rattle.std.proofs.lemmas.Bool.{ne_eqb}
use Rattle.rast_index.specs.Linear.{Linear, value, weighted, tabulate, part, int_eq, is_closed, variable, replaced, less, plus, base_part, from_parts}
use Rattle.rast_index.proofs.Whole.{zero_mul_ℤ, mul_comm_ℤ}
use Rattle.rast_index.proofs.Values.{weighted_none}
use Rattle.rast_index.proofs.Scope.{both_true, int_eq_true}

-- only variables below n occur, among the first 16
abbrev pub Within : ℕ → Linear → Type 0
Within n l = (j : ℕ) → n ≤ j → j < 16 → part l (suc j) ≡ pos 0

abbrev pub AllWithin : ℕ → List Linear → Type 0
AllWithin n [] = Unit {0}
AllWithin n (l ∷ ls) = Within n l × AllWithin n ls

-- ---- the test tells it

at_or_after : (i j : ℕ) → i ≤ j → (i ≡ j) ⊎ (suc i ≤ j)
at_or_after i j a = grind arith

zero_here : (f : ℕ → ℤ) (i j : ℕ) → f i ≡ pos 0 → (suc i ≤ j → f j ≡ pos 0) → (i ≡ j) ⊎ (suc i ≤ j) → f j ≡ pos 0
zero_here f i j h k (inl e) = ap f (sym e) ∙ h
zero_here f i j h k (inr g) = k g

zero_at : (f : ℕ → ℤ) (i m j : ℕ) → list_all (λ c. int_eq c (pos 0)) (tabulate f i m) ≡ true → i ≤ j → j < i + m → f j ≡ pos 0
zero_at f i zero j h a b = absurd (omega (arith, a, b))
zero_at f i (suc m) j h a b =
    let k = both_true (int_eq (f i) (pos 0)) (list_all (λ c. int_eq c (pos 0)) (tabulate f (suc i) m)) h in
    zero_here f i j (int_eq_true (f i) (pos 0) k.0) (λ g. zero_at f (suc i) m j k.1 g (omega (arith, b))) (at_or_after i j a)

pub within_closed : (n : ℕ) (l : Linear) → is_closed n l ≡ true → Within n l
within_closed n l h = λ j a b. zero_at (λ i. part l (suc i)) n 16 j h a (omega (arith, b))

pub all_within : (n : ℕ) (ls : List Linear) → list_all (is_closed n) ls ≡ true → AllWithin n ls
all_within n [] h = tt
all_within n (l ∷ ls) h = let k = both_true (is_closed n l) (list_all (is_closed n) ls) h in (within_closed n l k.0, all_within n ls k.1)

all_zero : (f : ℕ → ℤ) (i m : ℕ) → ((j : ℕ) → i ≤ j → f j ≡ pos 0) → list_all (λ c. int_eq c (pos 0)) (tabulate f i m) ≡ true
all_zero f i zero h = refl
all_zero f i (suc m) h = ap₂ (λ (a b : Bool). a && b) (ap (λ c. int_eq c (pos 0)) (h i (omega arith))) (all_zero f (suc i) m (λ j a. h j (omega (arith, a))))

pub closed_from : (n : ℕ) (l : Linear) → ((j : ℕ) → n ≤ j → part l (suc j) ≡ pos 0) → is_closed n l ≡ true
closed_from n l h = all_zero (λ j. part l (suc j)) n 16 h

-- ---- more variables in scope

pub within_more : (n : ℕ) (l : Linear) → Within n l → Within (n + 1) l
within_more n l h = λ j a b. h j (omega (arith, a)) b

pub tab_zero : (f : ℕ → ℤ) (i m j : ℕ) → (j < m → f (i + j) ≡ pos 0) → get_or (tabulate f i m) j (pos 0) ≡ pos 0
tab_zero f i zero j h = refl
tab_zero f i (suc m) zero h = ap f (omega arith) ∙ h (omega arith)
tab_zero f i (suc m) (suc j) h = tab_zero f (suc i) m j (λ a. ap f (let e : suc i + j ≡ i + suc j = omega arith in e) ∙ h (omega (arith, a)))

pub within_variable : (n : ℕ) → Within (n + 1) (variable n)
within_variable n = λ j a b. tab_zero (λ (k : ℕ). if k == n then pos 1 else pos 0) 0 16 j (λ c. ap (λ (x : Bool). if x then pos 1 else pos 0) (ne_eqb (0 + j) n (λ e. absurd (omega (arith, a, e)))))

pub all_within_more : (n : ℕ) (ls : List Linear) → AllWithin n ls → AllWithin (n + 1) ls
all_within_more n [] h = tt
all_within_more n (l ∷ ls) h = (within_more n l h.0, all_within_more n ls h.1)

pub all_within_append : (n : ℕ) (ls ms : List Linear) → AllWithin n ls → AllWithin n ms → AllWithin n (ls ++ ms)
all_within_append n [] ms h k = k
all_within_append n (l ∷ ls) ms h k = (h.0, all_within_append n ls ms h.1 k)

-- the arguments under one more binder
pub under_binder : (n : ℕ) (ls : List Linear) → AllWithin n ls → AllWithin (n + 1) (ls ++ variable n ∷ [])
under_binder n ls h = all_within_append (n + 1) ls (variable n ∷ []) (all_within_more n ls h) (within_variable n, tt)

within_le : (m n : ℕ) (l : Linear) → m ≤ n → Within m l → Within n l
within_le m n l e h = λ j a b. h j (omega (arith, e, a)) b

all_variables : (n i m : ℕ) → i + m ≤ n → AllWithin n (tabulate variable i m)
all_variables n i zero h = tt
all_variables n i (suc m) h = (within_le (i + 1) n (variable i) (omega (arith, h)) (within_variable i), all_variables n (suc i) m (omega (arith, h)))

pub variables_within : (n m : ℕ) → m ≤ n → AllWithin n (tabulate variable 0 m)
variables_within n m h = all_variables n 0 m (omega (arith, h))

-- ---- values

zero_weighted : (cs ws : List ℤ) → ((i : ℕ) → i < length ws → get_or cs i (pos 0) ≡ pos 0) → weighted cs ws ≡ pos 0
zero_weighted [] ws h = refl
zero_weighted (c ∷ cs) [] h = refl
zero_weighted (c ∷ cs) (w ∷ ws) h =
    let z = zero_mul_ℤ w in
    let e = ap (λ x. x *ℤ w) (h 0 (omega arith)) in
    omega (arith, ints, z, e, zero_weighted cs ws (λ i a. h (suc i) (omega (arith, a))))

beyond : (cs vs ws : List ℤ) → ((i : ℕ) → length vs ≤ i → i < length vs + length ws → get_or cs i (pos 0) ≡ pos 0) → weighted cs (vs ++ ws) ≡ weighted cs vs
beyond cs [] ws h = zero_weighted cs ws (λ i a. h i (omega arith) (omega (arith, a))) ∙ sym (weighted_none cs)
beyond [] (v ∷ vs) ws h = refl
beyond (c ∷ cs) (v ∷ vs) ws h = ap (λ z. (c *ℤ v) +ℤ z) (beyond cs vs ws (λ i a b. h (suc i) (omega (arith, a)) (omega (arith, b))))

-- more values don't matter
pub value_within : (l : Linear) (vs ws : List ℤ) → length vs + length ws ≤ 16 → Within (length vs) l → value l (vs ++ ws) ≡ value l vs
value_within l vs ws few h = ap (λ z. l.constant +ℤ z) (beyond l.coefficients vs ws (λ i a b. h i a (omega (arith, b, few))))

pub values_within : (ls : List Linear) (vs ws : List ℤ) → length vs + length ws ≤ 16 → AllWithin (length vs) ls → map (λ l. value l (vs ++ ws)) ls ≡ map (λ l. value l vs) ls
values_within [] vs ws few h = refl
values_within (l ∷ ls) vs ws few h = ap₂ (λ x xs. x ∷ xs) (value_within l vs ws few h.0) (values_within ls vs ws few h.1)

-- ---- terms that were made

weighted_nothing : (cs : List ℤ) (f : Linear → ℤ) (args : List Linear) (n : ℕ) → AllWithin n args → ((l : Linear) → Within n l → f l ≡ pos 0) → weighted cs (map f args) ≡ pos 0
weighted_nothing [] f args n h z = refl
weighted_nothing (c ∷ cs) f [] n h z = refl
weighted_nothing (c ∷ cs) f (l ∷ args) n h z =
    let e = ap (λ x. c *ℤ x) (z l h.0) in
    let k = mul_zero c in
    omega (arith, ints, e, k, weighted_nothing cs f args n h.1 z)
  where
    mul_zero : (c : ℤ) → c *ℤ pos 0 ≡ pos 0
    mul_zero c = mul_comm_ℤ c (pos 0) ∙ zero_mul_ℤ c

-- a term with its variables replaced has only those of the arguments
pub closed_replaced : (n : ℕ) (args : List Linear) (l : Linear) → AllWithin n args → is_closed n (replaced args l) ≡ true
unfolding from_parts
closed_replaced n args l h = closed_from n (replaced args l) (λ j a. tab_zero (λ i. base_part l i +ℤ weighted l.coefficients (map (λ x. part x i) args)) 1 16 j (λ b. at j a b))
  where
    at : (j : ℕ) → n ≤ j → j < 16 → base_part l (1 + j) +ℤ weighted l.coefficients (map (λ x. part x (1 + j)) args) ≡ pos 0
    at j a b =
        let one : 1 + j ≡ suc j = omega arith in
        ap (λ i. base_part l i +ℤ weighted l.coefficients (map (λ x. part x i) args)) one
        ∙ (let w = weighted_nothing l.coefficients (λ x. part x (suc j)) args n h (λ m x. x j a b) in omega (arith, ints, w))

pub closed_less : (n : ℕ) (a b : Linear) → Within n a → Within n b → is_closed n (less a b) ≡ true
unfolding from_parts
closed_less n a b h k = closed_from n (less a b) (λ j g. tab_zero (λ i. part a i +ℤ (negsuc 0 *ℤ part b i)) 1 16 j (λ f. at j g f))
  where
    at : (j : ℕ) → n ≤ j → j < 16 → part a (1 + j) +ℤ (negsuc 0 *ℤ part b (1 + j)) ≡ pos 0
    at j g f =
        let one : 1 + j ≡ suc j = omega arith in
        ap (λ i. part a i +ℤ (negsuc 0 *ℤ part b i)) one
        ∙ (let x = h j g f in let y = ap (λ z. negsuc 0 *ℤ z) (k j g f) in omega (arith, ints, x, y))

pub closed_plus : (n : ℕ) (a b : Linear) → Within n a → Within n b → is_closed n (plus a b) ≡ true
unfolding from_parts
closed_plus n a b h k = closed_from n (plus a b) (λ j g. tab_zero (λ i. part a i +ℤ part b i) 1 16 j (λ f. at j g f))
  where
    at : (j : ℕ) → n ≤ j → j < 16 → part a (1 + j) +ℤ part b (1 + j) ≡ pos 0
    at j g f =
        let one : 1 + j ≡ suc j = omega arith in
        ap (λ i. part a i +ℤ part b i) one
        ∙ (let x = h j g f in let y = k j g f in omega (arith, ints, x, y))
