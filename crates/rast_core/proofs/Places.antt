-- Changes of a list at places, as lists with items before and after them.
use Rattle.std.proofs.Common.{◌≡◌, ℕ, zero, suc, ◌+◌, ◌<◌, List, [], ◌∷◌, ◌++◌, arith, refl, sym, ap, ◌∙◌, length, take, drop, set, insert, remove}
use Rattle.std.proofs.lemmas.List.{set_split}
use Rattle.rast_core.specs.Words.{Item}

-- one item for another
pub set_at_place : (xs : List Item) (i : ℕ) (x : Item) → i < length xs → set xs i x ≡ take i xs ++ (x ∷ drop (i + 1) xs)
set_at_place xs i x h = let s : suc i ≡ i + 1 = omega arith in set_split xs i x h ∙ ap (λ (k : ℕ). take i xs ++ (x ∷ drop k xs)) s

-- two items for one
two_suc : (xs : List Item) (i : ℕ) (x y : Item) → i < length xs → insert (set xs i x) (suc i) y ≡ take i xs ++ (x ∷ (y ∷ drop (suc i) xs))
two_suc [] i x y h = absurd (omega (arith, h))
two_suc (z ∷ xs) zero x y h = refl
two_suc (z ∷ xs) (suc i) x y h = ap (λ (ys : List Item). z ∷ ys) (two_suc xs i x y (omega (arith, h)))

pub two_at_place : (xs : List Item) (i : ℕ) (x y : Item) → i < length xs → insert (set xs i x) (i + 1) y ≡ take i xs ++ (x ∷ (y ∷ drop (i + 1) xs))
two_at_place xs i x y h =
    let s : i + 1 ≡ suc i = omega arith in
    ap (λ (k : ℕ). insert (set xs i x) k y) s ∙ (two_suc xs i x y h ∙ ap (λ (k : ℕ). take i xs ++ (x ∷ (y ∷ drop k xs))) (sym s))

-- an item for another, and a later one is taken out
later_suc : (xs : List Item) (i j : ℕ) (x : Item) → i < length xs → remove (set xs i x) (suc (i + j)) ≡ take i xs ++ (x ∷ (take j (drop (suc i) xs) ++ drop (suc j) (drop (suc i) xs)))
later_suc [] i j x h = absurd (omega (arith, h))
later_suc (z ∷ xs) zero j x h = let s : zero + j ≡ j = omega arith in ap (λ (k : ℕ). remove (x ∷ xs) (suc k)) s
later_suc (z ∷ xs) (suc i) j x h = let s : suc i + j ≡ suc (i + j) = omega arith in ap (λ (k : ℕ). remove (z ∷ set xs i x) (suc k)) s ∙ ap (λ (ys : List Item). z ∷ ys) (later_suc xs i j x (omega (arith, h)))

pub later_gone : (xs : List Item) (i j : ℕ) (x : Item) → i < length xs → remove (set xs i x) (i + 1 + j) ≡ take i xs ++ (x ∷ (take j (drop (i + 1) xs) ++ drop (j + 1) (drop (i + 1) xs)))
later_gone xs i j x h =
    let s : i + 1 + j ≡ suc (i + j) = omega arith in
    let t : suc i ≡ i + 1 = omega arith in
    let u : suc j ≡ j + 1 = omega arith in
    ap (λ (k : ℕ). remove (set xs i x) k) s ∙ (later_suc xs i j x h ∙ (ap (λ (k : ℕ). take i xs ++ (x ∷ (take j (drop k xs) ++ drop (suc j) (drop k xs)))) t ∙ ap (λ (k : ℕ). take i xs ++ (x ∷ (take j (drop (i + 1) xs) ++ drop k (drop (i + 1) xs)))) u))

-- a later item for another, and the one here is taken out
here_suc : (xs : List Item) (i j : ℕ) (x : Item) → i < length xs → j < length (drop (suc i) xs) → remove (set xs (suc (i + j)) x) i ≡ take i xs ++ (take j (drop (suc i) xs) ++ (x ∷ drop (suc j) (drop (suc i) xs)))
here_suc [] i j x h k = absurd (omega (arith, h))
here_suc (z ∷ xs) zero j x h k = let s : zero + j ≡ j = omega arith in ap (λ (n : ℕ). remove (set (z ∷ xs) (suc n) x) 0) s ∙ set_split xs j x k
here_suc (z ∷ xs) (suc i) j x h k = let s : suc i + j ≡ suc (i + j) = omega arith in ap (λ (n : ℕ). remove (z ∷ set xs n x) (suc i)) s ∙ ap (λ (ys : List Item). z ∷ ys) (here_suc xs i j x (omega (arith, h)) k)

pub here_gone : (xs : List Item) (i j : ℕ) (x : Item) → i < length xs → j < length (drop (i + 1) xs) → remove (set xs (i + 1 + j) x) i ≡ take i xs ++ (take j (drop (i + 1) xs) ++ (x ∷ drop (j + 1) (drop (i + 1) xs)))
here_gone xs i j x h k =
    let s : i + 1 + j ≡ suc (i + j) = omega arith in
    let t : i + 1 ≡ suc i = omega arith in
    let u : suc j ≡ j + 1 = omega arith in
    ap (λ (n : ℕ). remove (set xs n x) i) s ∙ (here_suc xs i j x h (omega (arith, k, ap (λ (n : ℕ). length (drop n xs)) t)) ∙ (ap (λ (n : ℕ). take i xs ++ (take j (drop n xs) ++ (x ∷ drop (suc j) (drop n xs)))) (sym t) ∙ ap (λ (n : ℕ). take i xs ++ (take j (drop (i + 1) xs) ++ (x ∷ drop n (drop (i + 1) xs)))) u))

-- an earlier item for another, and the one here is taken out
earlier_suc : (xs : List Item) (i j : ℕ) (x : Item) → i < length xs → j < i → remove (set xs j x) i ≡ take j (take i xs) ++ (x ∷ (drop (suc j) (take i xs) ++ drop (suc i) xs))
earlier_suc [] i j x h k = absurd (omega (arith, h))
earlier_suc (z ∷ xs) zero j x h k = absurd (omega (arith, k))
earlier_suc (z ∷ xs) (suc i) zero x h k = refl
earlier_suc (z ∷ xs) (suc i) (suc j) x h k = ap (λ (ys : List Item). z ∷ ys) (earlier_suc xs i j x (omega (arith, h)) (omega (arith, k)))

pub earlier_gone : (xs : List Item) (i j : ℕ) (x : Item) → i < length xs → j < i → remove (set xs j x) i ≡ take j (take i xs) ++ (x ∷ (drop (j + 1) (take i xs) ++ drop (i + 1) xs))
earlier_gone xs i j x h k =
    let t : suc i ≡ i + 1 = omega arith in
    let u : suc j ≡ j + 1 = omega arith in
    earlier_suc xs i j x h k ∙ (ap (λ (n : ℕ). take j (take i xs) ++ (x ∷ (drop n (take i xs) ++ drop (suc i) xs))) u ∙ ap (λ (n : ℕ). take j (take i xs) ++ (x ∷ (drop (j + 1) (take i xs) ++ drop n xs))) t)
