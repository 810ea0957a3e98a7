-- One more product of a weighted sum, and its end.
use Rattle.std.proofs.Common.{◌≡◌, ℕ, ◌+◌, ◌<◌, ◌≤◌, List, [], ◌∷◌, length, get_or, drop, map, refl, add-one, ℤ, pos, ◌+ℤ◌, ◌*ℤ◌}
use Rattle.std.proofs.Math.Seq.{drop-cons}
use Rattle.std.proofs.lemmas.List.{drop_all}
use Rattle.rast_index.specs.Linear.{Linear, weighted, whole, part}

pub weighted_step : (cs : List ℤ) (vs : List ℕ) (i : ℕ) (p : ℤ) → i < length cs → i < length vs →
    p ≡ (get_or cs i (pos 0) *ℤ pos (get_or vs i 0)) →
    weighted (drop i cs) (whole (drop i vs)) ≡ (p +ℤ weighted (drop (i + 1) cs) (whole (drop (i + 1) vs)))
weighted_step cs vs i p h k e = rw (drop-cons cs i (pos 0) h, drop-cons vs i 0 k, add-one, e) refl

pub parts_step : (cs : List ℤ) (args : List Linear) (j i : ℕ) (a : Linear) (p : ℤ) → i < length cs → i < length args → a ≡ get_or args i a →
    p ≡ (get_or cs i (pos 0) *ℤ part a j) →
    weighted (drop i cs) (map (λ a. part a j) (drop i args)) ≡ (p +ℤ weighted (drop (i + 1) cs) (map (λ a. part a j) (drop (i + 1) args)))
parts_step cs args j i a p h k here e = rw (drop-cons cs i (pos 0) h, drop-cons args i a k, add-one, ← here, e) refl

weighted_none : (cs : List ℤ) → weighted cs [] ≡ pos 0
weighted_none [] = refl
weighted_none (c ∷ cs) = refl

pub parts_end : (cs : List ℤ) (args : List Linear) (j i : ℕ) → length args ≤ i → weighted (drop i cs) (map (λ a. part a j) (drop i args)) ≡ pos 0
parts_end cs args j i h = rw (drop_all i args h) (weighted_none (drop i cs))
