-- One part of a term whose variables are replaced, added up argument by argument.
use Rattle.std.proofs.Common.{◌≡◌, ℕ, ◌+◌, ◌<◌, ◌≤◌, min, inl, inr, arith, List, [], ◌∷◌, length, get_or, drop, map, ◌∙◌, refl, add-one, ℤ, pos, ◌+ℤ◌, ◌*ℤ◌}
use Rattle.std.proofs.Math.Seq.{drop-cons}
use Rattle.std.proofs.lemmas.Bool.{cases_lt}
use Rattle.std.proofs.lemmas.List.{drop_all}
use Rattle.rast_index.specs.Linear.{Linear, weighted, part}

-- the same part of several terms
abbrev pub parts : List Linear → ℕ → List ℤ
parts args j = map (λ a. part a j) args

pub parts_step : (cs : List ℤ) (args : List Linear) (j i : ℕ) (a : Linear) (p : ℤ) → i < length cs → i < length args → a ≡ get_or args i a →
    p ≡ (get_or cs i (pos 0) *ℤ part a j) →
    weighted (drop i cs) (parts (drop i args) j) ≡ (p +ℤ weighted (drop (i + 1) cs) (parts (drop (i + 1) args) j))
parts_step cs args j i a p h k here e = rw (drop-cons cs i (pos 0) h, drop-cons args i a k, add-one, ← here, e) refl

weighted_none : (cs : List ℤ) → weighted cs [] ≡ pos 0
weighted_none [] = refl
weighted_none (c ∷ cs) = refl

-- nothing is added past the last argument, or past the last variable
pub parts_end : (cs : List ℤ) (args : List Linear) (j i : ℕ) → length cs ≡ 16 → min (length args) 16 ≤ i → weighted (drop i cs) (parts (drop i args) j) ≡ pos 0
parts_end cs args j i sized h = elim (cases_lt i (length args)) [
  | inl below ↦ let e : drop i cs ≡ [] = drop_all i cs (omega (arith, sized)) in rw e refl
  | inr past ↦ rw (drop_all i args past) (weighted_none (drop i cs))
]
