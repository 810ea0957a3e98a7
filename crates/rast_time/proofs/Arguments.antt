-- Terms at arguments, of which the first sixteen count.
use Rattle.std.proofs.Common.{◌≡◌, ℕ, zero, suc, ◌≤◌, min, List, [], ◌∷◌, map, length, take, ◌∙◌, ap, ap₂, refl, subst, arith, ℤ, ◌+ℤ◌, ◌*ℤ◌, inl, inr, Result}
use Rattle.std.proofs.lemmas.Bool.{cases_lt}
use Rattle.std.proofs.lemmas.List.{take_all}
use mathlib.Core.Path.{fun_ext}
use Rattle.rast_index.specs.Answer.{Fits}
use Rattle.rast_index.specs.Linear.{Linear, weighted, part, base_part, replaced, from_parts, is_small}
use Rattle.rast_index.specs.declared.refusal.Coefficient.{Coefficient}

weighted_take : (n : ℕ) (cs vs : List ℤ) → length cs ≤ n → weighted cs (take n vs) ≡ weighted cs vs
weighted_take n [] vs h = refl
weighted_take zero (c ∷ cs) vs h = absurd (omega arith)
weighted_take (suc n) (c ∷ cs) [] h = refl
weighted_take (suc n) (c ∷ cs) (v ∷ vs) h = ap (λ z. (c *ℤ v) +ℤ z) (weighted_take n cs vs (omega arith))

parts_take : (n j : ℕ) (args : List Linear) → map (λ a. part a j) (take n args) ≡ take n (map (λ a. part a j) args)
parts_take zero j args = refl
parts_take (suc n) j [] = refl
parts_take (suc n) j (a ∷ args) = ap (λ zs. part a j ∷ zs) (parts_take n j args)

-- arguments past the sixteenth do not count
pub replaced_few : (l : Linear) (args : List Linear) → length l.coefficients ≡ 16 → replaced (take (min (length args) 16) args) l ≡ replaced args l
unfolding from_parts
replaced_few l args sized = elim (cases_lt (length args) 16) [
  | inl few ↦ ap (λ xs. replaced xs l) (take_all (min (length args) 16) args (omega arith))
  | inr many ↦
      let sixteen : min (length args) 16 ≡ 16 = omega arith in
      ap (λ k. replaced (take k args) l) sixteen
      ∙ ap from_parts (fun_ext (λ j. ap (λ z. base_part l j +ℤ z) (ap (weighted l.coefficients) (parts_take 16 j args) ∙ weighted_take 16 l.coefficients (map (λ a. part a j) args) (omega (arith, sized)))))
]

-- the same, of a copy of the term
pub put_few : (l m : Linear) (args : List Linear) (k : ℕ) → m ≡ l → length l.coefficients ≡ 16 → k ≡ min (length args) 16 → replaced (take k args) m ≡ replaced args l
put_few l m args k same sized few = ap₂ (λ i t. replaced (take i args) t) few same ∙ replaced_few l args sized

pub fits_few : (l m : Linear) (args : List Linear) (k : ℕ) (r : Result Linear Coefficient) → m ≡ l → length l.coefficients ≡ 16 → k ≡ min (length args) 16 → Fits is_small (replaced (take k args) m) r → Fits is_small (replaced args l) r
fits_few l m args k r same sized few h = subst (λ x. Fits is_small x r) (put_few l m args k same sized few) h
