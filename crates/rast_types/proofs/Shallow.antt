-- How many quantifiers stand below one another, at each form of type that has parts with labels.
use Rattle.std.proofs.Common.{◌≡◌, ◌<◌, ◌≤◌, ◌+◌, length, get_or, ℕ, suc, zero, max, Bool, true, false, ◌&&◌, List, [], ◌∷◌, map, sym, ◌∙◌, ap, ap₂, refl, arith}
use Rattle.std.specs.Prelude.{nat_le}
use Rattle.std.specs.List.{list_all}
use Rattle.std.proofs.lemmas.Bool.{le-leb}
use Rattle.std.proofs.lemmas.Bool.Decides.{nat_tests}
use Rattle.rast_types.specs.declared.ty.Ty.{Ty}
use Rattle.rast_types.specs.declared.ty.Ty.TheVariants.{Plus, With, rolls-Plus, rolls-With}
use Rattle.rast_types.specs.declared.ty.Ty.TheOpen as layer
use Rattle.rast_types.specs.declared.ty.Ty.TheFolds.{fold-roll-Ty}
use Rattle.rast_types.specs.Symbolic.{most, binders, binders_step}

-- the greatest of the parts
abbrev pub binders_of : List (ℕ × Ty) → ℕ
binders_of ts = most (map (λ e. binders e.1) ts)

parts_of : (ts : List (ℕ × Ty)) → most (map (λ (e : ℕ × ℕ). e.1) (map (λ (e : ℕ × Ty). (e.0, binders e.1)) ts)) ≡ binders_of ts
parts_of [] = refl
parts_of (t ∷ ts) = ap (max (binders t.1)) (parts_of ts)

pub binders_plus : (ts : List (ℕ × Ty)) → binders (Plus ts) ≡ binders_of ts
binders_plus ts = ap binders (sym (rolls-Plus ts)) ∙ fold-roll-Ty ℕ binders_step (layer.Plus ts) ∙ parts_of ts

pub binders_with : (ts : List (ℕ × Ty)) → binders (With ts) ≡ binders_of ts
binders_with ts = ap binders (sym (rolls-With ts)) ∙ fold-roll-Ty ℕ binders_step (layer.With ts) ∙ parts_of ts

at_most : (a b r : ℕ) → nat_le (max a b) r ≡ (nat_le a r && nat_le b r)
at_most a b r = grind (arith, nat_tests)

pub most_at_most : (ts : List (ℕ × Ty)) (r : ℕ) → nat_le (binders_of ts) r ≡ list_all (λ e. nat_le (binders e.1) r) ts
most_at_most [] r = le-leb 0 r (omega arith)
most_at_most (t ∷ ts) r = at_most (binders t.1) (binders_of ts) r ∙ ap (λ b. nat_le (binders t.1) r && b) (most_at_most ts r)

pub shallow_plus : (ts : List (ℕ × Ty)) (r : ℕ) → nat_le (binders (Plus ts)) r ≡ list_all (λ e. nat_le (binders e.1) r) ts
shallow_plus ts r = ap (λ n. nat_le n r) (binders_plus ts) ∙ most_at_most ts r

pub shallow_with : (ts : List (ℕ × Ty)) (r : ℕ) → nat_le (binders (With ts)) r ≡ list_all (λ e. nat_le (binders e.1) r) ts
shallow_with ts r = ap (λ n. nat_le n r) (binders_with ts) ∙ most_at_most ts r

pub ruleset shallow_choices = (shallow_plus, shallow_with)

pub most_at : (ts : List (ℕ × Ty)) (i : ℕ) (d : ℕ × Ty) → i < length ts → binders (get_or ts i d).1 ≤ binders_of ts
most_at [] i d h = absurd (omega arith)
most_at (t ∷ ts) zero d h = omega arith
most_at (t ∷ ts) (suc i) d h = omega (arith, most_at ts i d (omega arith))

pub choices_room : (n : ℕ) (a : Ty) (ts xs : List (ℕ × Ty)) → a ≡ Plus ts → xs ≡ ts → n + binders a ≤ 16 → n + binders_of xs ≤ 16
choices_room n a ts xs is same h = omega (arith, ap binders is ∙ binders_plus ts, ap binders_of same)

pub more_room : (n : ℕ) (a : Ty) (ts xs : List (ℕ × Ty)) → a ≡ With ts → xs ≡ ts → n + binders a ≤ 16 → n + binders_of xs ≤ 16
more_room n a ts xs is same h = omega (arith, ap binders is ∙ binders_with ts, ap binders_of same)

pub element_room : (n : ℕ) (ts : List (ℕ × Ty)) (i : ℕ) (e : ℕ × Ty) → i < length ts → e ≡ get_or ts i e → n + binders_of ts ≤ 16 → n + binders e.1 ≤ 16
element_room n ts i e h is room = omega (arith, most_at ts i e h, ap (λ x. binders x.1) is)
