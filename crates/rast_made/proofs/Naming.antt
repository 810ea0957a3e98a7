-- The names of a type, at each form of type that has parts with labels.
use Rattle.std.proofs.Common.{◌≡◌, ℕ, Bool, ◌&&◌, List, [], ◌∷◌, map, sym, ◌∙◌, ap, refl}
use Rattle.std.specs.List.{list_all}
use Rattle.rast_types.specs.Closed.{Table}
use Rattle.rast_types.specs.declared.ty.Ty.{Ty}
use Rattle.rast_types.specs.declared.ty.Ty.TheVariants.{Plus, With, rolls-Plus, rolls-With}
use Rattle.rast_types.specs.declared.ty.Ty.TheOpen as layer
use Rattle.rast_types.specs.declared.ty.Ty.TheFolds.{fold-roll-Ty}
use Rattle.rast_equal.specs.WellMadeTypes.{is_named, named_step}

-- a test of each part, after it was put in the part's place
pub parts_of : (f : Ty → Bool) (ts : List (ℕ × Ty)) → list_all (λ (e : ℕ × Bool). e.1) (map (λ (e : ℕ × Ty). (e.0, f e.1)) ts) ≡ list_all (λ e. f e.1) ts
parts_of f [] = refl
parts_of f (t ∷ ts) = ap (λ b. f t.1 && b) (parts_of f ts)

pub named_plus : (t : Table) (ts : List (ℕ × Ty)) → is_named t (Plus ts) ≡ list_all (λ e. is_named t e.1) ts
named_plus t ts = ap (is_named t) (sym (rolls-Plus ts)) ∙ fold-roll-Ty Bool (named_step t) (layer.Plus ts) ∙ parts_of (is_named t) ts

pub named_with : (t : Table) (ts : List (ℕ × Ty)) → is_named t (With ts) ≡ list_all (λ e. is_named t e.1) ts
named_with t ts = ap (is_named t) (sym (rolls-With ts)) ∙ fold-roll-Ty Bool (named_step t) (layer.With ts) ∙ parts_of (is_named t) ts

pub named_in_plus : (t : Table) (a : Ty) (ts xs : List (ℕ × Ty)) (b : Bool) → a ≡ Plus ts → xs ≡ ts → b ≡ list_all (λ e. is_named t e.1) xs → b ≡ is_named t a
named_in_plus t a ts xs b e f h = h ∙ ap (list_all (λ (e : ℕ × Ty). is_named t e.1)) f ∙ sym (named_plus t ts) ∙ ap (is_named t) (sym e)

pub named_in_with : (t : Table) (a : Ty) (ts xs : List (ℕ × Ty)) (b : Bool) → a ≡ With ts → xs ≡ ts → b ≡ list_all (λ e. is_named t e.1) xs → b ≡ is_named t a
named_in_with t a ts xs b e f h = h ∙ ap (list_all (λ (e : ℕ × Ty). is_named t e.1)) f ∙ sym (named_with t ts) ∙ ap (is_named t) (sym e)
