-- Whether the numbers of a type are small, at each form of type.
use Rattle.std.proofs.Common.{◌≡◌, ℕ, Bool, ◌&&◌, List, map, sym, ◌∙◌, ap}
use Rattle.std.specs.List.{list_all}
use Rattle.std.proofs.lemmas.List.Folds.{list_all-map}
use Rattle.rast_types.specs.declared.ty.Ty.{Ty}
use Rattle.rast_types.specs.declared.ty.Ty.TheVariants.{Plus, With, rolls-Plus, rolls-With}
use Rattle.rast_types.specs.declared.ty.Ty.TheOpen as layer
use Rattle.rast_types.specs.declared.ty.Ty.TheFolds.{fold-roll-Ty}
use Rattle.rast_types.specs.Symbolic.{is_small_type, small_step}

pub small_plus : (ts : List (ℕ × Ty)) → is_small_type (Plus ts) ≡ list_all (λ e. is_small_type e.1) ts
small_plus ts = ap is_small_type (sym (rolls-Plus ts)) ∙ fold-roll-Ty Bool small_step (layer.Plus ts) ∙ list_all-map (λ (e : ℕ × Bool). e.1) (λ (e : ℕ × Ty). (e.0, is_small_type e.1)) ts

pub small_with : (ts : List (ℕ × Ty)) → is_small_type (With ts) ≡ list_all (λ e. is_small_type e.1) ts
small_with ts = ap is_small_type (sym (rolls-With ts)) ∙ fold-roll-Ty Bool small_step (layer.With ts) ∙ list_all-map (λ (e : ℕ × Bool). e.1) (λ (e : ℕ × Ty). (e.0, is_small_type e.1)) ts
