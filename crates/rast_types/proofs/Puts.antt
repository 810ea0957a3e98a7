-- Types with their variables replaced, at each form of type that has a list in it.
use Rattle.std.proofs.Common.{◌≡◌, ℕ, zero, suc, ◌+◌, ◌<◌, ◌≤◌, max, Bool, true, false, ◌&&◌, List, [], ◌∷◌, length, get_or, map, Ok, Err, sym, ◌∙◌, ap, ap₂, refl, arith}
use Rattle.std.specs.List.{list_all}
use Rattle.rast_index.specs.Linear.{Linear, is_small, replaced}
use Rattle.rast_index.specs.Answer.{Gives}
use Rattle.rast_index.specs.declared.refusal.IndexErr.{IndexErr}
use Rattle.rast_index.specs.declared.refusal.IndexErr.TheVariants.{Coefficient, Variables, Memory}
use Rattle.rast_types.specs.declared.ty.Ty.{Ty}
use Rattle.rast_types.specs.declared.ty.Ty.TheVariants.{Plus, With, Named, rolls-Plus, rolls-With, rolls-Named}
use Rattle.rast_types.specs.declared.ty.Ty.TheOpen as layer
use Rattle.rast_types.specs.declared.ty.Ty.TheFolds.{fold-roll-Ty}
use Rattle.rast_types.specs.Symbolic.{put_type, put_step, is_small_type, small_step, binders, most}
use Rattle.rast_types.proofs.Small.{small_plus, small_with}

-- what the parts of a choice become
abbrev pub put_choices : ℕ → List Linear → List (ℕ × Ty) → List (ℕ × Ty)
put_choices n args ts = map (λ e. (e.0, put_type n args e.1)) ts

abbrev pub are_small : List (ℕ × Ty) → Bool
are_small = list_all (λ e. is_small_type e.1)

pub parts_put : (n : ℕ) (args : List Linear) (ts : List (ℕ × Ty)) →
    map (λ (e : ℕ × (ℕ → List Linear → Ty)). (e.0, e.1 n args)) (map (λ (e : ℕ × Ty). (e.0, λ m bs. put_type m bs e.1)) ts) ≡ put_choices n args ts
parts_put n args [] = refl
parts_put n args (t ∷ ts) = ap (λ us. (t.0, put_type n args t.1) ∷ us) (parts_put n args ts)

pub put_plus : (n : ℕ) (args : List Linear) (ts : List (ℕ × Ty)) → put_type n args (Plus ts) ≡ Plus (put_choices n args ts)
put_plus n args ts = ap (put_type n args) (sym (rolls-Plus ts)) ∙ ap (λ g. g n args) (fold-roll-Ty (ℕ → List Linear → Ty) put_step (layer.Plus ts)) ∙ ap Plus (parts_put n args ts)

pub put_with : (n : ℕ) (args : List Linear) (ts : List (ℕ × Ty)) → put_type n args (With ts) ≡ With (put_choices n args ts)
put_with n args ts = ap (put_type n args) (sym (rolls-With ts)) ∙ ap (λ g. g n args) (fold-roll-Ty (ℕ → List Linear → Ty) put_step (layer.With ts)) ∙ ap With (parts_put n args ts)

pub put_named : (n : ℕ) (args : List Linear) (k : ℕ) (es : List Linear) → put_type n args (Named k es) ≡ Named k (map (replaced args) es)
put_named n args k es = ap (put_type n args) (sym (rolls-Named k es)) ∙ ap (λ g. g n args) (fold-roll-Ty (ℕ → List Linear → Ty) put_step (layer.Named k es))

pub small_named : (k : ℕ) (es : List Linear) → is_small_type (Named k es) ≡ list_all is_small es
small_named k es = ap is_small_type (sym (rolls-Named k es)) ∙ fold-roll-Ty Bool small_step (layer.Named k es)

-- what the answer at the parts makes of the answer at the whole
module _ (n : ℕ) (args : List Linear) (a : Ty) (ts xs : List (ℕ × Ty)) where
  pub plus_ok : a ≡ Plus ts → xs ≡ ts → (out : List (ℕ × Ty)) → (out ≡ put_choices n args xs) × (are_small (put_choices n args xs) ≡ true) →
      (Plus out ≡ put_type n args a) × (is_small_type (put_type n args a) ≡ true)
  plus_ok is same out h = (rw (is, put_plus, ← same) (ap Plus h.0), rw (is, put_plus, ← same, small_plus) h.1)

  pub plus_err : a ≡ Plus ts → xs ≡ ts → (e : IndexErr) → Gives are_small (put_choices n args xs) (Err e) → Gives is_small_type (put_type n args a) (Err e)
  plus_err is same Coefficient h = rw (is, put_plus, ← same, small_plus) h
  plus_err is same Variables h = h
  plus_err is same Memory h = tt

  pub with_ok : a ≡ With ts → xs ≡ ts → (out : List (ℕ × Ty)) → (out ≡ put_choices n args xs) × (are_small (put_choices n args xs) ≡ true) →
      (With out ≡ put_type n args a) × (is_small_type (put_type n args a) ≡ true)
  with_ok is same out h = (rw (is, put_with, ← same) (ap With h.0), rw (is, put_with, ← same, small_with) h.1)

  pub with_err : a ≡ With ts → xs ≡ ts → (e : IndexErr) → Gives are_small (put_choices n args xs) (Err e) → Gives is_small_type (put_type n args a) (Err e)
  with_err is same Coefficient h = rw (is, put_with, ← same, small_with) h
  with_err is same Variables h = h
  with_err is same Memory h = tt

module _ (n : ℕ) (args : List Linear) (a : Ty) (k : ℕ) (es xs : List Linear) where
  pub named_ok : a ≡ Named k es → xs ≡ es → (out : List Linear) → (out ≡ map (replaced args) xs) × (list_all is_small (map (replaced args) xs) ≡ true) →
      (Named k out ≡ put_type n args a) × (is_small_type (put_type n args a) ≡ true)
  named_ok is same out h = (rw (is, put_named, ← same) (ap (Named k) h.0), rw (is, put_named, ← same, small_named) h.1)

  pub named_err : a ≡ Named k es → xs ≡ es → (e : IndexErr) → Gives (list_all is_small) (map (replaced args) xs) (Err e) → Gives is_small_type (put_type n args a) (Err e)
  named_err is same Coefficient h = rw (is, put_named, ← same, small_named) h
  named_err is same Variables h = h
  named_err is same Memory h = tt
