-- In a type with its variables replaced, and in what is exposed, each name is defined and has its number of arguments.
use Rattle.std.proofs.Common.{◌≡◌, ℕ, ◌+◌, Bool, true, ◌&&◌, List, [], ◌∷◌, ◌++◌, map, Option, Some, None, slice_get, refl, sym, ap, ap₂, ◌∙◌, subst}
use Rattle.std.specs.List.{list_all}
use Rattle.std.proofs.lemmas.List.{length-map}
use Rattle.rast_index.specs.Linear.{Linear, replaced, variable}
use Rattle.rast_types.specs.declared.table.TypeDef.{TypeDef}
use Rattle.rast_types.specs.declared.ty.Ty.{Ty, out-Ty, roll-Ty, out-roll-Ty}
use Rattle.rast_types.specs.declared.ty.Ty.TheOpen.{Ty-F, One, Plus, With, Tensor, Lolli, Named, Ex, All, Assert, Assume, Pays, Gets, Next}
use Rattle.rast_types.specs.declared.ty.Ty.TheFolds.{map-Ty, ind-Ty}
use Rattle.rast_types.specs.Closed.{Table, Layer}
use Rattle.rast_types.specs.Symbolic.{put_type, opened, opened_layer, body_at, timed, timed_layer, exposed_type}
use Rattle.rast_equal.specs.WellMadeTypes.{is_named, takes_so_many}
use Rattle.rast_types.proofs.Layers.{put_layer, out_put}
use Rattle.rast_equal.proofs.WellFormed.{named_layer, named_out, named_at}

-- ---- types with their variables replaced

abbrev Such : (Ty → Type 0) → Type 0
Such P = (a : Ty) × P a

module _ (t : Table) where
  Kept : Ty → Type 0
  Kept a = (n : ℕ) (args : List Linear) → is_named t (put_type n args a) ≡ is_named t a

  abbrev bare_entry : (ℕ × Such Kept) → ℕ × Ty
  bare_entry e = (e.0, e.1.0)

  abbrev put_entry : ℕ → List Linear → (ℕ × Ty) → ℕ × Ty
  put_entry n args e = (e.0, put_type n args e.1)

  kept_entries : (n : ℕ) (args : List Linear) (ys : List (ℕ × Such Kept)) → list_all {X = ℕ × Ty} (λ e. is_named t e.1) (map (put_entry n args) (map bare_entry ys)) ≡ list_all {X = ℕ × Ty} (λ e. is_named t e.1) (map bare_entry ys)
  unfolding Kept
  kept_entries n args [] = refl
  kept_entries n args (y ∷ ys) = ap₂ (λ (a b : Bool). a && b) (y.1.1 n args) (kept_entries n args ys)

  kept_at : (x : Layer) → ((n : ℕ) (args : List Linear) → named_layer t (put_layer n args x) ≡ named_layer t x) → Kept (roll-Ty x)
  unfolding Kept
  kept_at x f n args =
      named_out t (put_type n args (roll-Ty x)) ∙ (ap (named_layer t) (out_put n args (roll-Ty x) ∙ ap (put_layer n args) (out-roll-Ty x)) ∙ (f n args ∙ sym (named_out t (roll-Ty x) ∙ ap (named_layer t) (out-roll-Ty x))))

  kept_step : (y : Ty-F (Such Kept)) → Kept (roll-Ty (map-Ty (Such Kept) Ty (λ e. e.0) y))
  unfolding Kept
  kept_step One = kept_at One (λ n args. refl)
  kept_step (Plus ts) = kept_at (Plus (map bare_entry ts)) (λ n args. kept_entries n args ts)
  kept_step (With ts) = kept_at (With (map bare_entry ts)) (λ n args. kept_entries n args ts)
  kept_step (Tensor a b) = kept_at (Tensor a.0 b.0) (λ n args. ap₂ (λ (x y : Bool). x && y) (a.1 n args) (b.1 n args))
  kept_step (Lolli a b) = kept_at (Lolli a.0 b.0) (λ n args. ap₂ (λ (x y : Bool). x && y) (a.1 n args) (b.1 n args))
  kept_step (Named k es) = kept_at (Named k es) (λ n args. ap (takes_so_many (slice_get t k)) (length-map es (replaced args)))
  kept_step (Ex a) = kept_at (Ex a.0) (λ n args. a.1 (n + 1) (args ++ variable n ∷ []))
  kept_step (All a) = kept_at (All a.0) (λ n args. a.1 (n + 1) (args ++ variable n ∷ []))
  kept_step (Assert f a) = kept_at (Assert f a.0) (λ n args. a.1 n args)
  kept_step (Assume f a) = kept_at (Assume f a.0) (λ n args. a.1 n args)
  kept_step (Pays p a) = kept_at (Pays p a.0) (λ n args. a.1 n args)
  kept_step (Gets p a) = kept_at (Gets p a.0) (λ n args. a.1 n args)
  kept_step (Next l a) = kept_at (Next l a.0) (λ n args. a.1 n args)

  kept : (a : Ty) → Kept a
  unfolding Kept
  kept = ind-Ty Kept (λ x y e. subst (λ z. Kept (roll-Ty z)) e (kept_step y))

  pub named_put : (n : ℕ) (args : List Linear) (a : Ty) → is_named t (put_type n args a) ≡ is_named t a
  unfolding Kept
  named_put n args a = kept a n args

-- ---- what is exposed

-- each definition's body is named
abbrev pub NamedDefs : Table → Type 0
NamedDefs t = (k : ℕ) (d : TypeDef) → slice_get t k ≡ Some d → is_named t d.body ≡ true

body_named : (t : Table) (n k : ℕ) (a : Ty) (es : List Linear) (o : Option TypeDef) → NamedDefs t → slice_get t k ≡ o → is_named t a ≡ true → is_named t (body_at n a o es) ≡ true
body_named t n k a es None ds e h = h
body_named t n k a es (Some d) ds e h = named_put t n es d.body ∙ ds k d e

opened_named' : (t : Table) (n : ℕ) (a : Ty) (x : Layer) → NamedDefs t → is_named t a ≡ true → is_named t (opened_layer t n a x) ≡ true
opened_named' t n a (Named k es) ds h = body_named t n k a es (slice_get t k) ds refl h
opened_named' t n a x ds h = h

pub opened_named : (t : Table) (n : ℕ) (a : Ty) → NamedDefs t → is_named t a ≡ true → is_named t (opened t n a) ≡ true
opened_named t n a ds h = opened_named' t n a (out-Ty a) ds h

timed_named' : (t : Table) (a : Ty) (x : Layer) → out-Ty a ≡ x → is_named t a ≡ true → is_named t (timed_layer a x).body ≡ true
timed_named' t a (Next l b) o h = named_at t a (Next l b) o h
timed_named' t a x o h = h

pub timed_named : (t : Table) (a : Ty) → is_named t a ≡ true → is_named t (timed a).body ≡ true
timed_named t a h = timed_named' t a (out-Ty a) refl h

pub exposed_named : (t : Table) (n : ℕ) (a : Ty) → NamedDefs t → is_named t a ≡ true → is_named t (exposed_type t n a).body ≡ true
exposed_named t n a ds h = opened_named t n (timed (opened t n a)).body ds (timed_named t (opened t n a) (opened_named t n a ds h))
