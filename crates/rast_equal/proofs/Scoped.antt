-- Types in which only variables in scope occur.
use Rattle.std.proofs.Common.{◌≡◌, ℕ, ◌+◌, Bool, true, ◌&&◌, List, [], ◌∷◌, ◌++◌, map, refl, sym, ap, ap₂, ◌∙◌, subst, Option, Some, None, slice_get}
use Rattle.std.specs.List.{list_all}
use Rattle.rast_index.specs.Linear.{Linear, replaced, variable, is_closed}
use Rattle.rast_index.specs.Truth.{put, put_step as put_formula_step, is_closed_formula, closed_step}
use Rattle.rast_index.proofs.Replaced.{Such as SuchFormula, bare as bare_formula, induction as formula_induction, put_at}
use Rattle.rast_index.specs.declared.formula.Formula.{Formula, roll-Formula}
use Rattle.rast_index.specs.declared.formula.Formula.TheVariants as form
use Rattle.rast_index.specs.declared.formula.Formula.TheOpen.{Formula-F, True, False, Rel, Div, Not, And, Or, Imp}
use Rattle.rast_index.specs.declared.formula.Formula.TheFolds.{map-Formula, fold-roll-Formula}
use Rattle.rast_types.specs.declared.ty.Ty.{Ty, out-Ty, roll-Ty, roll-out-Ty, out-roll-Ty}
use Rattle.rast_types.specs.declared.ty.Ty.TheOpen.{Ty-F, One, Plus, With, Tensor, Lolli, Named, Ex, All, Assert, Assume, Pays, Gets, Next}
use Rattle.rast_types.specs.declared.ty.Ty.TheFolds.{map-Ty, fold-roll-Ty, ind-Ty}
use Rattle.rast_types.specs.Closed.{Layer, Table}
use Rattle.rast_types.specs.Symbolic.{put_type, is_scoped, scoped_step, body_at, exposed_type, opened, opened_layer, timed, timed_layer}
use Rattle.rast_types.proofs.Layers.{put_layer, out_put}
use Rattle.rast_equal.proofs.Within.{AllWithin, under_binder, closed_replaced, all_within}
use Rattle.rast_types.specs.declared.table.TypeDef.{TypeDef}
use Rattle.rast_index.proofs.Scope.{both_true}

-- ---- formulas that were made

closed_roll : (n : ℕ) (x : Formula-F Formula) → is_closed_formula n (roll-Formula x) ≡ closed_step n (map-Formula Formula Bool (is_closed_formula n) x)
closed_roll n x = fold-roll-Formula Bool (closed_step n) x

both : (a b : Bool) → a ≡ true → b ≡ true → a && b ≡ true
both a b p q = ap₂ (λ (x y : Bool). x && y) p q

module _ (n : ℕ) (args : List Linear) (h : AllWithin n args) where
  Shut : Formula → Type 0
  Shut f = is_closed_formula n (put args f) ≡ true

  all_shut : (ys : List (SuchFormula Shut)) → list_all (λ f. f) (map (is_closed_formula n) (map (put args) (map (λ e. e.0) ys))) ≡ true
  unfolding Shut
  all_shut [] = refl
  all_shut (y ∷ ys) = both _ _ y.1 (all_shut ys)

  at : (x : Formula-F Formula) → is_closed_formula n (put_formula_step args (map-Formula Formula Formula (put args) x)) ≡ true → Shut (roll-Formula x)
  unfolding Shut
  at x e = ap (is_closed_formula n) (put_at args x) ∙ e

  step : (y : Formula-F (SuchFormula Shut)) → Shut (roll-Formula (bare_formula Shut y))
  unfolding Shut
  step True = at True (rw (← form.rolls-True) (closed_roll n True))
  step False = at False (rw (← form.rolls-False) (closed_roll n False))
  step (Rel a r b) = at (Rel a r b) (rw (← form.rolls-Rel) (closed_roll n (Rel (replaced args a) r (replaced args b))) ∙ both _ _ (closed_replaced n args a h) (closed_replaced n args b h))
  step (Div d l) = at (Div d l) (rw (← form.rolls-Div) (closed_roll n (Div d (replaced args l))) ∙ closed_replaced n args l h)
  step (Not f) = at (Not f.0) (rw (← form.rolls-Not) (closed_roll n (Not (put args f.0))) ∙ f.1)
  step (And fs) = at (And (map (λ e. e.0) fs)) (rw (← form.rolls-And) (closed_roll n (And (map (put args) (map (λ e. e.0) fs)))) ∙ all_shut fs)
  step (Or fs) = at (Or (map (λ e. e.0) fs)) (rw (← form.rolls-Or) (closed_roll n (Or (map (put args) (map (λ e. e.0) fs)))) ∙ all_shut fs)
  step (Imp f g) = at (Imp f.0 g.0) (rw (← form.rolls-Imp) (closed_roll n (Imp (put args f.0) (put args g.0))) ∙ both _ _ f.1 g.1)

  pub closed_put : (f : Formula) → is_closed_formula n (put args f) ≡ true
  unfolding Shut
  closed_put = formula_induction Shut step

-- ---- types, by their layers

abbrev Scope : Type 0
Scope = ℕ → Bool

abbrev entry_scope : (ℕ × Ty) → ℕ × Scope
entry_scope e = (e.0, λ n. is_scoped n e.1)

abbrev pub scoped_layer : ℕ → Layer → Bool
scoped_layer n One = true
scoped_layer n (Plus ts) = list_all (λ e. is_scoped n e.1) ts
scoped_layer n (With ts) = list_all (λ e. is_scoped n e.1) ts
scoped_layer n (Tensor a b) = is_scoped n a && is_scoped n b
scoped_layer n (Lolli a b) = is_scoped n a && is_scoped n b
scoped_layer n (Named k es) = list_all (is_closed n) es
scoped_layer n (Ex a) = is_scoped (n + 1) a
scoped_layer n (All a) = is_scoped (n + 1) a
scoped_layer n (Assert f a) = is_closed_formula n f && is_scoped n a
scoped_layer n (Assume f a) = is_closed_formula n f && is_scoped n a
scoped_layer n (Pays p a) = is_closed n p && is_scoped n a
scoped_layer n (Gets p a) = is_closed n p && is_scoped n a
scoped_layer n (Next l a) = is_closed n l && is_scoped n a

entries_scoped : (n : ℕ) (ts : List (ℕ × Ty)) → list_all (λ e. e.1 n) (map entry_scope ts) ≡ list_all (λ e. is_scoped n e.1) ts
entries_scoped n [] = refl
entries_scoped n (t ∷ ts) = ap (λ (b : Bool). is_scoped n t.1 && b) (entries_scoped n ts)

layer_scoped : (n : ℕ) (x : Layer) → scoped_step (map-Ty Ty Scope (λ a m. is_scoped m a) x) n ≡ scoped_layer n x
layer_scoped n One = refl
layer_scoped n (Plus ts) = entries_scoped n ts
layer_scoped n (With ts) = entries_scoped n ts
layer_scoped n (Tensor a b) = refl
layer_scoped n (Lolli a b) = refl
layer_scoped n (Named k es) = refl
layer_scoped n (Ex a) = refl
layer_scoped n (All a) = refl
layer_scoped n (Assert f a) = refl
layer_scoped n (Assume f a) = refl
layer_scoped n (Pays p a) = refl
layer_scoped n (Gets p a) = refl
layer_scoped n (Next l a) = refl

pub scoped_out : (n : ℕ) (a : Ty) → is_scoped n a ≡ scoped_layer n (out-Ty a)
scoped_out n a = ap (is_scoped n) (sym (roll-out-Ty a)) ∙ (ap (λ h. h n) (fold-roll-Ty Scope scoped_step (out-Ty a)) ∙ layer_scoped n (out-Ty a))

-- ---- types that were made

abbrev Such : (Ty → Type 0) → Type 0
Such P = (a : Ty) × P a

ty_induction : (P : Ty → Type 0) → ((y : Ty-F (Such P)) → P (roll-Ty (map-Ty (Such P) Ty (λ e. e.0) y))) → (a : Ty) → P a
ty_induction P step = ind-Ty P (λ x y e. subst (λ z. P (roll-Ty z)) e (step y))

-- the type with its variables replaced by terms in scope is in scope
Kept : Ty → Type 0
Kept a = (n : ℕ) (args : List Linear) → AllWithin n args → is_scoped n (put_type n args a) ≡ true

abbrev bare_entry : (ℕ × Such Kept) → ℕ × Ty
bare_entry e = (e.0, e.1.0)

abbrev put_entry : ℕ → List Linear → (ℕ × Ty) → ℕ × Ty
put_entry n args e = (e.0, put_type n args e.1)

kept_entries : (n : ℕ) (args : List Linear) → AllWithin n args → (ys : List (ℕ × Such Kept)) → list_all {X = ℕ × Ty} (λ e. is_scoped n e.1) (map (put_entry n args) (map bare_entry ys)) ≡ true
unfolding Kept
kept_entries n args h [] = refl
kept_entries n args h (y ∷ ys) = both _ _ (y.1.1 n args h) (kept_entries n args h ys)

kept_at : (x : Layer) → ((n : ℕ) (args : List Linear) → AllWithin n args → scoped_layer n (put_layer n args x) ≡ true) → Kept (roll-Ty x)
unfolding Kept
kept_at x f n args h = scoped_out n (put_type n args (roll-Ty x)) ∙ (ap (scoped_layer n) (out_put n args (roll-Ty x) ∙ ap (put_layer n args) (out-roll-Ty x)) ∙ f n args h)

pub all_replaced : (n : ℕ) (args es : List Linear) → AllWithin n args → list_all (is_closed n) (map (replaced args) es) ≡ true
all_replaced n args [] h = refl
all_replaced n args (e ∷ es) h = both _ _ (closed_replaced n args e h) (all_replaced n args es h)

kept_step : (y : Ty-F (Such Kept)) → Kept (roll-Ty (map-Ty (Such Kept) Ty (λ e. e.0) y))
unfolding Kept
kept_step One = kept_at One (λ n args h. refl)
kept_step (Plus ts) = kept_at (Plus (map bare_entry ts)) (λ n args h. kept_entries n args h ts)
kept_step (With ts) = kept_at (With (map bare_entry ts)) (λ n args h. kept_entries n args h ts)
kept_step (Tensor a b) = kept_at (Tensor a.0 b.0) (λ n args h. both _ _ (a.1 n args h) (b.1 n args h))
kept_step (Lolli a b) = kept_at (Lolli a.0 b.0) (λ n args h. both _ _ (a.1 n args h) (b.1 n args h))
kept_step (Named k es) = kept_at (Named k es) (λ n args h. all_replaced n args es h)
kept_step (Ex a) = kept_at (Ex a.0) (λ n args h. a.1 (n + 1) (args ++ variable n ∷ []) (under_binder n args h))
kept_step (All a) = kept_at (All a.0) (λ n args h. a.1 (n + 1) (args ++ variable n ∷ []) (under_binder n args h))
kept_step (Assert f a) = kept_at (Assert f a.0) (λ n args h. both _ _ (closed_put n args h f) (a.1 n args h))
kept_step (Assume f a) = kept_at (Assume f a.0) (λ n args h. both _ _ (closed_put n args h f) (a.1 n args h))
kept_step (Pays p a) = kept_at (Pays p a.0) (λ n args h. both _ _ (closed_replaced n args p h) (a.1 n args h))
kept_step (Gets p a) = kept_at (Gets p a.0) (λ n args h. both _ _ (closed_replaced n args p h) (a.1 n args h))
kept_step (Next l a) = kept_at (Next l a.0) (λ n args h. both _ _ (closed_replaced n args l h) (a.1 n args h))

pub scoped_put : (n : ℕ) (args : List Linear) (a : Ty) → AllWithin n args → is_scoped n (put_type n args a) ≡ true
unfolding Kept
scoped_put n args a h = ty_induction Kept kept_step a n args h

-- ---- what is exposed is in scope

body_scoped : (n : ℕ) (a : Ty) (o : Option TypeDef) (es : List Linear) → AllWithin n es → is_scoped n a ≡ true → is_scoped n (body_at n a o es) ≡ true
body_scoped n a None es h s = s
body_scoped n a (Some d) es h s = scoped_put n es d.body h

opened_scoped_layer : (t : Table) (n : ℕ) (a : Ty) (x : Layer) → out-Ty a ≡ x → is_scoped n a ≡ true → is_scoped n (opened_layer t n a x) ≡ true
opened_scoped_layer t n a (Named k es) o s = body_scoped n a (slice_get t k) es (all_within n es (ap (scoped_layer n) (sym o) ∙ (sym (scoped_out n a) ∙ s))) s
opened_scoped_layer t n a x o s = s

pub opened_scoped : (t : Table) (n : ℕ) (a : Ty) → is_scoped n a ≡ true → is_scoped n (opened t n a) ≡ true
opened_scoped t n a s = opened_scoped_layer t n a (out-Ty a) refl s

timed_scoped : (n : ℕ) (a : Ty) (x : Layer) → out-Ty a ≡ x → is_scoped n a ≡ true → is_scoped n (timed_layer a x).body ≡ true
timed_scoped n a (Next l b) o s = (both_true (is_closed n l) (is_scoped n b) (ap (scoped_layer n) (sym o) ∙ (sym (scoped_out n a) ∙ s))).1
timed_scoped n a x o s = s

pub exposed_scoped : (t : Table) (n : ℕ) (a : Ty) → is_scoped n a ≡ true → is_scoped n (exposed_type t n a).body ≡ true
exposed_scoped t n a s = opened_scoped t n (timed (opened t n a)).body (timed_scoped n (opened t n a) (out-Ty (opened t n a)) refl (opened_scoped t n a s))
