-- Replacing variables keeps how many quantifiers stand below one another.
use Rattle.std.proofs.Common.{◌≡◌, ℕ, suc, ◌+◌, max, List, [], ◌∷◌, ◌++◌, map, sym, ◌∙◌, ap, ap₂, refl, subst}
use Rattle.std.specs.Prelude.{nat_lt}
use Rattle.rast_index.specs.Linear.{Linear, replaced, variable}
use Rattle.rast_index.specs.Truth.{put}
use Rattle.rast_types.specs.declared.ty.Ty.{Ty, roll-Ty}
use Rattle.rast_types.specs.declared.ty.Ty.TheVariants as ty
use Rattle.rast_types.specs.declared.ty.Ty.TheOpen.{Ty-F, One, Plus, With, Tensor, Lolli, Named, Ex, All, Assert, Assume, Pays, Gets, Next}
use Rattle.rast_types.specs.declared.ty.Ty.TheFolds.{map-Ty, fold-roll-Ty, ind-Ty}
use Rattle.rast_types.specs.Closed.{Layer}
use Rattle.rast_types.specs.Symbolic.{put_type, put_step, binders, binders_step, is_deep}
use Rattle.rast_types.proofs.Puts.{put_choices, parts_put}
use Rattle.rast_types.proofs.Shallow.{binders_of, binders_plus, binders_with}
use Rattle.rast_types.proofs.Layers.{puts, put_at}

-- a part of a type, with a claim on it
abbrev pub Such : (Ty → Type 0) → Type 0
Such P = (a : Ty) × P a

abbrev pub bare : (P : Ty → Type 0) → Ty-F (Such P) → Ty-F Ty
bare P = map-Ty (Such P) Ty (λ e. e.0)

pub induction : (P : Ty → Type 0) → ((y : Ty-F (Such P)) → P (roll-Ty (bare P y))) → (a : Ty) → P a
induction P step = ind-Ty P (λ x y e. subst (λ z. P (roll-Ty z)) e (step y))

pub binders_at : (x : Layer) → binders (roll-Ty x) ≡ binders_step (map-Ty Ty ℕ binders x)
binders_at x = fold-roll-Ty ℕ binders_step x

Keeps : Ty → Type 0
Keeps a = (n : ℕ) (args : List Linear) → binders (put_type n args a) ≡ binders a

at : (x : Layer) → ((n : ℕ) (args : List Linear) → binders (put_step (puts x) n args) ≡ binders_step (map-Ty Ty ℕ binders x)) → Keeps (roll-Ty x)
unfolding Keeps
at x h n args = ap binders (put_at n args x) ∙ h n args ∙ sym (binders_at x)

abbrev parts : List (ℕ × Such Keeps) → List (ℕ × Ty)
parts ts = map (λ e. (e.0, e.1.0)) ts

each : (ts : List (ℕ × Such Keeps)) (n : ℕ) (args : List Linear) →
    binders_of (put_choices n args (parts ts)) ≡ binders_of (parts ts)
unfolding Keeps
each [] n args = refl
each (t ∷ ts) n args = ap₂ max (t.1.1 n args) (each ts n args)

step : (y : Ty-F (Such Keeps)) → Keeps (roll-Ty (bare Keeps y))
unfolding Keeps
step One = at One (λ n args. rw (← ty.rolls-One) (binders_at One))
step (Plus ts) = at (Plus (parts ts)) (λ n args. ap binders (ap ty.Plus (parts_put n args (parts ts))) ∙ binders_plus (put_choices n args (parts ts)) ∙ each ts n args ∙ sym (binders_plus (parts ts)) ∙ ap binders (sym (ty.rolls-Plus (parts ts))) ∙ binders_at (Plus (parts ts)))
step (With ts) = at (With (parts ts)) (λ n args. ap binders (ap ty.With (parts_put n args (parts ts))) ∙ binders_with (put_choices n args (parts ts)) ∙ each ts n args ∙ sym (binders_with (parts ts)) ∙ ap binders (sym (ty.rolls-With (parts ts))) ∙ binders_at (With (parts ts)))
step (Tensor a b) = at (Tensor a.0 b.0) (λ n args. rw (← ty.rolls-Tensor) (binders_at (Tensor (put_type n args a.0) (put_type n args b.0))) ∙ ap₂ max (a.1 n args) (b.1 n args))
step (Lolli a b) = at (Lolli a.0 b.0) (λ n args. rw (← ty.rolls-Lolli) (binders_at (Lolli (put_type n args a.0) (put_type n args b.0))) ∙ ap₂ max (a.1 n args) (b.1 n args))
step (Named k es) = at (Named k es) (λ n args. rw (← ty.rolls-Named) (binders_at (Named k (map (replaced args) es))))
step (Ex a) = at (Ex a.0) (λ n args. rw (← ty.rolls-Ex) (binders_at (Ex (put_type (n + 1) (args ++ variable n ∷ []) a.0))) ∙ ap suc (a.1 (n + 1) (args ++ variable n ∷ [])))
step (All a) = at (All a.0) (λ n args. rw (← ty.rolls-All) (binders_at (All (put_type (n + 1) (args ++ variable n ∷ []) a.0))) ∙ ap suc (a.1 (n + 1) (args ++ variable n ∷ [])))
step (Assert f a) = at (Assert f a.0) (λ n args. rw (← ty.rolls-Assert) (binders_at (Assert (put args f) (put_type n args a.0))) ∙ a.1 n args)
step (Assume f a) = at (Assume f a.0) (λ n args. rw (← ty.rolls-Assume) (binders_at (Assume (put args f) (put_type n args a.0))) ∙ a.1 n args)
step (Pays p a) = at (Pays p a.0) (λ n args. rw (← ty.rolls-Pays) (binders_at (Pays (replaced args p) (put_type n args a.0))) ∙ a.1 n args)
step (Gets p a) = at (Gets p a.0) (λ n args. rw (← ty.rolls-Gets) (binders_at (Gets (replaced args p) (put_type n args a.0))) ∙ a.1 n args)
step (Next l a) = at (Next l a.0) (λ n args. rw (← ty.rolls-Next) (binders_at (Next (replaced args l) (put_type n args a.0))) ∙ a.1 n args)

pub binders_put : (a : Ty) (n : ℕ) (args : List Linear) → binders (put_type n args a) ≡ binders a
unfolding Keeps
binders_put = induction Keeps step

pub deep_put : (n : ℕ) (args : List Linear) (a : Ty) → is_deep n (put_type n args a) ≡ is_deep n a
deep_put n args a = ap (λ k. nat_lt 16 (n + k)) (binders_put a n args)
