-- Types with linear terms in the place of variables, and the limits of terms.
use Rattle.std.specs.Prelude.{ℕ, suc, ◌+◌, pos, Bool, true, false, if◌then◌else◌, nat_lt, ◌&&◌, List, [], ◌∷◌, ◌++◌, map, max, slice_get, Option, Some, None, Result, Ok, Err}
use Rattle.std.specs.List.{list_all}
use Rattle.rast_index.specs.Linear.{Linear, replaced, variable, is_small, fixed, less, is_nought, is_closed}
use Rattle.rast_index.specs.Truth.{put, all_small, is_closed_formula}
use Rattle.rast_types.specs.Closed.{Table, Layer, kind_of}
use Rattle.rast_types.specs.declared.ty.Kind.{Kind}
use Rattle.rast_types.specs.declared.table.TypeDef.{TypeDef}
use Rattle.rast_types.specs.declared.stop.Stop.{Stop}
use Rattle.rast_types.specs.declared.stop.Stop.TheVariants as stop
use Rattle.rast_types.specs.declared.ty.Ty.{Ty, out-Ty}
use Rattle.rast_types.specs.declared.ty.Ty.TheOpen.{Ty-F, One, Plus, With, Tensor, Lolli, Named, Ex, All, Assert, Assume, Pays, Gets, Next}
use Rattle.rast_types.specs.declared.ty.Ty.TheVariants as ty
use Rattle.rast_types.specs.declared.ty.Ty.TheFolds.{fold-Ty}

-- Each variable replaced by an argument, in a scope of n variables; a bound variable has the number of the variables in scope.
abbrev pub put_step : Ty-F (ℕ → List Linear → Ty) → ℕ → List Linear → Ty
put_step One n args = ty.One
put_step (Plus ts) n args = ty.Plus (map (λ e. (e.0, e.1 n args)) ts)
put_step (With ts) n args = ty.With (map (λ e. (e.0, e.1 n args)) ts)
put_step (Tensor a b) n args = ty.Tensor (a n args) (b n args)
put_step (Lolli a b) n args = ty.Lolli (a n args) (b n args)
put_step (Named k es) n args = ty.Named k (map (replaced args) es)
put_step (Ex a) n args = ty.Ex (a (n + 1) (args ++ variable n ∷ []))
put_step (All a) n args = ty.All (a (n + 1) (args ++ variable n ∷ []))
put_step (Assert f a) n args = ty.Assert (put args f) (a n args)
put_step (Assume f a) n args = ty.Assume (put args f) (a n args)
put_step (Pays p a) n args = ty.Pays (replaced args p) (a n args)
put_step (Gets p a) n args = ty.Gets (replaced args p) (a n args)
put_step (Next l a) n args = ty.Next (replaced args l) (a n args)

abbrev pub put_type : ℕ → List Linear → Ty → Ty
put_type n args a = fold-Ty (ℕ → List Linear → Ty) put_step a n args

abbrev pub most : List ℕ → ℕ
most [] = 0
most (n ∷ ns) = max n (most ns)

-- how many quantifiers stand below one another
abbrev pub binders_step : Ty-F ℕ → ℕ
binders_step One = 0
binders_step (Plus ts) = most (map (λ e. e.1) ts)
binders_step (With ts) = most (map (λ e. e.1) ts)
binders_step (Tensor a b) = max a b
binders_step (Lolli a b) = max a b
binders_step (Named k es) = 0
binders_step (Ex a) = suc a
binders_step (All a) = suc a
binders_step (Assert f a) = a
binders_step (Assume f a) = a
binders_step (Pays p a) = a
binders_step (Gets p a) = a
binders_step (Next l a) = a

abbrev pub binders : Ty → ℕ
binders = fold-Ty ℕ binders_step

-- whether each number is small
abbrev pub small_step : Ty-F Bool → Bool
small_step One = true
small_step (Plus ts) = list_all (λ e. e.1) ts
small_step (With ts) = list_all (λ e. e.1) ts
small_step (Tensor a b) = a && b
small_step (Lolli a b) = a && b
small_step (Named k es) = list_all is_small es
small_step (Ex a) = a
small_step (All a) = a
small_step (Assert f a) = all_small f && a
small_step (Assume f a) = all_small f && a
small_step (Pays p a) = is_small p && a
small_step (Gets p a) = is_small p && a
small_step (Next l a) = is_small l && a

abbrev pub is_small_type : Ty → Bool
is_small_type = fold-Ty Bool small_step

-- a variable of the type has the number 16 or more, in a scope of n variables
abbrev pub is_deep : ℕ → Ty → Bool
is_deep n a = nat_lt 16 (n + binders a)

-- what was made, within the limits
abbrev pub within : {X : Type 0} → Bool → Bool → X → Result X Stop
within {X} deep small x = if deep then Err stop.Variables else (if small then Ok x else Err stop.Coefficient)

abbrev pub made_type : ℕ → Ty → Result Ty Stop
made_type n a = within (is_deep n a) (is_small_type a) a

abbrev pub body_at : ℕ → Ty → Option TypeDef → List Linear → Ty
body_at n a None args = a
body_at n a (Some d) args = put_type n args d.body

abbrev pub opened_layer : Table → ℕ → Ty → Layer → Ty
opened_layer t n a (Named k args) = body_at n a (slice_get t k) args
opened_layer t n a layer = a

-- a name becomes its definition's body at its arguments
abbrev pub opened : Table → ℕ → Ty → Ty
opened t n a = opened_layer t n a (out-Ty a)

-- ticks, and the body below them
pub record Timed : Type 0 where
  pub ticks : Linear
  pub body : Ty

abbrev pub timed_layer : Ty → Layer → Timed
timed_layer a (Next l b) = record { ticks = l; body = b }
timed_layer a layer = record { ticks = fixed (pos 0); body = a }

abbrev pub timed : Ty → Timed
timed a = timed_layer a (out-Ty a)

-- ticks and head, with linear terms
abbrev pub opened_body : Table → ℕ → Timed → Timed
opened_body t n e = record e { body = opened t n e.body }

abbrev pub exposed_type : Table → ℕ → Ty → Timed
exposed_type t n a = opened_body t n (timed (opened t n a))

abbrev pub made_exposed : Table → ℕ → Ty → Result Timed Stop
made_exposed t n a = let e = exposed_type t n a in within (is_deep n e.body) (is_small e.ticks && is_small_type e.body) e

abbrev pub is_next_layer : Layer → Bool
is_next_layer (Next l a) = true
is_next_layer layer = false

abbrev pub is_next : Ty → Bool
is_next a = is_next_layer (out-Ty a)

abbrev pub is_name_layer : Layer → Bool
is_name_layer (Named k args) = true
is_name_layer layer = false

abbrev pub is_name : Ty → Bool
is_name a = is_name_layer (out-Ty a)

-- ticks before a delay: a name is unfolded where its body is a next
abbrev pub before_delay : Table → ℕ → Ty → Timed
before_delay t n a = let u = opened t n a in if is_next u then timed u else record { ticks = fixed (pos 0); body = a }

abbrev pub timed_type : Timed → Ty
timed_type e = if is_nought e.ticks then e.body else ty.Next e.ticks e.body

-- heads that a delay passes over, on the provided channel and on a used one
abbrev pub waits_on : Bool → Option Kind → Bool
waits_on provided k = false

abbrev pub is_passed_over : Table → ℕ → (Bool × Ty) → Bool
is_passed_over t n a = let e = exposed_type t n a.1 in waits_on a.0 (kind_of e.body) && is_nought e.ticks

-- a type after a delay, on the provided channel or on a used one
abbrev pub after_delay : Table → ℕ → Linear → Bool → Ty → Ty
after_delay t n by provided a =
    let e = before_delay t n a in if is_passed_over t n (provided, a) then a else timed_type (record e { ticks = less e.ticks by })

-- whether only variables in scope occur, where n are
abbrev pub scoped_step : Ty-F (ℕ → Bool) → ℕ → Bool
scoped_step One n = true
scoped_step (Plus ts) n = list_all (λ e. e.1 n) ts
scoped_step (With ts) n = list_all (λ e. e.1 n) ts
scoped_step (Tensor a b) n = a n && b n
scoped_step (Lolli a b) n = a n && b n
scoped_step (Named k es) n = list_all (is_closed n) es
scoped_step (Ex a) n = a (n + 1)
scoped_step (All a) n = a (n + 1)
scoped_step (Assert f a) n = is_closed_formula n f && a n
scoped_step (Assume f a) n = is_closed_formula n f && a n
scoped_step (Pays p a) n = is_closed n p && a n
scoped_step (Gets p a) n = is_closed n p && a n
scoped_step (Next l a) n = is_closed n l && a n

abbrev pub is_scoped : ℕ → Ty → Bool
is_scoped n a = fold-Ty (ℕ → Bool) scoped_step a n
