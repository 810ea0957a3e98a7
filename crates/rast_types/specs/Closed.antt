-- Closed types: heads, parts, equality, views.
use Rattle.std.specs.Prelude.{◌≡◌, ℕ, zero, suc, ℤ, pos, ◌+ℤ◌, Bool, true, false, if◌then◌else◌, List, [], ◌∷◌, ◌++◌, map, slice_get, Option, Some, None, is_some, cond}
use Rattle.rast_index.specs.Linear.{value}
use Rattle.rast_index.specs.Truth.{truth}
use Rattle.rast_index.specs.Keys.{find_key}
use Rattle.rast_types.specs.declared.table.TypeDef.{TypeDef}
use Rattle.rast_types.specs.declared.ty.Kind.{Kind}
use Rattle.rast_types.specs.declared.ty.Kind.TheVariants as kind
use Rattle.rast_types.specs.declared.ty.Ty.{Ty, out-Ty}
use Rattle.rast_types.specs.declared.ty.Ty.TheOpen.{Ty-F, One, Plus, With, Tensor, Lolli, Named, Ex, All, Assert, Assume, Pays, Gets, Next}

-- a type, with a whole number for each variable in scope
pub record Closed : Type 0 where
  pub ty : Ty
  pub at : List ℤ

abbrev pub Layer : Type 0
Layer = Ty-F Ty

abbrev pub Table : Type 0
Table = List TypeDef

abbrev pub closed : Ty → List ℤ → Closed
closed ty at = record { ty = ty; at = at }

-- a definition's body at these arguments, or else the type itself
abbrev pub body_or : Closed → Option TypeDef → List ℤ → Closed
body_or c None args = c
body_or c (Some d) args = closed d.body args

abbrev pub unfold_layer : Table → Closed → Layer → Closed
unfold_layer t c (Named n args) = body_or c (slice_get t n) (map (λ a. value a c.at) args)
unfold_layer t c layer = c

-- a name becomes its definition's body at the arguments' values
abbrev pub unfolded : Table → Closed → Closed
unfolded t c = unfold_layer t c (out-Ty c.ty)

-- what a type says first: ticks, and the head
pub record Exposed : Type 0 where
  pub ticks : ℤ
  pub head : Closed

abbrev pub exposed_layer : Table → Closed → Layer → Exposed
exposed_layer t c (Next l a) = record { ticks = value l c.at; head = unfolded t (closed a c.at) }
exposed_layer t c layer = record { ticks = pos 0; head = c }

abbrev pub exposed : Table → Closed → Exposed
exposed t c = let u = unfolded t c in exposed_layer t u (out-Ty u.ty)

-- what leads from a head to one of its parts
pub data Way : Type 0 where
  Label : (l : ℕ) → Way
  First : Way
  Second : Way
  Inner : Way
  At : (n : ℕ) → Way

abbrev pub close_some : List ℤ → Option Ty → Option Closed
close_some at None = None
close_some at (Some a) = Some (closed a at)

-- The part of a layer that a way leads to; below a constraint there is one only where the formula is true.
abbrev pub part_layer : Layer → List ℤ → Way → Option Closed
part_layer (Plus ts) at (Label l) = close_some at (find_key l ts)
part_layer (With ts) at (Label l) = close_some at (find_key l ts)
part_layer (Tensor a b) at First = Some (closed a at)
part_layer (Tensor a b) at Second = Some (closed b at)
part_layer (Lolli a b) at First = Some (closed a at)
part_layer (Lolli a b) at Second = Some (closed b at)
part_layer (Ex a) at (At n) = Some (closed a (at ++ pos n ∷ []))
part_layer (All a) at (At n) = Some (closed a (at ++ pos n ∷ []))
part_layer (Assert f a) at Inner = if truth f at then Some (closed a at) else None
part_layer (Assume f a) at Inner = if truth f at then Some (closed a at) else None
part_layer (Pays p a) at Inner = Some (closed a at)
part_layer (Gets p a) at Inner = Some (closed a at)
part_layer layer at way = None

abbrev pub part_of : Closed → Way → Option Closed
part_of c = part_layer (out-Ty c.ty) c.at

-- the kind of a head; a name and a next are none
abbrev pub kind_layer : {A : Type 0} → Ty-F A → Option Kind
kind_layer {A} One = Some kind.One
kind_layer {A} (Plus ts) = Some kind.Plus
kind_layer {A} (With ts) = Some kind.With
kind_layer {A} (Tensor a b) = Some kind.Tensor
kind_layer {A} (Lolli a b) = Some kind.Lolli
kind_layer {A} (Named n args) = None
kind_layer {A} (Ex a) = Some kind.Ex
kind_layer {A} (All a) = Some kind.All
kind_layer {A} (Assert f a) = Some kind.Assert
kind_layer {A} (Assume f a) = Some kind.Assume
kind_layer {A} (Pays p a) = Some kind.Pays
kind_layer {A} (Gets p a) = Some kind.Gets
kind_layer {A} (Next l a) = None

abbrev pub kind_of : Ty → Option Kind
kind_of ty = kind_layer (out-Ty ty)

-- the number that a head carries: its potential, or 1 where its formula is true
abbrev pub figure_layer : Layer → List ℤ → ℤ
figure_layer (Assert f a) at = pos (cond (truth f at) 1 0)
figure_layer (Assume f a) at = pos (cond (truth f at) 1 0)
figure_layer (Pays p a) at = value p at
figure_layer (Gets p a) at = value p at
figure_layer layer at = pos 0

abbrev pub figure_of : Closed → ℤ
figure_of c = figure_layer (out-Ty c.ty) c.at

-- Two heads agree, where their parts are equal by R. The same ways lead to a part, so the labels are the same set.
pub record Agree (R : Closed → Closed → Type 0) (a b : Closed) : Type 0 where
  pub kind : kind_of a.ty ≡ kind_of b.ty
  pub figure : figure_of a ≡ figure_of b
  pub ways : (w : Way) → is_some (part_of a w) ≡ is_some (part_of b w)
  pub parts : (w : Way) (x y : Closed) → part_of a w ≡ Some x → part_of b w ≡ Some y → R x y

abbrev pub EqualTo : Table → ℕ → Closed → Closed → Type 0
EqualTo t zero a b = Unit {0}
EqualTo t (suc k) a b = ((exposed t a).ticks ≡ (exposed t b).ticks) × Agree (EqualTo t k) (exposed t a).head (exposed t b).head

-- equal to every depth
abbrev pub Equal : Table → Closed → Closed → Type 0
Equal t a b = (k : ℕ) → EqualTo t k a b

-- whether the provider sends at a head of this kind
abbrev pub is_positive : Kind → Bool
is_positive kind.Plus = true
is_positive kind.With = false
is_positive kind.Tensor = true
is_positive kind.Lolli = false
is_positive kind.One = true
is_positive kind.Ex = true
is_positive kind.All = false
is_positive kind.Assert = true
is_positive kind.Assume = false
is_positive kind.Pays = true
is_positive kind.Gets = false

-- a moment and a closed type
pub record View : Type 0 where
  pub moment : ℕ
  pub type : Closed

abbrev pub view : ℕ → Closed → View
view m c = record { moment = m; type = c }

abbrev pub arrival : Table → View → ℤ
arrival t v = pos v.moment +ℤ (exposed t v.type).ticks

abbrev pub head : Table → View → Closed
head t v = (exposed t v.type).head

-- how the arrivals of the two ends of a link stand, at a head of this kind
abbrev pub InOrder : Option Kind → ℤ → ℤ → Type 0
InOrder k a b = a ≡ b

-- the view of a provider, and that of its client
pub record Serves (t : Table) (p c : View) : Type 0 where
  pub arrivals : InOrder (kind_of (head t p).ty) (arrival t p) (arrival t c)
  pub heads : Equal t (head t p) (head t c)

-- how a message's moment stands to the arrival, at a head of this kind
abbrev pub InTime : Option Kind → ℤ → ℤ → Type 0
InTime k a m = a ≡ m

-- a message of this moment may be sent at the view
abbrev pub Suits : Table → View → ℕ → Type 0
Suits t v m = InTime (kind_of (head t v).ty) (arrival t v) (pos m)
