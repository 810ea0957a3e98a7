-- What stands before a type where a process is delayed: its ticks, and what is left when they are taken off.
use Rattle.std.proofs.Common.{◌≡◌, ℕ, Bool, true, false, ◌&&◌, if◌then◌else◌, List, [], Result, Ok, sym, ◌∙◌, ap, ap₂, refl, subst}
use Rattle.rast_index.specs.Answer.{Fits}
use Rattle.rast_index.specs.Linear.{Linear, is_small, nought, replaced}
use Rattle.rast_index.specs.Truth.{all_small, is_at_least, is_equal}
use Rattle.rast_index.specs.declared.formula.Formula.{Formula}
use Rattle.rast_index.specs.declared.formula.Formula.TheVariants as form
use Rattle.rast_index.specs.declared.formula.Rel.{Rel}
use Rattle.rast_index.specs.declared.formula.Rel.TheVariants as rel
use Rattle.rast_index.specs.declared.refusal.Coefficient.{Coefficient}
use Rattle.rast_index.proofs.Trees.{all_small-Rel}
use Rattle.rast_types.specs.declared.ty.Ty.{Ty, out-Ty}
use Rattle.rast_types.specs.declared.ty.Ty.TheOpen as layer
use Rattle.rast_types.specs.Closed.{Table, Layer}
use Rattle.rast_types.specs.Found.{Names, is_defined, is_defined_layer}
use Rattle.rast_types.specs.Symbolic.{Timed, before_delay, exposed_type, is_next, is_next_layer, opened, timed, put_type}
use Rattle.rast_types.proofs.Layers.{opened_stays, opened_names, timed_next, timed_none, timed_put_next, out_put, put_layer}

next_layers : (n : ℕ) (args : List Linear) (x : Layer) → is_next_layer (put_layer n args x) ≡ is_next_layer x
next_layers n args layer.One = refl
next_layers n args (layer.Plus ts) = refl
next_layers n args (layer.With ts) = refl
next_layers n args (layer.Tensor a b) = refl
next_layers n args (layer.Lolli a b) = refl
next_layers n args (layer.Named k es) = refl
next_layers n args (layer.Ex a) = refl
next_layers n args (layer.All a) = refl
next_layers n args (layer.Assert f a) = refl
next_layers n args (layer.Assume f a) = refl
next_layers n args (layer.Pays p a) = refl
next_layers n args (layer.Gets p a) = refl
next_layers n args (layer.Next l a) = refl

abbrev before_if : Ty → Ty → Bool → Timed
before_if a u b = if b then timed u else record { ticks = nought; body = a }

abbrev before_from : Ty → Ty → Timed
before_from a u = before_if a u (is_next u)

undefined : (x : Layer) → is_defined_layer [] x ≡ false
undefined layer.One = refl
undefined (layer.Plus ts) = refl
undefined (layer.With ts) = refl
undefined (layer.Tensor a b) = refl
undefined (layer.Lolli a b) = refl
undefined (layer.Named k es) = refl
undefined (layer.Ex a) = refl
undefined (layer.All a) = refl
undefined (layer.Assert f a) = refl
undefined (layer.Assume f a) = refl
undefined (layer.Pays p a) = refl
undefined (layer.Gets p a) = refl
undefined (layer.Next l a) = refl

-- where nothing is defined, nothing is unfolded
pub opened_nothing : (t : Table) (n : ℕ) (a : Ty) → t ≡ [] → opened t n a ≡ a
opened_nothing t n a e = ap (λ (s : Table). opened s n a) e ∙ opened_stays [] n a (undefined (out-Ty a))

module _ (t : Table) (n : ℕ) (a : Ty) where
  -- a name is a next where its body is one
  pub next_named : (body : Ty) (args : List Linear) → Names t a body args → is_next (opened t n a) ≡ is_next body
  next_named body args names = ap is_next (opened_names t n a body args names) ∙ ap is_next_layer (out_put n args body) ∙ next_layers n args (out-Ty body)

  pub next_free : is_defined t a ≡ false → is_next (opened t n a) ≡ is_next a
  next_free free = ap is_next (opened_stays t n a free)

  pub before_timed : is_next (opened t n a) ≡ true → before_delay t n a ≡ timed (opened t n a)
  before_timed next = ap (before_if a (opened t n a)) next

  pub before_plain : is_next (opened t n a) ≡ false → before_delay t n a ≡ record { ticks = nought; body = a }
  before_plain other = ap (before_if a (opened t n a)) other

  before_named_next : (body inner : Ty) (args : List Linear) (l : Linear) → Names t a body args → out-Ty body ≡ layer.Next l inner → before_delay t n a ≡ record { ticks = replaced args l; body = put_type n args inner }
  before_named_next body inner args l names next =
      before_timed (next_named body args names ∙ ap is_next_layer next)
      ∙ ap timed (opened_names t n a body args names) ∙ timed_put_next n args body inner l next

  before_next : (inner : Ty) (l : Linear) → is_defined t a ≡ false → out-Ty a ≡ layer.Next l inner → before_delay t n a ≡ record { ticks = l; body = inner }
  before_next inner l free next =
      before_timed (next_free free ∙ ap is_next_layer next) ∙ ap timed (opened_stays t n a free) ∙ timed_next a inner l next

  abbrev ticks_fit : Result Linear Coefficient → Type 0
  ticks_fit r = Fits is_small (before_delay t n a).ticks r

  fits_of : (e : Timed) (r : Result Linear Coefficient) → before_delay t n a ≡ e → Fits is_small e.ticks r → ticks_fit r
  fits_of e r is h = subst (λ (f : Timed). Fits is_small f.ticks r) (sym is) h

  fits_ok : (e : Timed) (l : Linear) → before_delay t n a ≡ e → l ≡ e.ticks → is_small l ≡ true → ticks_fit (Ok l)
  fits_ok e l is same small = fits_of e (Ok l) is (same, ap is_small (sym same) ∙ small)

  pub fits_named_next : (body inner : Ty) (args : List Linear) (l : Linear) (r : Result Linear Coefficient) → Names t a body args → out-Ty body ≡ layer.Next l inner → Fits is_small (replaced args l) r → ticks_fit r
  fits_named_next body inner args l r names next h = fits_of _ r (before_named_next body inner args l names next) h

  pub fits_named : (body : Ty) (args : List Linear) (l : Linear) → Names t a body args → is_next body ≡ false → l ≡ nought → ticks_fit (Ok l)
  fits_named body args l names other same = fits_ok _ l (before_plain (next_named body args names ∙ other)) same (ap is_small same)

  pub fits_next : (inner : Ty) (l m : Linear) → is_defined t a ≡ false → out-Ty a ≡ layer.Next l inner → m ≡ l → is_small m ≡ true → ticks_fit (Ok m)
  fits_next inner l m free next same small = fits_ok _ m (before_next inner l free next) same small

  pub fits_other : (l : Linear) → is_defined t a ≡ false → is_next a ≡ false → l ≡ nought → ticks_fit (Ok l)
  fits_other l free other same = fits_ok _ l (before_plain (next_free free ∙ other)) same (ap is_small same)

  -- the ticks before a delay are those before the head
  pub exposed_ticks : (before_delay t n a).ticks ≡ (exposed_type t n a).ticks
  exposed_ticks = by_case (is_next (opened t n a)) refl
    where
      by_case : (b : Bool) → is_next (opened t n a) ≡ b → (before_delay t n a).ticks ≡ (timed (opened t n a)).ticks
      by_case true e = ap (λ (f : Timed). f.ticks) (before_timed e)
      by_case false e = ap (λ (f : Timed). f.ticks) (before_plain e) ∙ sym (ap (λ (f : Timed). f.ticks) (timed_none (opened t n a) e))

-- ---- what is said of ticks

pub small_said : (r : Rel) (a b x y : Linear) → x ≡ a → is_small a ≡ true → y ≡ b → is_small b ≡ true → all_small (form.Rel x r y) ≡ true
small_said r a b x y e small f few = all_small-Rel x y r ∙ ap₂ (λ p q. p && q) (ap is_small e ∙ small) (ap is_small f ∙ few)

pub said_least : (ticks l by : Linear) (goal : Formula) → l ≡ ticks → goal ≡ is_at_least l by → all_small goal ≡ true → Fits all_small (is_at_least ticks by) (Ok goal)
said_least ticks l by goal is said small =
    let same = said ∙ ap (λ k. is_at_least k by) is in
    (same, ap all_small (sym same) ∙ small)

pub said_none : (ticks l z : Linear) → l ≡ ticks → is_small ticks ≡ true → z ≡ nought → Fits all_small (is_equal ticks nought) (Ok (is_equal l z))
said_none ticks l z is small none = (ap₂ is_equal is none, small_said rel.Eq ticks nought ticks nought refl small refl refl)

pub unsaid : (r : Rel) (ticks by : Linear) → is_small ticks ≡ false → all_small (form.Rel ticks r by) ≡ false
unsaid r ticks by great = all_small-Rel ticks by r ∙ ap (λ b. b && is_small by) great
