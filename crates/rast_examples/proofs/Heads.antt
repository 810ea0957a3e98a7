-- Equality of closed types by what they say first: a tool for the examples.
use Rattle.std.proofs.Common.{◌≡◌, ℕ, zero, suc, ℤ, pos, List, Some, is_some, refl, sym, ap, ◌∙◌, subst₂}
use Rattle.rast_index.specs.Linear.{Linear, value}
use Rattle.rast_index.specs.declared.formula.Formula.{Formula}
use Rattle.rast_types.specs.Closed.{Closed, Table, Layer, closed, Exposed, EqualTo, Agree, exposed, exposed_layer, unfolded, unfold_layer, Way, kind_layer, figure_layer, part_layer}
use Rattle.rast_types.specs.declared.ty.Ty.{Ty, out-Ty}
use Rattle.rast_types.specs.declared.ty.Ty.TheVariants as ty
use Rattle.rast_types.specs.declared.ty.Ty.TheOpen as layer
use Rattle.rast_types.specs.declared.ty.Kind.{Kind}
use Rattle.rast_types.specs.declared.ty.Kind.TheVariants as kind

-- a type that is a head, with its layer
pub record Form : Type 0 where
  pub type : Ty
  pub layer : Layer
  pub is : out-Ty type ≡ layer
  pub kind : Kind
  pub has : kind_layer layer ≡ Some kind

abbrev pub one : Form
one = record { type = ty.One; layer = layer.One; is = ty.outs-One; kind = kind.One; has = refl }

abbrev pub plus : List (ℕ × Ty) → Form
plus ts = record { type = ty.Plus ts; layer = layer.Plus ts; is = ty.outs-Plus ts; kind = kind.Plus; has = refl }

abbrev pub with' : List (ℕ × Ty) → Form
with' ts = record { type = ty.With ts; layer = layer.With ts; is = ty.outs-With ts; kind = kind.With; has = refl }

abbrev pub tensor : Ty → Ty → Form
tensor a b = record { type = ty.Tensor a b; layer = layer.Tensor a b; is = ty.outs-Tensor a b; kind = kind.Tensor; has = refl }

abbrev pub lolli : Ty → Ty → Form
lolli a b = record { type = ty.Lolli a b; layer = layer.Lolli a b; is = ty.outs-Lolli a b; kind = kind.Lolli; has = refl }

abbrev pub ex : Ty → Form
ex a = record { type = ty.Ex a; layer = layer.Ex a; is = ty.outs-Ex a; kind = kind.Ex; has = refl }

abbrev pub all : Ty → Form
all a = record { type = ty.All a; layer = layer.All a; is = ty.outs-All a; kind = kind.All; has = refl }

abbrev pub assert : Formula → Ty → Form
assert f a = record { type = ty.Assert f a; layer = layer.Assert f a; is = ty.outs-Assert f a; kind = kind.Assert; has = refl }

abbrev pub assume : Formula → Ty → Form
assume f a = record { type = ty.Assume f a; layer = layer.Assume f a; is = ty.outs-Assume f a; kind = kind.Assume; has = refl }

abbrev pub pays : Linear → Ty → Form
pays l a = record { type = ty.Pays l a; layer = layer.Pays l a; is = ty.outs-Pays l a; kind = kind.Pays; has = refl }

abbrev pub gets : Linear → Ty → Form
gets l a = record { type = ty.Gets l a; layer = layer.Gets l a; is = ty.outs-Gets l a; kind = kind.Gets; has = refl }

-- what a closed type says first
pub record Head (t : Table) (c : Closed) : Type 0 where
  pub ticks : ℤ
  pub form : Form
  pub at : List ℤ
  pub shows : exposed t c ≡ record { ticks = ticks; head = closed form.type at }

exposes_to : (t : Table) (c : Closed) (l : Layer) (k : Kind) → kind_layer l ≡ Some k → exposed_layer t c l ≡ record { ticks = pos 0; head = c }
exposes_to t c (layer.Next n a) k e = cc
exposes_to t c l k e = refl

unfolds_to : (t : Table) (c : Closed) (l : Layer) (k : Kind) → kind_layer l ≡ Some k → unfold_layer t c l ≡ c
unfolds_to t c (layer.Named n args) k e = cc
unfolds_to t c l k e = refl

pub form_unfolds : (t : Table) (f : Form) (at : List ℤ) → unfolded t (closed f.type at) ≡ closed f.type at
form_unfolds t f at = unfolds_to t (closed f.type at) (out-Ty f.type) f.kind (ap kind_layer f.is ∙ f.has)

pub form_shows : (t : Table) (f : Form) (at : List ℤ) → exposed t (closed f.type at) ≡ record { ticks = pos 0; head = closed f.type at }
form_shows t f at = ap (λ x. exposed_layer t x (out-Ty x.ty)) (form_unfolds t f at) ∙ exposes_to t (closed f.type at) (out-Ty f.type) f.kind (ap kind_layer f.is ∙ f.has)

-- a next over a head
pub next_shows : (t : Table) (l : Linear) (f : Form) (at : List ℤ) → exposed t (closed (ty.Next l f.type) at) ≡ record { ticks = value l at; head = closed f.type at }
next_shows t l f at =
    let c = closed (ty.Next l f.type) at in
    let u : unfolded t c ≡ c = ap (unfold_layer t c) (ty.outs-Next l f.type) in
    let e : exposed t c ≡ exposed_layer t c (out-Ty c.ty) = ap (λ x. exposed_layer t x (out-Ty x.ty)) u in
    e ∙ (ap (exposed_layer t c) (ty.outs-Next l f.type) ∙ ap (λ (h : Closed). let x : Exposed = record { ticks = value l at; head = h } in x) (form_unfolds t f at))

abbrev pub of_form : (t : Table) (f : Form) (at : List ℤ) → Head t (closed f.type at)
of_form t f at = record { ticks = pos 0; form = f; at = at; shows = form_shows t f at }

abbrev pub of_next : (t : Table) (l : Linear) (f : Form) (at : List ℤ) → Head t (closed (ty.Next l f.type) at)
of_next t l f at = record { ticks = value l at; form = f; at = at; shows = next_shows t l f at }

-- agreement, by layers
pub record Alike (R : Closed → Closed → Type 0) (x : Layer) (at : List ℤ) (y : Layer) (bt : List ℤ) : Type 0 where
  pub kind : kind_layer x ≡ kind_layer y
  pub figure : figure_layer x at ≡ figure_layer y bt
  pub ways : (w : Way) → is_some (part_layer x at w) ≡ is_some (part_layer y bt w)
  pub parts : (w : Way) (a b : Closed) → part_layer x at w ≡ Some a → part_layer y bt w ≡ Some b → R a b

abbrev pub AreAlike : (Closed → Closed → Type 0) → ℤ → Form → List ℤ → ℤ → Form → List ℤ → Type 0
AreAlike R z f at u g bt = (z ≡ u) × Alike R f.layer at g.layer bt

opened : (R : Closed → Closed → Type 0) (f g : Form) (at bt : List ℤ) → Agree R (closed f.type at) (closed g.type bt) → Alike R f.layer at g.layer bt
opened R f g at bt h = subst₂ (λ x y. Alike R x at y bt) f.is g.is (record { kind = h.kind; figure = h.figure; ways = h.ways; parts = h.parts })

closed_up : (R : Closed → Closed → Type 0) (f g : Form) (at bt : List ℤ) → Alike R f.layer at g.layer bt → Agree R (closed f.type at) (closed g.type bt)
closed_up R f g at bt h =
    let k : Alike R (out-Ty f.type) at (out-Ty g.type) bt = subst₂ (λ x y. Alike R x at y bt) (sym f.is) (sym g.is) h in
    record { kind = k.kind; figure = k.figure; ways = k.ways; parts = k.parts }

abbrev Both : (Closed → Closed → Type 0) → Exposed → Exposed → Type 0
Both R a b = (a.ticks ≡ b.ticks) × Agree R a.head b.head

pub to : (t : Table) (k : ℕ) (a b : Closed) (x : Head t a) (y : Head t b) → EqualTo t (suc k) a b → AreAlike (EqualTo t k) x.ticks x.form x.at y.ticks y.form y.at
to t k a b x y h =
    let g : Both (EqualTo t k) (record { ticks = x.ticks; head = closed x.form.type x.at }) (record { ticks = y.ticks; head = closed y.form.type y.at }) = subst₂ (Both (EqualTo t k)) x.shows y.shows h in
    (g.0, opened (EqualTo t k) x.form y.form x.at y.at g.1)

pub from : (t : Table) (k : ℕ) (a b : Closed) (x : Head t a) (y : Head t b) → AreAlike (EqualTo t k) x.ticks x.form x.at y.ticks y.form y.at → EqualTo t (suc k) a b
from t k a b x y h =
    let g : Both (EqualTo t k) (record { ticks = x.ticks; head = closed x.form.type x.at }) (record { ticks = y.ticks; head = closed y.form.type y.at }) = (h.0, closed_up (EqualTo t k) x.form y.form x.at y.at h.1) in
    subst₂ (Both (EqualTo t k)) (sym x.shows) (sym y.shows) g

-- 1 is 1, whatever the numbers
pub one_to : (t : Table) (k : ℕ) (at bt : List ℤ) → EqualTo t k (closed ty.One at) (closed ty.One bt)
one_to t zero at bt = tt
one_to t (suc k) at bt = from t k (closed one.type at) (closed one.type bt) (of_form t one at) (of_form t one bt) (refl, record { kind = refl; figure = refl; ways = λ w. refl; parts = λ w x y p q. absurd (cc) })
