-- Equality of closed types, and heads that agree.
use Rattle.std.proofs.Common.{◌≡◌, ℕ, zero, suc, pos, true, Option, Some, None, is_some, refl, sym, ◌∙◌, ap, subst}
use Rattle.rast_types.specs.declared.ty.Kind.{Kind}
use Rattle.rast_types.specs.declared.ty.Ty.{out-Ty}
use Rattle.rast_types.specs.declared.ty.Ty.TheOpen.{Named, Next}
use Rattle.rast_types.specs.Closed.{Closed, Table, Layer, Way, EqualTo, Equal, exposed, exposed_layer, unfold_layer, unfolded, part_of, kind_of, kind_layer, figure_of}

pub some_same : {A : Type 0} {x y : A} (o : Option A) → o ≡ Some x → o ≡ Some y → x ≡ y
some_same {A} o p q = cc

pub some_of : {A : Type 0} (o : Option A) → is_some o ≡ true → (x : A) × (o ≡ Some x)
some_of {A} (Some x) e = (x, refl)
some_of {A} None e = absurd (cc)

-- ---- an equivalence

to_refl : (t : Table) (k : ℕ) (a : Closed) → EqualTo t k a a
to_refl t zero a = tt
to_refl t (suc k) a = (
  refl,
  record {
    kind = refl;
    figure = refl;
    ways = λ w. refl;
    parts = λ w x y p q. subst (λ z. EqualTo t k x z) (some_same (part_of (exposed t a).head w) p q) (to_refl t k x);
  },
)

pub equal_refl : (t : Table) (a : Closed) → Equal t a a
equal_refl t a = λ k. to_refl t k a

pub to_sym : (t : Table) (k : ℕ) (a b : Closed) → EqualTo t k a b → EqualTo t k b a
to_sym t zero a b h = tt
to_sym t (suc k) a b h = (
  sym h.0,
  record {
    kind = sym h.1.kind;
    figure = sym h.1.figure;
    ways = λ w. sym (h.1.ways w);
    parts = λ w x y p q. to_sym t k y x (h.1.parts w y x q p);
  },
)

pub equal_sym : (t : Table) (a b : Closed) → Equal t a b → Equal t b a
equal_sym t a b h = λ k. to_sym t k a b (h k)

pub to_trans : (t : Table) (k : ℕ) (a b c : Closed) → EqualTo t k a b → EqualTo t k b c → EqualTo t k a c
to_trans t zero a b c g h = tt
to_trans t (suc k) a b c g h = (
  g.0 ∙ h.0,
  record {
    kind = g.1.kind ∙ h.1.kind;
    figure = g.1.figure ∙ h.1.figure;
    ways = λ w. g.1.ways w ∙ h.1.ways w;
    parts = λ w x y p q.
        let m = some_of (part_of (exposed t b).head w) (sym (g.1.ways w) ∙ ap is_some p) in
        to_trans t k x m.0 y (g.1.parts w x m.0 p m.1) (h.1.parts w m.0 y m.1 q);
  },
)

pub equal_trans : (t : Table) (a b c : Closed) → Equal t a b → Equal t b c → Equal t a c
equal_trans t a b c g h = λ k. to_trans t k a b c (g k) (h k)

-- ---- heads that agree

-- two heads of one kind, with the same figure and equal parts
pub record SameHeads (t : Table) (a b : Closed) : Type 0 where
  pub kind : kind_of a.ty ≡ kind_of b.ty
  pub figure : figure_of a ≡ figure_of b
  pub ways : (w : Way) → is_some (part_of a w) ≡ is_some (part_of b w)
  pub parts : (w : Way) (x y : Closed) → part_of a w ≡ Some x → part_of b w ≡ Some y → Equal t x y

pub equal_heads : (t : Table) (a b : Closed) → Equal t a b → SameHeads t (exposed t a).head (exposed t b).head
equal_heads t a b h = record {
  kind = (h 1).1.kind;
  figure = (h 1).1.figure;
  ways = λ w. (h 1).1.ways w;
  parts = λ w x y p q. λ k. (h (suc k)).1.parts w x y p q;
}

pub equal_ticks : (t : Table) (a b : Closed) → Equal t a b → (exposed t a).ticks ≡ (exposed t b).ticks
equal_ticks t a b h = (h 1).0

pub equal_from : (t : Table) (a b : Closed) → (exposed t a).ticks ≡ (exposed t b).ticks → SameHeads t (exposed t a).head (exposed t b).head → Equal t a b
equal_from t a b e s zero = tt
equal_from t a b e s (suc k) = (e, record { kind = s.kind; figure = s.figure; ways = s.ways; parts = λ w x y p q. s.parts w x y p q k })

pub heads_sym : (t : Table) (a b : Closed) → SameHeads t a b → SameHeads t b a
heads_sym t a b s = record { kind = sym s.kind; figure = sym s.figure; ways = λ w. sym (s.ways w); parts = λ w x y p q. equal_sym t y x (s.parts w y x q p) }

pub heads_trans : (t : Table) (a b c : Closed) → SameHeads t a b → SameHeads t b c → SameHeads t a c
heads_trans t a b c r s = record {
  kind = r.kind ∙ s.kind;
  figure = r.figure ∙ s.figure;
  ways = λ w. r.ways w ∙ s.ways w;
  parts = λ w x y p q.
      let m = some_of (part_of b w) (sym (r.ways w) ∙ ap is_some p) in
      equal_trans t x m.0 y (r.parts w x m.0 p m.1) (s.parts w m.0 y m.1 q);
}

-- a part on the other side
pub part_across : (t : Table) (a b : Closed) (w : Way) (x : Closed) → SameHeads t a b → part_of a w ≡ Some x → (y : Closed) × (part_of b w ≡ Some y) × Equal t x y
part_across t a b w x s p =
    let m = some_of (part_of b w) (sym (s.ways w) ∙ ap is_some p) in (m.0, m.1, s.parts w x m.0 p m.1)

-- ---- what has a kind is its own head

abbrev pub HasKind : Closed → Type 0
HasKind c = (k : Kind) × (kind_of c.ty ≡ Some k)

-- the head of a closed type has a kind
abbrev pub HasHead : Table → Closed → Type 0
HasHead t c = HasKind (exposed t c).head

unfolds_to : (t : Table) (c : Closed) (l : Layer) (k : Kind) → kind_layer l ≡ Some k → unfold_layer t c l ≡ c
unfolds_to t c (Named n args) k e = cc
unfolds_to t c l k e = refl

pub exposes_to : (t : Table) (c : Closed) (l : Layer) (k : Kind) → kind_layer l ≡ Some k → exposed_layer t c l ≡ record { ticks = pos 0; head = c }
exposes_to t c (Next n a) k e = cc
exposes_to t c l k e = refl

pub head_of_head : (t : Table) (c : Closed) (k : Kind) → kind_of c.ty ≡ Some k → exposed t c ≡ record { ticks = pos 0; head = c }
head_of_head t c k e =
    let u : unfolded t c ≡ c = unfolds_to t c (out-Ty c.ty) k e in
    ap (λ x. exposed_layer t x (out-Ty x.ty)) u ∙ exposes_to t c (out-Ty c.ty) k e

-- heads that are equal as types agree, where both have kinds; and the other way round
pub same_heads : (t : Table) (a b : Closed) (k j : Kind) → kind_of a.ty ≡ Some k → kind_of b.ty ≡ Some j → Equal t a b → SameHeads t a b
same_heads t a b k j p q h =
    subst (λ x. SameHeads t x b) (ap (λ x. x.head) (head_of_head t a k p)) (subst (λ y. SameHeads t (exposed t a).head y) (ap (λ x. x.head) (head_of_head t b j q)) (equal_heads t a b h))

pub equal_of_heads : (t : Table) (a b : Closed) (k j : Kind) → kind_of a.ty ≡ Some k → kind_of b.ty ≡ Some j → SameHeads t a b → Equal t a b
equal_of_heads t a b k j p q s =
    let x : exposed t a ≡ record { ticks = pos 0; head = a } = head_of_head t a k p in
    let y : exposed t b ≡ record { ticks = pos 0; head = b } = head_of_head t b j q in
    equal_from t a b (ap (λ z. z.ticks) x ∙ sym (ap (λ z. z.ticks) y)) (subst (λ u. SameHeads t u (exposed t b).head) (sym (ap (λ z. z.head) x)) (subst (λ v. SameHeads t a v) (sym (ap (λ z. z.head) y)) s))
