-- What a closed type unfolds to, and what is exposed of it.
use Rattle.std.proofs.Common.{◌≡◌, ℕ, zero, suc, pos, false, Option, Some, None, map, refl, sym, ap, ◌∙◌, subst, slice_get}
use Rattle.rast_index.specs.Linear.{Linear, value}
use Rattle.rast_types.specs.declared.table.TypeDef.{TypeDef}
use Rattle.rast_types.specs.declared.ty.Ty.{Ty, out-Ty}
use Rattle.rast_types.specs.declared.ty.Ty.TheOpen.{One, Plus, With, Tensor, Lolli, Named, Ex, All, Assert, Assume, Pays, Gets, Next}
use Rattle.rast_types.specs.Closed.{Closed, closed, Table, Layer, Agree, EqualTo, Equal, Exposed, exposed, exposed_layer, body_or, unfold_layer, unfolded}
use Rattle.rast_types.specs.Symbolic.{is_name, is_name_layer, is_next, is_next_layer}
use Rattle.rast_equal.proofs.Equals.{HasKind, equal_refl, exposes_to}
use Rattle.rast_equal.proofs.Exposing.{Unnamed}

-- ---- what unfolds to itself

plain_layer : (t : Table) (c : Closed) (x : Layer) → is_name_layer x ≡ false → unfold_layer t c x ≡ c
plain_layer t c (Named n args) h = cc
plain_layer t c One h = refl
plain_layer t c (Plus ts) h = refl
plain_layer t c (With ts) h = refl
plain_layer t c (Tensor a b) h = refl
plain_layer t c (Lolli a b) h = refl
plain_layer t c (Ex a) h = refl
plain_layer t c (All a) h = refl
plain_layer t c (Assert f a) h = refl
plain_layer t c (Assume f a) h = refl
plain_layer t c (Pays p a) h = refl
plain_layer t c (Gets p a) h = refl
plain_layer t c (Next l a) h = refl

-- a type that is no name unfolds to itself
pub unfolds_plain : (t : Table) (c : Closed) → is_name c.ty ≡ false → unfolded t c ≡ c
unfolds_plain t c h = plain_layer t c (out-Ty c.ty) h

-- nothing unfolds twice
twice : (t : Table) (c : Closed) (x : Layer) → Unnamed t → out-Ty c.ty ≡ x → unfolded t (unfold_layer t c x) ≡ unfold_layer t c x
twice t c (Named k es) u o = pick (slice_get t k) refl
  where
    pick : (d : Option TypeDef) → slice_get t k ≡ d → unfolded t (body_or c d (map (λ e. value e c.at) es)) ≡ body_or c d (map (λ e. value e c.at) es)
    pick None e = ap (unfold_layer t c) o ∙ ap (λ d. body_or c d (map (λ e. value e c.at) es)) e
    pick (Some d) e = plain_layer t (closed d.body (map (λ e. value e c.at) es)) (out-Ty d.body) (u k d e)
twice t c x u o = ap (unfold_layer t c) o

-- types that unfold to the same closed type are equal
pub unfolds_equal : (t : Table) (k : ℕ) (a b : Closed) → unfolded t a ≡ unfolded t b → EqualTo t k a b
unfolds_equal t zero a b e = tt
unfolds_equal t (suc k) a b e =
    let x : exposed t a ≡ exposed t b = ap (λ u. exposed_layer t u (out-Ty u.ty)) e in
    subst (λ y. (let z : Exposed = y in ((exposed t a).ticks ≡ z.ticks) × Agree (EqualTo t k) (exposed t a).head z.head)) x (equal_refl t a (suc k))

-- a type is equal to what it unfolds to, where no definition stands for a name
pub unfolded_equal : (t : Table) (c : Closed) → Unnamed t → Equal t c (unfolded t c)
unfolded_equal t c u = λ k. unfolds_equal t k c (unfolded t c) (sym (twice t c (out-Ty c.ty) u refl))

-- ---- what is exposed of a closed type that is a next, or none

pub next_exposes : (t : Table) (c : Closed) (l : Linear) (b : Ty) → out-Ty c.ty ≡ Next l b → exposed t c ≡ record { ticks = value l c.at; head = unfolded t (closed b c.at) }
next_exposes t c l b o =
    let u : unfolded t c ≡ c = ap (unfold_layer t c) o in
    ap (λ x. exposed_layer t x (out-Ty x.ty)) u ∙ ap (exposed_layer t c) o

pub unfolds_exposes : (t : Table) (c : Closed) → HasKind (unfolded t c) → exposed t c ≡ record { ticks = pos 0; head = unfolded t c }
unfolds_exposes t c k = exposes_to t (unfolded t c) (out-Ty (unfolded t c).ty) k.0 k.1

-- where a closed type with a head doesn't unfold to a next, it unfolds to its head
no_next : (t : Table) (c : Closed) (x : Layer) → is_next_layer x ≡ false → exposed_layer t c x ≡ record { ticks = pos 0; head = c }
no_next t c (Next l b) h = cc
no_next t c One h = refl
no_next t c (Plus ts) h = refl
no_next t c (With ts) h = refl
no_next t c (Tensor b d) h = refl
no_next t c (Lolli b d) h = refl
no_next t c (Named k xs) h = refl
no_next t c (Ex b) h = refl
no_next t c (All b) h = refl
no_next t c (Assert f b) h = refl
no_next t c (Assume f b) h = refl
no_next t c (Pays p b) h = refl
no_next t c (Gets p b) h = refl

pub plain_unfolds : (t : Table) (c : Closed) → is_next (unfolded t c).ty ≡ false → exposed t c ≡ record { ticks = pos 0; head = unfolded t c }
plain_unfolds t c h = no_next t (unfolded t c) (out-Ty (unfolded t c).ty) h
