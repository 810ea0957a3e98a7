-- The outside of a type whose variables are replaced: a name stays a name, and a next a next.
use Rattle.std.proofs.Common.{◌≡◌, ℕ, suc, ◌+◌, Bool, true, false, List, [], ◌∷◌, ◌++◌, map, Option, Some, None, is_some, sym, ◌∙◌, ap, refl, subst}
use Rattle.std.specs.Prelude.{slice_get}
use Rattle.rast_index.specs.Linear.{Linear, replaced, variable, nought}
use Rattle.rast_index.specs.Truth.{put}
use Rattle.rast_types.specs.declared.table.TypeDef.{TypeDef}
use Rattle.rast_types.specs.declared.ty.Ty.{Ty, out-Ty, roll-Ty, roll-out-Ty}
use Rattle.rast_types.specs.declared.ty.Ty.TheVariants as ty
use Rattle.rast_types.specs.declared.ty.Ty.TheOpen.{Ty-F, One, Plus, With, Tensor, Lolli, Named, Ex, All, Assert, Assume, Pays, Gets, Next}
use Rattle.rast_types.specs.declared.ty.Ty.TheFolds.{fold-roll-Ty, map-Ty}
use Rattle.rast_types.specs.Closed.{Table, Layer}
use Rattle.rast_types.specs.Symbolic.{put_type, put_step, opened, opened_layer, body_at, timed, timed_layer, Timed, is_next, is_next_layer}
use Rattle.rast_types.specs.Found.{Names, is_defined, is_defined_layer}
use Rattle.rast_types.proofs.Puts.{put_choices, parts_put}

-- one layer with its variables replaced
abbrev pub put_layer : ℕ → List Linear → Layer → Layer
put_layer n args One = One
put_layer n args (Plus ts) = Plus (put_choices n args ts)
put_layer n args (With ts) = With (put_choices n args ts)
put_layer n args (Tensor a b) = Tensor (put_type n args a) (put_type n args b)
put_layer n args (Lolli a b) = Lolli (put_type n args a) (put_type n args b)
put_layer n args (Named k es) = Named k (map (replaced args) es)
put_layer n args (Ex a) = Ex (put_type (n + 1) (args ++ variable n ∷ []) a)
put_layer n args (All a) = All (put_type (n + 1) (args ++ variable n ∷ []) a)
put_layer n args (Assert f a) = Assert (put args f) (put_type n args a)
put_layer n args (Assume f a) = Assume (put args f) (put_type n args a)
put_layer n args (Pays p a) = Pays (replaced args p) (put_type n args a)
put_layer n args (Gets p a) = Gets (replaced args p) (put_type n args a)
put_layer n args (Next l a) = Next (replaced args l) (put_type n args a)

abbrev pub puts : Layer → Ty-F (ℕ → List Linear → Ty)
puts x = map-Ty Ty (ℕ → List Linear → Ty) (λ a m bs. put_type m bs a) x

-- a rolled layer with its variables replaced
pub put_at : (n : ℕ) (args : List Linear) (x : Layer) → put_type n args (roll-Ty x) ≡ put_step (puts x) n args
put_at n args x = ap (λ g. g n args) (fold-roll-Ty (ℕ → List Linear → Ty) put_step x)

outs : (n : ℕ) (args : List Linear) (x : Layer) → out-Ty (put_step (puts x) n args) ≡ put_layer n args x
outs n args One = ty.outs-One
outs n args (Plus ts) = ty.outs-Plus _ ∙ ap Plus (parts_put n args ts)
outs n args (With ts) = ty.outs-With _ ∙ ap With (parts_put n args ts)
outs n args (Tensor a b) = ty.outs-Tensor _ _
outs n args (Lolli a b) = ty.outs-Lolli _ _
outs n args (Named k es) = ty.outs-Named _ _
outs n args (Ex a) = ty.outs-Ex _
outs n args (All a) = ty.outs-All _
outs n args (Assert f a) = ty.outs-Assert _ _
outs n args (Assume f a) = ty.outs-Assume _ _
outs n args (Pays p a) = ty.outs-Pays _ _
outs n args (Gets p a) = ty.outs-Gets _ _
outs n args (Next l a) = ty.outs-Next _ _

pub out_put : (n : ℕ) (args : List Linear) (a : Ty) → out-Ty (put_type n args a) ≡ put_layer n args (out-Ty a)
out_put n args a = ap (λ b. out-Ty (put_type n args b)) (sym (roll-out-Ty a)) ∙ ap out-Ty (put_at n args (out-Ty a)) ∙ outs n args (out-Ty a)

-- ---- names

stays : (t : Table) (n : ℕ) (a : Ty) (x : Layer) → is_defined_layer t x ≡ false → opened_layer t n a x ≡ a
stays t n a (Named k es) h = undefined n a es (slice_get t k) h
  where
    undefined : (n : ℕ) (a : Ty) (es : List Linear) (o : Option TypeDef) → is_some o ≡ false → body_at n a o es ≡ a
    undefined n a es None h = refl
    undefined n a es (Some d) h = absurd (cc)
stays t n a One h = refl
stays t n a (Plus ts) h = refl
stays t n a (With ts) h = refl
stays t n a (Tensor b c) h = refl
stays t n a (Lolli b c) h = refl
stays t n a (Ex b) h = refl
stays t n a (All b) h = refl
stays t n a (Assert f b) h = refl
stays t n a (Assume f b) h = refl
stays t n a (Pays p b) h = refl
stays t n a (Gets p b) h = refl
stays t n a (Next l b) h = refl

defined_put : (t : Table) (n : ℕ) (args : List Linear) (x : Layer) → is_defined_layer t (put_layer n args x) ≡ is_defined_layer t x
defined_put t n args (Named k es) = refl
defined_put t n args One = refl
defined_put t n args (Plus ts) = refl
defined_put t n args (With ts) = refl
defined_put t n args (Tensor b c) = refl
defined_put t n args (Lolli b c) = refl
defined_put t n args (Ex b) = refl
defined_put t n args (All b) = refl
defined_put t n args (Assert f b) = refl
defined_put t n args (Assume f b) = refl
defined_put t n args (Pays p b) = refl
defined_put t n args (Gets p b) = refl
defined_put t n args (Next l b) = refl

-- a type that names no definition is not unfolded
pub opened_stays : (t : Table) (n : ℕ) (a : Ty) → is_defined t a ≡ false → opened t n a ≡ a
opened_stays t n a h = stays t n a (out-Ty a) h

pub opened_names : (t : Table) (n : ℕ) (a body : Ty) (args : List Linear) → Names t a body args → opened t n a ≡ put_type n args body
opened_names t n a body args h = ap (opened_layer t n a) h.named ∙ ap (λ o. body_at n a o args) h.found ∙ ap (put_type n args) h.is

-- the same where the variables are replaced
pub opened_put_stays : (t : Table) (n : ℕ) (args : List Linear) (a : Ty) → is_defined t a ≡ false → opened t n (put_type n args a) ≡ put_type n args a
opened_put_stays t n args a h =
    opened_stays t n (put_type n args a) (ap (is_defined_layer t) (out_put n args a) ∙ defined_put t n args (out-Ty a) ∙ h)

pub opened_put_names : (t : Table) (n : ℕ) (args : List Linear) (a body : Ty) (terms : List Linear) → Names t a body terms →
    opened t n (put_type n args a) ≡ put_type n (map (replaced args) terms) body
opened_put_names t n args a body terms h =
    ap (opened_layer t n (put_type n args a)) (out_put n args a ∙ ap (put_layer n args) h.named)
    ∙ ap (λ o. body_at n (put_type n args a) o (map (replaced args) terms)) h.found ∙ ap (put_type n (map (replaced args) terms)) h.is

-- ---- ticks

abbrev next_from : Linear → Ty → Timed
next_from l a = record { ticks = l; body = a }

no_ticks : (a : Ty) (x : Layer) → is_next_layer x ≡ false → timed_layer a x ≡ next_from nought a
no_ticks a One h = refl
no_ticks a (Plus ts) h = refl
no_ticks a (With ts) h = refl
no_ticks a (Tensor b c) h = refl
no_ticks a (Lolli b c) h = refl
no_ticks a (Named k es) h = refl
no_ticks a (Ex b) h = refl
no_ticks a (All b) h = refl
no_ticks a (Assert f b) h = refl
no_ticks a (Assume f b) h = refl
no_ticks a (Pays p b) h = refl
no_ticks a (Gets p b) h = refl
no_ticks a (Next l b) h = absurd (cc)

next_put : (n : ℕ) (args : List Linear) (x : Layer) → is_next_layer (put_layer n args x) ≡ is_next_layer x
next_put n args One = refl
next_put n args (Plus ts) = refl
next_put n args (With ts) = refl
next_put n args (Tensor b c) = refl
next_put n args (Lolli b c) = refl
next_put n args (Named k es) = refl
next_put n args (Ex b) = refl
next_put n args (All b) = refl
next_put n args (Assert f b) = refl
next_put n args (Assume f b) = refl
next_put n args (Pays p b) = refl
next_put n args (Gets p b) = refl
next_put n args (Next l b) = refl

-- a type that is no next has no ticks
pub timed_none : (a : Ty) → is_next a ≡ false → timed a ≡ record { ticks = nought; body = a }
timed_none a h = no_ticks a (out-Ty a) h

pub timed_next : (a b : Ty) (l : Linear) → out-Ty a ≡ Next l b → timed a ≡ record { ticks = l; body = b }
timed_next a b l h = ap (timed_layer a) h

-- the same where the variables are replaced
pub timed_put_none : (n : ℕ) (args : List Linear) (a : Ty) → is_next a ≡ false → timed (put_type n args a) ≡ record { ticks = nought; body = put_type n args a }
timed_put_none n args a h = timed_none (put_type n args a) (ap is_next_layer (out_put n args a) ∙ next_put n args (out-Ty a) ∙ h)

pub timed_put_next : (n : ℕ) (args : List Linear) (a b : Ty) (l : Linear) → out-Ty a ≡ Next l b →
    timed (put_type n args a) ≡ record { ticks = replaced args l; body = put_type n args b }
timed_put_next n args a b l h = ap (timed_layer (put_type n args a)) (out_put n args a ∙ ap (put_layer n args) h)

pub names_of : (t : Table) (a : Ty) (k : ℕ) (es xs : List Linear) (d : TypeDef) → a ≡ ty.Named k es → xs ≡ es → Some d ≡ slice_get t k → Names t a d.body xs
names_of t a k es xs d named same found = record {
  number = k;
  named = ap out-Ty named ∙ ty.outs-Named k es ∙ ap (Named k) (sym same);
  definition = d;
  found = sym found;
  is = refl;
}
