-- The ticks before a head, where the variables have values.
use Rattle.std.proofs.Common.{◌≡◌, ◌≢◌, ℕ, zero, suc, ◌+◌, ◌<◌, ◌≤◌, min, ℤ, pos, ◌+ℤ◌, ◌*ℤ◌, List, [], ◌∷◌, length, get_or, set, map, sym, ◌∙◌, ap, ap₂, refl, subst, arith, false, Option, Some, None, is_some, inl, inr, get_or-set_same, get_or-set_other, length-set}
use Rattle.std.specs.Prelude.{All, slice_get}
use Rattle.std.proofs.lemmas.List.{get_or-map, length-map, get_or_past}
use Rattle.std.proofs.lemmas.Bool.{cases_lt, cases_eq}
use Rattle.std.proofs.lemmas.Int.{ints}
use Rattle.rast_index.specs.Linear.{Linear, value, weighted, whole}
use Rattle.rast_types.specs.declared.ty.Ty.{Ty, out-Ty}
use Rattle.rast_types.specs.declared.ty.Ty.TheOpen.{One, Plus, With, Tensor, Lolli, Named, Ex, All as Each, Assert, Assume, Pays, Gets, Next}
use Rattle.rast_types.specs.Closed.{Table, Layer, Closed, closed, unfolded, unfold_layer, body_or, exposed, exposed_layer}
use Rattle.rast_types.specs.Symbolic.{is_next, is_next_layer}
use Rattle.rast_types.specs.Found.{Names, is_defined, is_defined_layer}
use Rattle.rast_types.specs.Timely.{IsIndex, IsValued, argument_values}
use Rattle.rast_types.specs.declared.table.TypeDef.{TypeDef}

-- ---- values that are read one by one

pub All_unmap : {X : Type 0} (P : ℤ → Type 0) (f : X → ℤ) (xs : List X) → All P (map f xs) → All (λ x. P (f x)) xs
All_unmap {X} P f xs h = λ k d below. subst P (get_or-map f xs k d (f d) below) (h k (f d) (omega (arith, length-map xs f)))

-- the first i are read, and the others are 0
pub record Reads (values : List ℤ) (out : List ℕ) (i : ℕ) : Type 0 where
  pub sized : length out ≡ 16
  pub read : (k : ℕ) → k < i → pos (get_or out k 0) ≡ get_or values k (pos 0)
  pub rest : (k : ℕ) → i ≤ k → get_or out k 0 ≡ 0

pub reads_more : (values : List ℤ) (out : List ℕ) (i y : ℕ) → Reads values out i → i < 16 → pos y ≡ get_or values i (pos 0) → Reads values (set out i y) (i + 1)
reads_more values out i y r below e = record {
  sized = length-set out i y ∙ r.sized;
  read = λ k h. elim (cases_eq k i) [
    | inl same ↦ subst (λ j. pos (get_or (set out i y) j 0) ≡ get_or values j (pos 0)) (sym same) (ap pos (get_or-set_same out i y 0 (omega (arith, r.sized))) ∙ e)
    | inr other ↦ ap pos (get_or-set_other out i k y 0 other) ∙ r.read k (omega (arith, other))
  ];
  rest = λ k h. get_or-set_other out i k y 0 (λ same. omega arith) ∙ r.rest k (omega arith);
}

pub reads_all : (values : List ℤ) (out : List ℕ) (i n : ℕ) → Reads values out i → n ≡ length values → min n 16 ≤ i → IsValued values out
reads_all values out i n r counted h = record {
  sized = r.sized;
  at = λ k below. elim (cases_lt k i) [
    | inl read ↦ r.read k read
    | inr past ↦ ap pos (r.rest k past) ∙ sym (get_or_past values k (pos 0) (omega arith))
  ];
}

weighted_none : (cs : List ℤ) → weighted cs [] ≡ pos 0
weighted_none [] = refl
weighted_none (c ∷ cs) = refl

weighted_same : (cs vs ws : List ℤ) → ((k : ℕ) → k < length cs → get_or vs k (pos 0) ≡ get_or ws k (pos 0)) → weighted cs vs ≡ weighted cs ws
weighted_same [] vs ws h = refl
weighted_same (c ∷ cs) [] [] h = refl
weighted_same (c ∷ cs) [] (w ∷ ws) h =
    let first : pos 0 ≡ w = h 0 (omega arith) in
    let none : weighted cs [] ≡ weighted cs ws = weighted_same cs [] ws (λ k below. h (suc k) (omega arith)) in
    let e = ap (λ z. c *ℤ z) first in
    omega (arith, ints, e, none, weighted_none cs)
weighted_same (c ∷ cs) (v ∷ vs) [] h =
    let first : v ≡ pos 0 = h 0 (omega arith) in
    let none : weighted cs vs ≡ weighted cs [] = weighted_same cs vs [] (λ k below. h (suc k) (omega arith)) in
    let e = ap (λ z. c *ℤ z) first in
    omega (arith, ints, e, none, weighted_none cs)
weighted_same (c ∷ cs) (v ∷ vs) (w ∷ ws) h =
    ap₂ (λ x y. (c *ℤ x) +ℤ y) (h 0 (omega arith)) (weighted_same cs vs ws (λ k below. h (suc k) (omega arith)))

pub value_valued : (l : Linear) (values : List ℤ) (out : List ℕ) → length l.coefficients ≡ 16 → IsValued values out → value l (whole out) ≡ value l values
value_valued l values out sized v =
    ap (λ z. l.constant +ℤ z) (weighted_same l.coefficients (whole out) values (λ k below.
    get_or-map pos out k 0 (pos 0) (omega (arith, sized, v.sized)) ∙ v.at k (omega (arith, sized))))

-- ---- the ticks

unfolded_names : (t : Table) (a body : Ty) (args : List Linear) (at : List ℤ) → Names t a body args → unfolded t (closed a at) ≡ closed body (map (λ x. value x at) args)
unfolded_names t a body args at h =
    ap (unfold_layer t (closed a at)) h.named ∙ ap (λ o. body_or (closed a at) o (map (λ x. value x at) args)) h.found ∙ ap (λ b. closed b (map (λ x. value x at) args)) h.is

unfolded_stays : (t : Table) (c : Closed) (x : Layer) → is_defined_layer t x ≡ false → unfold_layer t c x ≡ c
unfolded_stays t c (Named k args) h = undefined c (slice_get t k) (map (λ a. value a c.at) args) h
  where
    undefined : (c : Closed) (o : Option TypeDef) (at : List ℤ) → is_some o ≡ false → body_or c o at ≡ c
    undefined c None at h = refl
    undefined c (Some d) at h = absurd (cc)
unfolded_stays t c One h = refl
unfolded_stays t c (Plus ts) h = refl
unfolded_stays t c (With ts) h = refl
unfolded_stays t c (Tensor a b) h = refl
unfolded_stays t c (Lolli a b) h = refl
unfolded_stays t c (Ex a) h = refl
unfolded_stays t c (Each a) h = refl
unfolded_stays t c (Assert f a) h = refl
unfolded_stays t c (Assume f a) h = refl
unfolded_stays t c (Pays p a) h = refl
unfolded_stays t c (Gets p a) h = refl
unfolded_stays t c (Next l a) h = refl

ticks_none : (t : Table) (c : Closed) (x : Layer) → is_next_layer x ≡ false → (exposed_layer t c x).ticks ≡ pos 0
ticks_none t c (Next l a) h = absurd (cc)
ticks_none t c (Named k args) h = refl
ticks_none t c One h = refl
ticks_none t c (Plus ts) h = refl
ticks_none t c (With ts) h = refl
ticks_none t c (Tensor a b) h = refl
ticks_none t c (Lolli a b) h = refl
ticks_none t c (Ex a) h = refl
ticks_none t c (Each a) h = refl
ticks_none t c (Assert f a) h = refl
ticks_none t c (Assume f a) h = refl
ticks_none t c (Pays p a) h = refl
ticks_none t c (Gets p a) h = refl

-- what is unfolded to this closed type has its ticks
from_unfolded : (t : Table) (c u : Closed) → unfolded t c ≡ u → (exposed t c).ticks ≡ (exposed_layer t u (out-Ty u.ty)).ticks
from_unfolded t c u e = ap (λ v. (exposed_layer t v (out-Ty v.ty)).ticks) e

pub ticks_of_body : (t : Table) (a body b : Ty) (args : List Linear) (at : List ℤ) (l : Linear) → Names t a body args → out-Ty body ≡ Next l b →
    (exposed t (closed a at)).ticks ≡ value l (map (λ x. value x at) args)
ticks_of_body t a body b args at l names next =
    from_unfolded t (closed a at) _ (unfolded_names t a body args at names) ∙ ap (λ x. (exposed_layer t (closed body (map (λ x. value x at) args)) x).ticks) next

pub no_ticks_of_body : (t : Table) (a body : Ty) (args : List Linear) (at : List ℤ) → Names t a body args → is_next body ≡ false → (exposed t (closed a at)).ticks ≡ pos 0
no_ticks_of_body t a body args at names none =
    from_unfolded t (closed a at) _ (unfolded_names t a body args at names) ∙ ticks_none t _ (out-Ty body) none

pub ticks_here : (t : Table) (a b : Ty) (at : List ℤ) (l : Linear) → is_defined t a ≡ false → out-Ty a ≡ Next l b → (exposed t (closed a at)).ticks ≡ value l at
ticks_here t a b at l undefined next =
    from_unfolded t (closed a at) _ (unfolded_stays t (closed a at) (out-Ty a) undefined) ∙ ap (λ x. (exposed_layer t (closed a at) x).ticks) next

pub no_ticks_here : (t : Table) (a : Ty) (at : List ℤ) → is_defined t a ≡ false → is_next a ≡ false → (exposed t (closed a at)).ticks ≡ pos 0
no_ticks_here t a at undefined none =
    from_unfolded t (closed a at) _ (unfolded_stays t (closed a at) (out-Ty a) undefined) ∙ ticks_none t _ (out-Ty a) none

-- the arguments of a name that has a definition
pub arguments_of : (t : Table) (a body : Ty) (args : List Linear) (at : List ℤ) → Names t a body args → All IsIndex (argument_values (out-Ty a) at) → All (λ l. IsIndex (value l at)) args
arguments_of t a body args at names h = All_unmap IsIndex (λ l. value l at) args (subst (λ x. All IsIndex (argument_values x at)) names.named h)

-- the ticks of a definition's body, by the values of its arguments
pub ticks_by_values : (t : Table) (a body b : Ty) (args : List Linear) (at : List ℤ) (l m : Linear) (out : List ℕ) → Names t a body args → out-Ty body ≡ Next l b →
    m ≡ l → length l.coefficients ≡ 16 → IsValued (map (λ x. value x at) args) out → value m (whole out) ≡ (exposed t (closed a at)).ticks
ticks_by_values t a body b args at l m out names next same sized valued =
    ap (λ x. value x (whole out)) same ∙ value_valued l (map (λ x. value x at) args) out sized valued ∙ sym (ticks_of_body t a body b args at l names next)
