-- A type after a delay: its ticks are less by the delay, and its head is the same.
use Rattle.std.proofs.Common.{◌≡◌, ℕ, ℤ, pos, ◌+ℤ◌, ◌-ℤ◌, ◌*ℤ◌, ◌+◌, ◌≤◌, Bool, true, false, List, [], ◌∷◌, map, length, Option, Some, None, slice_get, refl, sym, ap, ap₂, ◌∙◌, subst, subst₂, arith, if◌then◌else◌}
use Rattle.std.specs.List.{list_all}
use Rattle.std.proofs.lemmas.Int.{ints}
use Rattle.rast_index.specs.Linear.{Linear, value, weighted, whole, replaced, fixed, less, is_nought, int_eq}
use Rattle.rast_index.specs.Truth.{truth, is_at_least}
use Rattle.rast_index.proofs.Values.{value_replaced, value_fixed, value_less}
use Rattle.rast_index.proofs.Scope.{both_true, int_eq_true}
use Rattle.rast_index.proofs.Whole.{zero_mul_ℤ}
use Rattle.rast_types.specs.declared.table.TypeDef.{TypeDef}
use Rattle.rast_types.specs.declared.ty.Ty.{Ty, out-Ty}
use Rattle.rast_types.specs.declared.ty.Ty.TheOpen.{One, Plus, With, Tensor, Lolli, Named, Ex, All, Assert, Assume, Pays, Gets, Next}
use Rattle.rast_types.specs.declared.ty.Ty.TheVariants as ty
use Rattle.rast_types.specs.Closed.{Closed, closed, Table, Layer, Equal, exposed, exposed_layer, body_or, unfold_layer, unfolded, kind_layer, kind_of}
use Rattle.rast_types.specs.Symbolic.{put_type, binders, opened, opened_layer, body_at, Timed, timed, timed_layer, is_next, is_next_layer, is_scoped, before_delay, after_delay, timed_type}
use Rattle.rast_equal.proofs.Equals.{SameHeads, HasKind, equal_refl, equal_heads, heads_sym, HasHead}
use Rattle.rast_equal.proofs.Unfolds.{next_exposes, plain_unfolds, unfolds_exposes}
use Rattle.rast_equal.proofs.Exposing.{heads_refl}
use Rattle.rast_types.proofs.Layers.{put_layer, out_put}
use Rattle.rast_equal.proofs.Within.{AllWithin, all_within}
use Rattle.rast_equal.proofs.Scoped.{scoped_out, scoped_layer}
use Rattle.rast_equal.proofs.Substitution.{values_of, whole-length, put_equal, kind_put}
use Rattle.rast_equal.proofs.Truths.{at_least_true}

-- the same head, so many ticks earlier
pub record Earlier (t : Table) (x y : Closed) (q : ℕ) : Type 0 where
  pub ticks : pos q +ℤ (exposed t y).ticks ≡ (exposed t x).ticks
  pub heads : SameHeads t (exposed t x).head (exposed t y).head

-- ---- the constant 0

zeros_weighted : (cs vs : List ℤ) → list_all (λ c. int_eq c (pos 0)) cs ≡ true → weighted cs vs ≡ pos 0
zeros_weighted [] vs h = refl
zeros_weighted (c ∷ cs) [] h = refl
zeros_weighted (c ∷ cs) (v ∷ vs) h =
    let r = both_true (int_eq c (pos 0)) (list_all (λ c. int_eq c (pos 0)) cs) h in
    let e = ap (λ x. x *ℤ v) (int_eq_true c (pos 0) r.0) in
    omega (arith, ints, e, zero_mul_ℤ v, zeros_weighted cs vs r.1)

pub nought_value : (l : Linear) (vs : List ℤ) → is_nought l ≡ true → value l vs ≡ pos 0
nought_value l vs h =
    let r = both_true (int_eq l.constant (pos 0)) (list_all (λ c. int_eq c (pos 0)) l.coefficients) h in
    omega (arith, ints, int_eq_true l.constant (pos 0) r.0, zeros_weighted l.coefficients vs r.1)

-- ---- a type opened, and the closed type unfolded

named_next : (t : Table) (n : ℕ) (a : Ty) (vs : List ℕ) (es : List Linear) (o : Option TypeDef) → is_next a ≡ false → is_next (body_at n a o es) ≡ is_next (body_or (closed a (whole vs)) o (map (λ e. value e (whole vs)) es)).ty
named_next t n a vs es None h = refl
named_next t n a vs es (Some d) h = ap is_next_layer (out_put n es d.body) ∙ put_next (out-Ty d.body)
  where
    put_next : (x : Layer) → is_next_layer (put_layer n es x) ≡ is_next_layer x
    put_next One = refl
    put_next (Plus ts) = refl
    put_next (With ts) = refl
    put_next (Tensor b c) = refl
    put_next (Lolli b c) = refl
    put_next (Named k xs) = refl
    put_next (Ex b) = refl
    put_next (All b) = refl
    put_next (Assert f b) = refl
    put_next (Assume f b) = refl
    put_next (Pays p b) = refl
    put_next (Gets p b) = refl
    put_next (Next l b) = refl

next_layers : (t : Table) (n : ℕ) (a : Ty) (vs : List ℕ) (x : Layer) → out-Ty a ≡ x → is_next (opened_layer t n a x) ≡ is_next (unfold_layer t (closed a (whole vs)) x).ty
next_layers t n a vs (Named k es) o = named_next t n a vs es (slice_get t k) (ap is_next_layer o)
next_layers t n a vs One o = refl
next_layers t n a vs (Plus ts) o = refl
next_layers t n a vs (With ts) o = refl
next_layers t n a vs (Tensor b c) o = refl
next_layers t n a vs (Lolli b c) o = refl
next_layers t n a vs (Ex b) o = refl
next_layers t n a vs (All b) o = refl
next_layers t n a vs (Assert f b) o = refl
next_layers t n a vs (Assume f b) o = refl
next_layers t n a vs (Pays p b) o = refl
next_layers t n a vs (Gets p b) o = refl
next_layers t n a vs (Next l b) o = refl

-- a next is opened exactly where the closed type unfolds to one
pub next_opened : (t : Table) (n : ℕ) (a : Ty) (vs : List ℕ) → is_next (opened t n a) ≡ is_next (unfolded t (closed a (whole vs))).ty
next_opened t n a vs = next_layers t n a vs (out-Ty a) refl

-- a kind is unfolded to at the arguments' values exactly where one is with the arguments in the place of the variables
put_kind_layer : (t : Table) (n : ℕ) (args : List Linear) (a : Ty) (vs : List ℕ) (x : Layer) → length vs ≤ 16 → out-Ty a ≡ x → kind_of (unfold_layer t (closed (put_type n args a) (whole vs)) (put_layer n args x)).ty ≡ kind_of (unfold_layer t (closed a (values_of args vs)) x).ty
put_kind_layer t n args a vs (Named k es) few o = pick (slice_get t k)
  where
    pick : (d : Option TypeDef) → kind_of (body_or (closed (put_type n args a) (whole vs)) d (map (λ e. value e (whole vs)) (map (replaced args) es))).ty ≡ kind_of (body_or (closed a (values_of args vs)) d (map (λ e. value e (values_of args vs)) es)).ty
    pick None = ap kind_layer (out_put n args a) ∙ kind_put n args (out-Ty a)
    pick (Some d) = refl
put_kind_layer t n args a vs One few o = ap kind_layer (out_put n args a) ∙ kind_put n args (out-Ty a)
put_kind_layer t n args a vs (Plus ts) few o = ap kind_layer (out_put n args a) ∙ kind_put n args (out-Ty a)
put_kind_layer t n args a vs (With ts) few o = ap kind_layer (out_put n args a) ∙ kind_put n args (out-Ty a)
put_kind_layer t n args a vs (Tensor b c) few o = ap kind_layer (out_put n args a) ∙ kind_put n args (out-Ty a)
put_kind_layer t n args a vs (Lolli b c) few o = ap kind_layer (out_put n args a) ∙ kind_put n args (out-Ty a)
put_kind_layer t n args a vs (Ex b) few o = ap kind_layer (out_put n args a) ∙ kind_put n args (out-Ty a)
put_kind_layer t n args a vs (All b) few o = ap kind_layer (out_put n args a) ∙ kind_put n args (out-Ty a)
put_kind_layer t n args a vs (Assert f b) few o = ap kind_layer (out_put n args a) ∙ kind_put n args (out-Ty a)
put_kind_layer t n args a vs (Assume f b) few o = ap kind_layer (out_put n args a) ∙ kind_put n args (out-Ty a)
put_kind_layer t n args a vs (Pays p b) few o = ap kind_layer (out_put n args a) ∙ kind_put n args (out-Ty a)
put_kind_layer t n args a vs (Gets p b) few o = ap kind_layer (out_put n args a) ∙ kind_put n args (out-Ty a)
put_kind_layer t n args a vs (Next l b) few o = ap kind_layer (out_put n args a) ∙ kind_put n args (out-Ty a)

put_kind : (t : Table) (n : ℕ) (args : List Linear) (a : Ty) (vs : List ℕ) → length vs ≤ 16 → kind_of (unfolded t (closed (put_type n args a) (whole vs))).ty ≡ kind_of (unfolded t (closed a (values_of args vs))).ty
put_kind t n args a vs few =
    subst (λ y. kind_of (unfold_layer t (closed (put_type n args a) (whole vs)) y).ty ≡ kind_of (unfolded t (closed a (values_of args vs))).ty) (sym (out_put n args a)) (put_kind_layer t n args a vs (out-Ty a) few refl)

-- ---- a next

-- ticks and body of a next that was opened, beside those of the closed one
pub record NextBoth (t : Table) (vs : List ℕ) (u : Ty) (c : Closed) : Type 0 where
  pub ticks : Linear
  pub body : Ty
  pub is : out-Ty u ≡ Next ticks body
  pub own_ticks : Linear
  pub own_body : Ty
  pub own_is : out-Ty c.ty ≡ Next own_ticks own_body
  pub same_ticks : value ticks (whole vs) ≡ value own_ticks c.at
  pub same_body : (length vs + binders body ≤ 16) → Equal t (closed body (whole vs)) (closed own_body c.at)
  pub same_kind : kind_of (unfolded t (closed body (whole vs))).ty ≡ kind_of (unfolded t (closed own_body c.at)).ty

put_both : (t : Table) (n : ℕ) (a : Ty) (es : List Linear) (vs : List ℕ) (x : Layer) → out-Ty a ≡ x → length vs ≡ n → n ≤ 16 → AllWithin n es → is_next_layer (put_layer n es x) ≡ true → NextBoth t vs (put_type n es a) (closed a (values_of es vs))
put_both t n a es vs (Next l b) o e few w h = record {
  ticks = replaced es l;
  body = put_type n es b;
  is = out_put n es a ∙ ap (put_layer n es) o;
  own_ticks = l;
  own_body = b;
  own_is = o;
  same_ticks = value_replaced es l (whole vs) (omega (arith, e, few, whole-length vs));
  same_body = λ deep. put_equal t n es b vs e (subst (λ (m : ℕ). m + binders (put_type n es b) ≤ 16) e deep) w;
  same_kind = put_kind t n es b vs (omega (arith, e, few));
}
put_both t n a es vs One o e few w h = cc
put_both t n a es vs (Plus ts) o e few w h = cc
put_both t n a es vs (With ts) o e few w h = cc
put_both t n a es vs (Tensor b c) o e few w h = cc
put_both t n a es vs (Lolli b c) o e few w h = cc
put_both t n a es vs (Named k xs) o e few w h = cc
put_both t n a es vs (Ex b) o e few w h = cc
put_both t n a es vs (All b) o e few w h = cc
put_both t n a es vs (Assert f b) o e few w h = cc
put_both t n a es vs (Assume f b) o e few w h = cc
put_both t n a es vs (Pays p b) o e few w h = cc
put_both t n a es vs (Gets p b) o e few w h = cc

own_both : (t : Table) (a : Ty) (vs : List ℕ) (x : Layer) → out-Ty a ≡ x → is_next_layer x ≡ true → NextBoth t vs a (closed a (whole vs))
own_both t a vs (Next l b) o h = record { ticks = l; body = b; is = o; own_ticks = l; own_body = b; own_is = o; same_ticks = refl; same_body = λ deep. equal_refl t (closed b (whole vs)); same_kind = refl }
own_both t a vs One o h = cc
own_both t a vs (Plus ts) o h = cc
own_both t a vs (With ts) o h = cc
own_both t a vs (Tensor b c) o h = cc
own_both t a vs (Lolli b c) o h = cc
own_both t a vs (Named k xs) o h = cc
own_both t a vs (Ex b) o h = cc
own_both t a vs (All b) o h = cc
own_both t a vs (Assert f b) o h = cc
own_both t a vs (Assume f b) o h = cc
own_both t a vs (Pays p b) o h = cc
own_both t a vs (Gets p b) o h = cc

named_both : (t : Table) (n k : ℕ) (a : Ty) (es : List Linear) (vs : List ℕ) (o : Option TypeDef) → out-Ty a ≡ Named k es → length vs ≡ n → n ≤ 16 → AllWithin n es → is_next (body_at n a o es) ≡ true → NextBoth t vs (body_at n a o es) (body_or (closed a (whole vs)) o (map (λ e. value e (whole vs)) es))
named_both t n k a es vs None q e few w h = let z : false ≡ true = ap is_next_layer (sym q) ∙ h in cc
named_both t n k a es vs (Some d) q e few w h = put_both t n d.body es vs (out-Ty d.body) refl e few w (ap is_next_layer (sym (out_put n es d.body)) ∙ h)

pub both_layer : (t : Table) (n : ℕ) (a : Ty) (vs : List ℕ) (x : Layer) → out-Ty a ≡ x → length vs ≡ n → n ≤ 16 → is_scoped n a ≡ true → is_next (opened_layer t n a x) ≡ true → NextBoth t vs (opened_layer t n a x) (unfold_layer t (closed a (whole vs)) x)
both_layer t n a vs (Named k es) o e few s h = named_both t n k a es vs (slice_get t k) o e few (all_within n es (ap (scoped_layer n) (sym o) ∙ (sym (scoped_out n a) ∙ s))) h
both_layer t n a vs (Next l b) o e few s h = own_both t a vs (Next l b) o refl
both_layer t n a vs One o e few s h = let z : false ≡ true = ap is_next_layer (sym o) ∙ h in cc
both_layer t n a vs (Plus ts) o e few s h = let z : false ≡ true = ap is_next_layer (sym o) ∙ h in cc
both_layer t n a vs (With ts) o e few s h = let z : false ≡ true = ap is_next_layer (sym o) ∙ h in cc
both_layer t n a vs (Tensor b c) o e few s h = let z : false ≡ true = ap is_next_layer (sym o) ∙ h in cc
both_layer t n a vs (Lolli b c) o e few s h = let z : false ≡ true = ap is_next_layer (sym o) ∙ h in cc
both_layer t n a vs (Ex b) o e few s h = let z : false ≡ true = ap is_next_layer (sym o) ∙ h in cc
both_layer t n a vs (All b) o e few s h = let z : false ≡ true = ap is_next_layer (sym o) ∙ h in cc
both_layer t n a vs (Assert f b) o e few s h = let z : false ≡ true = ap is_next_layer (sym o) ∙ h in cc
both_layer t n a vs (Assume f b) o e few s h = let z : false ≡ true = ap is_next_layer (sym o) ∙ h in cc
both_layer t n a vs (Pays p b) o e few s h = let z : false ≡ true = ap is_next_layer (sym o) ∙ h in cc
both_layer t n a vs (Gets p b) o e few s h = let z : false ≡ true = ap is_next_layer (sym o) ∙ h in cc

-- ---- the two cases of a delay

-- what is left of ticks below which a type unfolds to a head
left_earlier : (t : Table) (x : Closed) (b : Ty) (m : Linear) (at : List ℤ) (q : ℕ) (z : ℤ) (y : Bool) → is_nought m ≡ y → (exposed t x).ticks ≡ z → SameHeads t (exposed t x).head (unfolded t (closed b at)) → HasKind (unfolded t (closed b at)) → value m at ≡ z -ℤ pos q → Earlier t x (closed (if y then b else ty.Next m b) at) q
left_earlier t x b m at q z true e xt xh k v =
    let i : exposed t (closed b at) ≡ record { ticks = pos 0; head = unfolded t (closed b at) } = unfolds_exposes t (closed b at) k in
    record {
      ticks = ap (λ w. pos q +ℤ w.ticks) i ∙ (let u = nought_value m at e in omega (arith, ints, u, v, xt));
      heads = subst (λ w. SameHeads t (exposed t x).head w.head) (sym i) xh;
    }
left_earlier t x b m at q z false e xt xh k v =
    let i : exposed t (closed (ty.Next m b) at) ≡ record { ticks = value m at; head = unfolded t (closed b at) } = next_exposes t (closed (ty.Next m b) at) m b (ty.outs-Next m b) in
    record {
      ticks = ap (λ w. pos q +ℤ w.ticks) i ∙ omega (arith, ints, v, xt);
      heads = subst (λ w. SameHeads t (exposed t x).head w.head) (sym i) xh;
    }

next_earlier : (t : Table) (a u : Ty) (vs : List ℕ) (by : Linear) (q : ℕ) → NextBoth t vs u (unfolded t (closed a (whole vs))) → HasHead t (closed a (whole vs)) → value by (whole vs) ≡ pos q → length vs ≤ 16 → length vs + binders (timed u).body ≤ 16 → Earlier t (closed a (whole vs)) (closed (timed_type (record { ticks = less (timed u).ticks by; body = (timed u).body })) (whole vs)) q
next_earlier t a u vs by q r k v few deep =
    let c : Closed = unfolded t (closed a (whole vs)) in
    let i : timed u ≡ record { ticks = r.ticks; body = r.body } = ap (timed_layer u) r.is in
    let x : exposed t (closed a (whole vs)) ≡ record { ticks = value r.own_ticks c.at; head = unfolded t (closed r.own_body c.at) } = ap (exposed_layer t c) r.own_is in
    let own : HasKind (unfolded t (closed r.own_body c.at)) = subst (λ w. HasKind w.head) x k in
    let mine : HasKind (unfolded t (closed r.body (whole vs))) = (own.0, r.same_kind ∙ own.1) in
    let equal : Equal t (closed r.body (whole vs)) (closed r.own_body c.at) = r.same_body (subst (λ e. length vs + binders e.body ≤ 16) i deep) in
    let heads : SameHeads t (unfolded t (closed r.body (whole vs))) (unfolded t (closed r.own_body c.at)) = subst₂ (λ e f. SameHeads t e.head f.head) (unfolds_exposes t (closed r.body (whole vs)) mine) (unfolds_exposes t (closed r.own_body c.at) own) (equal_heads t (closed r.body (whole vs)) (closed r.own_body c.at) equal) in
    let xh : SameHeads t (exposed t (closed a (whole vs))).head (unfolded t (closed r.body (whole vs))) = subst (λ e. SameHeads t e.head (unfolded t (closed r.body (whole vs)))) (sym x) (heads_sym t (unfolded t (closed r.body (whole vs))) (unfolded t (closed r.own_body c.at)) heads) in
    let m : value (less r.ticks by) (whole vs) ≡ value r.own_ticks c.at -ℤ pos q = value_less r.ticks by (whole vs) (omega (arith, few, whole-length vs)) ∙ ap₂ (λ y z. y -ℤ z) r.same_ticks v in
    subst (λ e. Earlier t (closed a (whole vs)) (closed (timed_type (record { ticks = less e.ticks by; body = e.body })) (whole vs)) q) (sym i)
    (left_earlier t (closed a (whole vs)) r.body (less r.ticks by) (whole vs) q (value r.own_ticks c.at) (is_nought (less r.ticks by)) refl (ap (λ e. e.ticks) x) xh mine m)

plain_earlier : (t : Table) (a : Ty) (vs : List ℕ) (by : Linear) (q : ℕ) → is_next (unfolded t (closed a (whole vs))).ty ≡ false → HasHead t (closed a (whole vs)) → value by (whole vs) ≡ pos q → length vs ≤ 16 → truth (is_at_least (fixed (pos 0)) by) (whole vs) ≡ true → Earlier t (closed a (whole vs)) (closed (timed_type (record { ticks = less (fixed (pos 0)) by; body = a })) (whole vs)) q
plain_earlier t a vs by q h k v few ok =
    let x : exposed t (closed a (whole vs)) ≡ record { ticks = pos 0; head = unfolded t (closed a (whole vs)) } = plain_unfolds t (closed a (whole vs)) h in
    let own : HasKind (unfolded t (closed a (whole vs))) = subst (λ w. HasKind w.head) x k in
    let r = at_least_true (fixed (pos 0)) by (whole vs) q v ok in
    let m : value (less (fixed (pos 0)) by) (whole vs) ≡ pos 0 -ℤ pos q = value_less (fixed (pos 0)) by (whole vs) (omega (arith, few, whole-length vs)) ∙ ap₂ (λ y z. y -ℤ z) (value_fixed (pos 0) (whole vs)) v in
    left_earlier t (closed a (whole vs)) a (less (fixed (pos 0)) by) (whole vs) q (pos 0) (is_nought (less (fixed (pos 0)) by)) refl (ap (λ e. e.ticks) x) (subst (λ e. SameHeads t e.head (unfolded t (closed a (whole vs)))) (sym x) (heads_refl t (unfolded t (closed a (whole vs))))) own m

-- a type after a delay that its ticks allow
pub delayed_earlier : (t : Table) (n : ℕ) (by : Linear) (provided : Bool) (a : Ty) (vs : List ℕ) (q : ℕ) → HasHead t (closed a (whole vs)) → is_scoped n a ≡ true → length vs ≡ n → n ≤ 16 → n + binders (before_delay t n a).body ≤ 16 → value by (whole vs) ≡ pos q → truth (is_at_least (before_delay t n a).ticks by) (whole vs) ≡ true → Earlier t (closed a (whole vs)) (closed (after_delay t n by provided a) (whole vs)) q
delayed_earlier t n by provided a vs q k s e few deep v ok = pick (is_next (opened t n a)) refl deep ok
  where
    pick : (b : Bool) → is_next (opened t n a) ≡ b → (let e : Timed = (if b then timed (opened t n a) else record { ticks = fixed (pos 0); body = a }) in n + binders e.body ≤ 16) → (let e : Timed = (if b then timed (opened t n a) else record { ticks = fixed (pos 0); body = a }) in truth (is_at_least e.ticks by) (whole vs) ≡ true) → (let e : Timed = (if b then timed (opened t n a) else record { ticks = fixed (pos 0); body = a }) in Earlier t (closed a (whole vs)) (closed (timed_type (record { ticks = less e.ticks by; body = e.body })) (whole vs)) q)
    pick true h deep ok = next_earlier t a (opened t n a) vs by q (both_layer t n a vs (out-Ty a) refl e few s h) k v (omega (arith, e, few)) (subst (λ (m : ℕ). m + binders (timed (opened t n a)).body ≤ 16) (sym e) deep)
    pick false h deep ok = plain_earlier t a vs by q (sym (next_opened t n a vs) ∙ h) k v (omega (arith, e, few)) ok
