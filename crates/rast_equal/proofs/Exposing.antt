-- The symbolic head and ticks of a type are those of the type at a valuation.
use Rattle.std.proofs.Common.{◌≡◌, ℕ, pos, ◌+◌, ◌≤◌, true, false, List, map, length, Option, Some, None, slice_get, refl, sym, ap, ◌∙◌, subst, subst₂, arith}
use Rattle.rast_index.specs.Linear.{Linear, value, whole, replaced, fixed, is_closed}
use Rattle.rast_index.proofs.Values.{value_replaced, value_fixed}
use Rattle.rast_index.proofs.Scope.{both_true}
use Rattle.rast_types.specs.declared.table.TypeDef.{TypeDef}
use Rattle.rast_types.specs.declared.ty.Kind.{Kind}
use Rattle.rast_types.specs.declared.ty.Kind.TheVariants as kind
use Rattle.rast_types.specs.declared.ty.Ty.{Ty, out-Ty}
use Rattle.rast_types.specs.declared.ty.Ty.TheOpen.{One, Plus, With, Tensor, Lolli, Named, Ex, All, Assert, Assume, Pays, Gets, Next}
use Rattle.rast_types.specs.Closed.{Closed, closed, Table, Layer, Equal, Exposed, exposed, exposed_layer, body_or, unfold_layer, unfolded, kind_layer, part_of}
use Rattle.rast_types.specs.Symbolic.{put_type, binders, opened, opened_layer, body_at, Timed, timed, timed_layer, opened_body, exposed_type, is_name, is_name_layer, is_scoped}
use Rattle.rast_equal.proofs.Equals.{SameHeads, equal_refl, some_same, exposes_to}
use Rattle.rast_types.proofs.Layers.{put_layer, out_put}
use Rattle.rast_equal.proofs.Within.{AllWithin, all_within}
use Rattle.rast_equal.proofs.Scoped.{scoped_out, scoped_layer, all_replaced}
use Rattle.rast_equal.proofs.Substitution.{values_of, replaced_values, whole-length, put_heads, kind_put}

-- no definition stands for a name
abbrev pub Unnamed : Table → Type 0
Unnamed t = (k : ℕ) (d : TypeDef) → slice_get t k ≡ Some d → is_name d.body ≡ false

pub heads_refl : (t : Table) (c : Closed) → SameHeads t c c
heads_refl t c = record { kind = refl; figure = refl; ways = λ w. refl; parts = λ w x y p q. subst (Equal t x) (some_same (part_of c w) p q) (equal_refl t x) }

-- ---- a name is opened

-- what a name's arguments are, where it stands in scope
named_within : (n k : ℕ) (es : List Linear) (a : Ty) → out-Ty a ≡ Named k es → is_scoped n a ≡ true → AllWithin n es
named_within n k es a o h = all_within n es (ap (scoped_layer n) (sym o) ∙ (sym (scoped_out n a) ∙ h))

body_heads : (t : Table) (n : ℕ) (a : Ty) (vs : List ℕ) (es : List Linear) (o : Option TypeDef) → length vs ≡ n → AllWithin n es → n + binders (body_at n a o es) ≤ 16 → SameHeads t (closed (body_at n a o es) (whole vs)) (body_or (closed a (whole vs)) o (map (λ e. value e (whole vs)) es))
body_heads t n a vs es None e h few = heads_refl t (closed a (whole vs))
body_heads t n a vs es (Some d) e h few = put_heads t n es d.body vs e few h

opened_heads : (t : Table) (n : ℕ) (a : Ty) (vs : List ℕ) (x : Layer) → out-Ty a ≡ x → length vs ≡ n → is_scoped n a ≡ true → n + binders (opened_layer t n a x) ≤ 16 → SameHeads t (closed (opened_layer t n a x) (whole vs)) (unfold_layer t (closed a (whole vs)) x)
opened_heads t n a vs (Named k es) o e h few = body_heads t n a vs es (slice_get t k) e (named_within n k es a o h) few
opened_heads t n a vs One o e h few = heads_refl t (closed a (whole vs))
opened_heads t n a vs (Plus ts) o e h few = heads_refl t (closed a (whole vs))
opened_heads t n a vs (With ts) o e h few = heads_refl t (closed a (whole vs))
opened_heads t n a vs (Tensor b c) o e h few = heads_refl t (closed a (whole vs))
opened_heads t n a vs (Lolli b c) o e h few = heads_refl t (closed a (whole vs))
opened_heads t n a vs (Ex b) o e h few = heads_refl t (closed a (whole vs))
opened_heads t n a vs (All b) o e h few = heads_refl t (closed a (whole vs))
opened_heads t n a vs (Assert f b) o e h few = heads_refl t (closed a (whole vs))
opened_heads t n a vs (Assume f b) o e h few = heads_refl t (closed a (whole vs))
opened_heads t n a vs (Pays p b) o e h few = heads_refl t (closed a (whole vs))
opened_heads t n a vs (Gets p b) o e h few = heads_refl t (closed a (whole vs))
opened_heads t n a vs (Next l b) o e h few = heads_refl t (closed a (whole vs))

-- a body in scope is opened as the closed one unfolds
pub opened_is : (t : Table) (n : ℕ) (a : Ty) (vs : List ℕ) → length vs ≡ n → is_scoped n a ≡ true → n + binders (opened t n a) ≤ 16 → SameHeads t (closed (opened t n a) (whole vs)) (unfolded t (closed a (whole vs)))
opened_is t n a vs e h few = opened_heads t n a vs (out-Ty a) refl e h few

-- and so is one whose variables were replaced, as the closed one at the arguments' values
put_opened : (t : Table) (n : ℕ) (args : List Linear) (a : Ty) (vs : List ℕ) (x : Layer) → length vs ≡ n → n ≤ 16 → AllWithin n args → n + binders (opened_layer t n (put_type n args a) (put_layer n args x)) ≤ 16 → SameHeads t (closed (opened_layer t n (put_type n args a) (put_layer n args x)) (whole vs)) (unfold_layer t (closed a (values_of args vs)) x)
put_opened t n args a vs (Named k es) e few h b = pick (slice_get t k) b
  where
    pick : (o : Option TypeDef) → n + binders (body_at n (put_type n args a) o (map (replaced args) es)) ≤ 16 → SameHeads t (closed (body_at n (put_type n args a) o (map (replaced args) es)) (whole vs)) (body_or (closed a (values_of args vs)) o (map (λ y. value y (values_of args vs)) es))
    pick None b = put_heads t n args a vs e b h
    pick (Some d) b = subst (λ xs. SameHeads t (closed (put_type n (map (replaced args) es) d.body) (whole vs)) (closed d.body xs)) (replaced_values args vs es (omega (arith, e, few))) (put_heads t n (map (replaced args) es) d.body vs e b (all_within n (map (replaced args) es) (all_replaced n args es h)))
put_opened t n args a vs One e few h b = put_heads t n args a vs e b h
put_opened t n args a vs (Plus ts) e few h b = put_heads t n args a vs e b h
put_opened t n args a vs (With ts) e few h b = put_heads t n args a vs e b h
put_opened t n args a vs (Tensor c d) e few h b = put_heads t n args a vs e b h
put_opened t n args a vs (Lolli c d) e few h b = put_heads t n args a vs e b h
put_opened t n args a vs (Ex c) e few h b = put_heads t n args a vs e b h
put_opened t n args a vs (All c) e few h b = put_heads t n args a vs e b h
put_opened t n args a vs (Assert f c) e few h b = put_heads t n args a vs e b h
put_opened t n args a vs (Assume f c) e few h b = put_heads t n args a vs e b h
put_opened t n args a vs (Pays p c) e few h b = put_heads t n args a vs e b h
put_opened t n args a vs (Gets p c) e few h b = put_heads t n args a vs e b h
put_opened t n args a vs (Next l c) e few h b = put_heads t n args a vs e b h

-- ---- ticks and head

abbrev exposed_at : Table → Closed → Exposed
exposed_at t c = exposed_layer t c (out-Ty c.ty)

-- what was exposed says the ticks and the head of the closed type
pub record ExposedAs (t : Table) (vs : List ℕ) (e : Timed) (x : Exposed) : Type 0 where
  pub ticks : value e.ticks (whole vs) ≡ x.ticks
  pub heads : SameHeads t (closed e.body (whole vs)) x.head

opened_plain : (t : Table) (n : ℕ) (a : Ty) (y : Layer) (k : Kind) → kind_layer y ≡ Some k → opened_layer t n a y ≡ a
opened_plain t n a (Named j es) k e = cc
opened_plain t n a y k e = refl

timed_plain : (a : Ty) (y : Layer) (k : Kind) → kind_layer y ≡ Some k → timed_layer a y ≡ record { ticks = fixed (pos 0); body = a }
timed_plain a (Next l b) k e = cc
timed_plain a y k e = refl

-- a type with a kind is its own head
plain_exposed : (t : Table) (n : ℕ) (a : Ty) (k : Kind) → kind_layer (out-Ty a) ≡ Some k → opened_body t n (timed a) ≡ record { ticks = fixed (pos 0); body = a }
plain_exposed t n a k e =
    let m : timed a ≡ record { ticks = fixed (pos 0); body = a } = timed_plain a (out-Ty a) k e in
    ap (opened_body t n) m ∙ ap (λ b. let r : Timed = record { ticks = fixed (pos 0); body = b } in r) (opened_plain t n a (out-Ty a) k e)

plain_put : (t : Table) (n : ℕ) (args : List Linear) (a : Ty) (vs : List ℕ) (x : Layer) (k : Kind) → out-Ty a ≡ x → kind_layer x ≡ Some k → length vs ≡ n → AllWithin n args → n + binders (opened_body t n (timed (put_type n args a))).body ≤ 16 → ExposedAs t vs (opened_body t n (timed (put_type n args a))) (exposed_layer t (closed a (values_of args vs)) x)
plain_put t n args a vs x k o q e h b =
    let p : Ty = put_type n args a in
    let kp : kind_layer (out-Ty p) ≡ Some k = ap kind_layer (out_put n args a) ∙ (kind_put n args (out-Ty a) ∙ (ap kind_layer o ∙ q)) in
    let m : opened_body t n (timed p) ≡ record { ticks = fixed (pos 0); body = p } = plain_exposed t n p k kp in
    let few : n + binders p ≤ 16 = subst (λ r. n + binders r.body ≤ 16) m b in
    subst₂ (ExposedAs t vs) (sym m) (sym (exposes_to t (closed a (values_of args vs)) x k q)) (record { ticks = value_fixed (pos 0) (whole vs); heads = put_heads t n args a vs e few h })

-- a type whose variables were replaced that is no name
put_exposed : (t : Table) (n : ℕ) (args : List Linear) (a : Ty) (vs : List ℕ) (x : Layer) → out-Ty a ≡ x → is_name_layer x ≡ false → length vs ≡ n → n ≤ 16 → AllWithin n args → n + binders (opened_body t n (timed (put_type n args a))).body ≤ 16 → ExposedAs t vs (opened_body t n (timed (put_type n args a))) (exposed_layer t (closed a (values_of args vs)) x)
put_exposed t n args a vs (Named k es) o m e few h b = cc
put_exposed t n args a vs (Next l c) o m e few h b =
    let p : Ty = put_type n args a in
    let q : out-Ty p ≡ Next (replaced args l) (put_type n args c) = out_put n args a ∙ ap (put_layer n args) o in
    let b' : n + binders (opened t n (put_type n args c)) ≤ 16 = subst (λ y. n + binders (opened_body t n (timed_layer p y)).body ≤ 16) q b in
    subst (λ y. ExposedAs t vs (opened_body t n (timed_layer p y)) (exposed_layer t (closed a (values_of args vs)) (Next l c))) (sym q) (record {
      ticks = value_replaced args l (whole vs) (omega (arith, e, few, whole-length vs));
      heads = subst (λ y. SameHeads t (closed (opened_layer t n (put_type n args c) y) (whole vs)) (unfolded t (closed c (values_of args vs)))) (sym (out_put n args c)) (put_opened t n args c vs (out-Ty c) e few h (subst (λ y. n + binders (opened_layer t n (put_type n args c) y) ≤ 16) (out_put n args c) b'));
    })
put_exposed t n args a vs One o m e few h b = plain_put t n args a vs One kind.One o refl e h b
put_exposed t n args a vs (Plus ts) o m e few h b = plain_put t n args a vs (Plus ts) kind.Plus o refl e h b
put_exposed t n args a vs (With ts) o m e few h b = plain_put t n args a vs (With ts) kind.With o refl e h b
put_exposed t n args a vs (Tensor c d) o m e few h b = plain_put t n args a vs (Tensor c d) kind.Tensor o refl e h b
put_exposed t n args a vs (Lolli c d) o m e few h b = plain_put t n args a vs (Lolli c d) kind.Lolli o refl e h b
put_exposed t n args a vs (Ex c) o m e few h b = plain_put t n args a vs (Ex c) kind.Ex o refl e h b
put_exposed t n args a vs (All c) o m e few h b = plain_put t n args a vs (All c) kind.All o refl e h b
put_exposed t n args a vs (Assert f c) o m e few h b = plain_put t n args a vs (Assert f c) kind.Assert o refl e h b
put_exposed t n args a vs (Assume f c) o m e few h b = plain_put t n args a vs (Assume f c) kind.Assume o refl e h b
put_exposed t n args a vs (Pays p c) o m e few h b = plain_put t n args a vs (Pays p c) kind.Pays o refl e h b
put_exposed t n args a vs (Gets p c) o m e few h b = plain_put t n args a vs (Gets p c) kind.Gets o refl e h b

own_plain : (t : Table) (n : ℕ) (a : Ty) (vs : List ℕ) (x : Layer) (k : Kind) → out-Ty a ≡ x → kind_layer x ≡ Some k → ExposedAs t vs (opened_body t n (timed a)) (exposed_layer t (closed a (whole vs)) x)
own_plain t n a vs x k o q = subst₂ (ExposedAs t vs) (sym (plain_exposed t n a k (ap kind_layer o ∙ q))) (sym (exposes_to t (closed a (whole vs)) x k q)) (record { ticks = value_fixed (pos 0) (whole vs); heads = heads_refl t (closed a (whole vs)) })

-- a type in scope that is no name
own_exposed : (t : Table) (n : ℕ) (a : Ty) (vs : List ℕ) (x : Layer) → out-Ty a ≡ x → is_name_layer x ≡ false → length vs ≡ n → is_scoped n a ≡ true → n + binders (opened_body t n (timed a)).body ≤ 16 → ExposedAs t vs (opened_body t n (timed a)) (exposed_layer t (closed a (whole vs)) x)
own_exposed t n a vs (Named k es) o m e h b = cc
own_exposed t n a vs (Next l c) o m e h b =
    let s = both_true (is_closed n l) (is_scoped n c) (ap (scoped_layer n) (sym o) ∙ (sym (scoped_out n a) ∙ h)) in
    subst (λ y. ExposedAs t vs (opened_body t n (timed_layer a y)) (exposed_layer t (closed a (whole vs)) (Next l c))) (sym o) (record {
      ticks = refl;
      heads = opened_is t n c vs e s.1 (subst (λ y. n + binders (opened_body t n (timed_layer a y)).body ≤ 16) o b);
    })
own_exposed t n a vs One o m e h b = own_plain t n a vs One kind.One o refl
own_exposed t n a vs (Plus ts) o m e h b = own_plain t n a vs (Plus ts) kind.Plus o refl
own_exposed t n a vs (With ts) o m e h b = own_plain t n a vs (With ts) kind.With o refl
own_exposed t n a vs (Tensor c d) o m e h b = own_plain t n a vs (Tensor c d) kind.Tensor o refl
own_exposed t n a vs (Lolli c d) o m e h b = own_plain t n a vs (Lolli c d) kind.Lolli o refl
own_exposed t n a vs (Ex c) o m e h b = own_plain t n a vs (Ex c) kind.Ex o refl
own_exposed t n a vs (All c) o m e h b = own_plain t n a vs (All c) kind.All o refl
own_exposed t n a vs (Assert f c) o m e h b = own_plain t n a vs (Assert f c) kind.Assert o refl
own_exposed t n a vs (Assume f c) o m e h b = own_plain t n a vs (Assume f c) kind.Assume o refl
own_exposed t n a vs (Pays p c) o m e h b = own_plain t n a vs (Pays p c) kind.Pays o refl
own_exposed t n a vs (Gets p c) o m e h b = own_plain t n a vs (Gets p c) kind.Gets o refl

-- a name is opened first
named_exposed : (t : Table) (n k : ℕ) (es : List Linear) (a : Ty) (vs : List ℕ) (o : Option TypeDef) → slice_get t k ≡ o → Unnamed t → out-Ty a ≡ Named k es → length vs ≡ n → n ≤ 16 → is_scoped n a ≡ true → n + binders (opened_body t n (timed (body_at n a o es))).body ≤ 16 → ExposedAs t vs (opened_body t n (timed (body_at n a o es))) (exposed_at t (body_or (closed a (whole vs)) o (map (λ e. value e (whole vs)) es)))
named_exposed t n k es a vs (Some d) q u o e few h b = put_exposed t n es d.body vs (out-Ty d.body) refl (u k d q) e few (named_within n k es a o h) b
named_exposed t n k es a vs None q u o e few h b =
    let m : timed a ≡ record { ticks = fixed (pos 0); body = a } = ap (timed_layer a) o in
    let f : opened t n a ≡ a = ap (opened_layer t n a) o ∙ ap (λ d. body_at n a d es) q in
    let l : opened_body t n (timed a) ≡ record { ticks = fixed (pos 0); body = a } = ap (opened_body t n) m ∙ ap (λ x. let r : Timed = record { ticks = fixed (pos 0); body = x } in r) f in
    subst₂ (ExposedAs t vs) (sym l) (sym (ap (exposed_layer t (closed a (whole vs))) o)) (record { ticks = value_fixed (pos 0) (whole vs); heads = heads_refl t (closed a (whole vs)) })

exposed_by : (t : Table) (n : ℕ) (a : Ty) (vs : List ℕ) (x : Layer) → Unnamed t → out-Ty a ≡ x → length vs ≡ n → n ≤ 16 → is_scoped n a ≡ true → n + binders (opened_body t n (timed (opened_layer t n a x))).body ≤ 16 → ExposedAs t vs (opened_body t n (timed (opened_layer t n a x))) (exposed_at t (unfold_layer t (closed a (whole vs)) x))
exposed_by t n a vs (Named k es) u o e few h b = named_exposed t n k es a vs (slice_get t k) refl u o e few h b
exposed_by t n a vs One u o e few h b = own_exposed t n a vs (out-Ty a) refl (ap is_name_layer o) e h b
exposed_by t n a vs (Plus ts) u o e few h b = own_exposed t n a vs (out-Ty a) refl (ap is_name_layer o) e h b
exposed_by t n a vs (With ts) u o e few h b = own_exposed t n a vs (out-Ty a) refl (ap is_name_layer o) e h b
exposed_by t n a vs (Tensor c d) u o e few h b = own_exposed t n a vs (out-Ty a) refl (ap is_name_layer o) e h b
exposed_by t n a vs (Lolli c d) u o e few h b = own_exposed t n a vs (out-Ty a) refl (ap is_name_layer o) e h b
exposed_by t n a vs (Ex c) u o e few h b = own_exposed t n a vs (out-Ty a) refl (ap is_name_layer o) e h b
exposed_by t n a vs (All c) u o e few h b = own_exposed t n a vs (out-Ty a) refl (ap is_name_layer o) e h b
exposed_by t n a vs (Assert f c) u o e few h b = own_exposed t n a vs (out-Ty a) refl (ap is_name_layer o) e h b
exposed_by t n a vs (Assume f c) u o e few h b = own_exposed t n a vs (out-Ty a) refl (ap is_name_layer o) e h b
exposed_by t n a vs (Pays p c) u o e few h b = own_exposed t n a vs (out-Ty a) refl (ap is_name_layer o) e h b
exposed_by t n a vs (Gets p c) u o e few h b = own_exposed t n a vs (out-Ty a) refl (ap is_name_layer o) e h b
exposed_by t n a vs (Next l c) u o e few h b = own_exposed t n a vs (out-Ty a) refl (ap is_name_layer o) e h b

-- what is exposed of a type in scope are the ticks and the head of the closed type
pub exposed_is : (t : Table) (n : ℕ) (a : Ty) (vs : List ℕ) → Unnamed t → length vs ≡ n → n ≤ 16 → is_scoped n a ≡ true → n + binders (exposed_type t n a).body ≤ 16 → ExposedAs t vs (exposed_type t n a) (exposed t (closed a (whole vs)))
exposed_is t n a vs u e few h b = exposed_by t n a vs (out-Ty a) u refl e few h b
