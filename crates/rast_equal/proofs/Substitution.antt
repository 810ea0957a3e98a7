-- A type with its variables replaced is equal to the type at the arguments' values.
use Rattle.std.proofs.Common.{◌≡◌, ℕ, ℤ, zero, suc, pos, ◌+◌, ◌≤◌, Bool, true, false, ◌==◌, List, [], ◌∷◌, ◌++◌, map, length, get_or, Option, Some, None, is_some, slice_get, refl, sym, ap, ap₂, ◌∙◌, subst, subst₂, arith, if◌then◌else◌, cond, length-append}
use Rattle.std.proofs.lemmas.List.{map-append, length-map}
use Rattle.rast_index.specs.Keys.{find_key}
use Rattle.rast_index.specs.Linear.{Linear, value, whole, variable, replaced}
use Rattle.rast_index.specs.Truth.{truth, put}
use Rattle.rast_index.proofs.Values.{value_replaced}
use Rattle.rast_index.proofs.Scope.{value_variable}
use Rattle.rast_index.proofs.Replaced.{truth_put}
use Rattle.rast_types.specs.declared.table.TypeDef.{TypeDef}
use Rattle.rast_types.specs.declared.ty.Ty.{Ty, out-Ty, roll-out-Ty}
use Rattle.rast_types.specs.declared.ty.Ty.TheOpen.{One, Plus, With, Tensor, Lolli, Named, Ex, All, Assert, Assume, Pays, Gets, Next}
use Rattle.rast_types.specs.declared.ty.Ty.TheFolds.{map-Ty, fold-roll-Ty}
use Rattle.rast_types.specs.Closed.{Closed, closed, Table, Layer, Way, Label as ByLabel, First, Second, Inner, At, close_some, part_layer, part_of, kind_layer, figure_layer, Agree, EqualTo, Equal, Exposed, exposed, exposed_layer, body_or, unfold_layer, unfolded}
use Rattle.rast_types.specs.Symbolic.{put_type, binders, binders_step, most}
use Rattle.rast_equal.proofs.Equals.{equal_refl, some_same, SameHeads}
use Rattle.rast_types.proofs.Layers.{put_layer, out_put}
use Rattle.rast_equal.proofs.Within.{AllWithin, under_binder, values_within}

-- ---- binders

pub binders_out : (a : Ty) → binders a ≡ binders_step (map-Ty Ty ℕ binders (out-Ty a))
binders_out a = ap binders (sym (roll-out-Ty a)) ∙ fold-roll-Ty ℕ binders_step (out-Ty a)

abbrev pub binders_layer : Layer → ℕ
binders_layer x = binders_step (map-Ty Ty ℕ binders x)

abbrev entry_binders : (ℕ × Ty) → ℕ × ℕ
entry_binders e = (e.0, binders e.1)

most_has : (l : ℕ) (ts : List (ℕ × Ty)) (x : Ty) → find_key l ts ≡ Some x → binders x ≤ most (map (λ e. e.1) (map entry_binders ts))
most_has l [] x h = cc
most_has l (t ∷ ts) x h = grind (arith, most_has l ts x)

-- ---- the arguments' values

abbrev pub values_of : List Linear → List ℕ → List ℤ
values_of args vs = map (λ l. value l (whole vs)) args

pub whole-append : (vs ws : List ℕ) → whole (vs ++ ws) ≡ whole vs ++ whole ws
whole-append vs ws = map-append pos vs ws

pub whole-length : (vs : List ℕ) → length (whole vs) ≡ length vs
whole-length vs = length-map vs pos

at_end : (vs : List ℤ) (z : ℤ) → get_or (vs ++ z ∷ []) (length vs) (pos 0) ≡ z
at_end [] z = refl
at_end (v ∷ vs) z = at_end vs z

-- under a binder
pub values_under : (n : ℕ) (args : List Linear) (vs : List ℕ) (m : ℕ) → length vs ≡ n → n + 1 ≤ 16 → AllWithin n args → values_of (args ++ variable n ∷ []) (vs ++ m ∷ []) ≡ values_of args vs ++ pos m ∷ []
values_under n args vs m e few h =
    let w : whole (vs ++ m ∷ []) ≡ whole vs ++ pos m ∷ [] = whole-append vs (m ∷ []) in
    let k : length (whole vs) ≡ n = whole-length vs ∙ e in
    let old : map (λ l. value l (whole vs ++ pos m ∷ [])) args ≡ values_of args vs = values_within args (whole vs) (pos m ∷ []) (omega (arith, k, few)) (subst (λ i. AllWithin i args) (sym k) h) in
    let new : value (variable n) (whole vs ++ pos m ∷ []) ≡ pos m = value_variable n (whole vs ++ pos m ∷ []) (omega (arith, few)) ∙ (ap (λ i. get_or (whole vs ++ pos m ∷ []) i (pos 0)) (sym k) ∙ at_end (whole vs) (pos m)) in
    ap (λ xs. map (λ l. value l xs) (args ++ variable n ∷ [])) w
    ∙ (map-append (λ l. value l (whole vs ++ pos m ∷ [])) args (variable n ∷ []) ∙ ap₂ (λ xs x. xs ++ x ∷ []) old new)

pub replaced_values : (args : List Linear) (vs : List ℕ) (es : List Linear) → length vs ≤ 16 → map (λ e. value e (whole vs)) (map (replaced args) es) ≡ map (λ e. value e (values_of args vs)) es
replaced_values args vs [] few = refl
replaced_values args vs (e ∷ es) few = ap₂ (λ x xs. x ∷ xs) (value_replaced args e (whole vs) (omega (arith, few, whole-length vs))) (replaced_values args vs es few)

-- ---- kinds, figures and parts of a layer

pub kind_put : (n : ℕ) (args : List Linear) (x : Layer) → kind_layer (put_layer n args x) ≡ kind_layer x
kind_put n args One = refl
kind_put n args (Plus ts) = refl
kind_put n args (With ts) = refl
kind_put n args (Tensor a b) = refl
kind_put n args (Lolli a b) = refl
kind_put n args (Named k es) = refl
kind_put n args (Ex a) = refl
kind_put n args (All a) = refl
kind_put n args (Assert f a) = refl
kind_put n args (Assume f a) = refl
kind_put n args (Pays p a) = refl
kind_put n args (Gets p a) = refl
kind_put n args (Next l a) = refl

figure_put : (n : ℕ) (args : List Linear) (vs : List ℕ) (x : Layer) → length vs ≤ 16 → figure_layer (put_layer n args x) (whole vs) ≡ figure_layer x (values_of args vs)
figure_put n args vs One few = refl
figure_put n args vs (Plus ts) few = refl
figure_put n args vs (With ts) few = refl
figure_put n args vs (Tensor a b) few = refl
figure_put n args vs (Lolli a b) few = refl
figure_put n args vs (Named k es) few = refl
figure_put n args vs (Ex a) few = refl
figure_put n args vs (All a) few = refl
figure_put n args vs (Assert f a) few = ap (λ (b : Bool). pos (cond b 1 0)) (truth_put args (whole vs) (omega (arith, few, whole-length vs)) f)
figure_put n args vs (Assume f a) few = ap (λ (b : Bool). pos (cond b 1 0)) (truth_put args (whole vs) (omega (arith, few, whole-length vs)) f)
figure_put n args vs (Pays p a) few = value_replaced args p (whole vs) (omega (arith, few, whole-length vs))
figure_put n args vs (Gets p a) few = value_replaced args p (whole vs) (omega (arith, few, whole-length vs))
figure_put n args vs (Next l a) few = refl

-- both have the part, and the parts are equal to the depth; or neither has it
abbrev Both : Table → ℕ → Option Closed → Option Closed → Type 0
Both t k None None = Unit {0}
Both t k None (Some y) = ⊥
Both t k (Some x) None = ⊥
Both t k (Some x) (Some y) = EqualTo t k x y

both_ways : (t : Table) (k : ℕ) (o u : Option Closed) → Both t k o u → is_some o ≡ is_some u
both_ways t k None None h = refl
both_ways t k None (Some y) h = absurd h
both_ways t k (Some x) None h = absurd h
both_ways t k (Some x) (Some y) h = refl

both_parts : (t : Table) (k : ℕ) (o u : Option Closed) (x y : Closed) → Both t k o u → o ≡ Some x → u ≡ Some y → EqualTo t k x y
both_parts t k None u x y h p q = cc
both_parts t k (Some v) None x y h p q = cc
both_parts t k (Some v) (Some w) x y h p q = let a : v ≡ x = cc in let b : w ≡ y = cc in subst₂ (EqualTo t k) a b h

both_if : (t : Table) (k : ℕ) (b c : Bool) (x y : Closed) → b ≡ c → EqualTo t k x y → Both t k (if b then Some x else None) (if c then Some y else None)
both_if t k false false x y e h = tt
both_if t k false true x y e h = cc
both_if t k true false x y e h = cc
both_if t k true true x y e h = h

-- the claim to a depth
abbrev Claim : Table → ℕ → Type 0
Claim t k = (n : ℕ) (args : List Linear) (a : Ty) (vs : List ℕ) → length vs ≡ n → n + binders (put_type n args a) ≤ 16 → AllWithin n args → EqualTo t k (closed (put_type n args a) (whole vs)) (closed a (values_of args vs))

label_both : (t : Table) (k n : ℕ) (args : List Linear) (vs : List ℕ) (l : ℕ) (ts : List (ℕ × Ty)) → ((x : Ty) → find_key l (map (λ e. (e.0, put_type n args e.1)) ts) ≡ Some (put_type n args x) → EqualTo t k (closed (put_type n args x) (whole vs)) (closed x (values_of args vs))) → Both t k (close_some (whole vs) (find_key l (map (λ e. (e.0, put_type n args e.1)) ts))) (close_some (values_of args vs) (find_key l ts))
label_both t k n args vs l [] h = tt
label_both t k n args vs l (e ∷ ts) h = pick (e.0 == l) refl (λ g. label_both t k n args vs l ts (λ x q. h x (ap (λ (b : Bool). if b then Some (put_type n args e.1) else find_key l (map (λ e. (e.0, put_type n args e.1)) ts)) g ∙ q)))
  where
    pick : (b : Bool) → (e.0 == l) ≡ b → ((e.0 == l) ≡ false → Both t k (close_some (whole vs) (find_key l (map (λ e. (e.0, put_type n args e.1)) ts))) (close_some (values_of args vs) (find_key l ts))) →
        Both t k (close_some (whole vs) (if b then Some (put_type n args e.1) else find_key l (map (λ e. (e.0, put_type n args e.1)) ts))) (close_some (values_of args vs) (if b then Some e.1 else find_key l ts))
    pick true g r = h e.1 (ap (λ (b : Bool). if b then Some (put_type n args e.1) else find_key l (map (λ e. (e.0, put_type n args e.1)) ts)) g)
    pick false g r = r g

under : (t : Table) (k : ℕ) → Claim t k → (n : ℕ) (args : List Linear) (vs : List ℕ) (a : Ty) (m : ℕ) → length vs ≡ n → (n + 1) + binders (put_type (n + 1) (args ++ variable n ∷ []) a) ≤ 16 → AllWithin n args → EqualTo t k (closed (put_type (n + 1) (args ++ variable n ∷ []) a) (whole vs ++ pos m ∷ [])) (closed a (values_of args vs ++ pos m ∷ []))
under t k c n args vs a m e few h =
    let r : EqualTo t k (closed (put_type (n + 1) (args ++ variable n ∷ []) a) (whole (vs ++ m ∷ []))) (closed a (values_of (args ++ variable n ∷ []) (vs ++ m ∷ []))) = c (n + 1) (args ++ variable n ∷ []) a (vs ++ m ∷ []) (length-append vs (m ∷ []) ∙ ap (λ (i : ℕ). i + 1) e) few (under_binder n args h) in
    subst₂ (λ xs ys. EqualTo t k (closed (put_type (n + 1) (args ++ variable n ∷ []) a) xs) (closed a ys)) (whole-append vs (m ∷ [])) (values_under n args vs m e (omega (arith, few)) h) r

parts_put : (t : Table) (k : ℕ) → Claim t k → (n : ℕ) (args : List Linear) (vs : List ℕ) (x : Layer) → length vs ≡ n → n + binders_layer (put_layer n args x) ≤ 16 → AllWithin n args → (w : Way) → Both t k (part_layer (put_layer n args x) (whole vs) w) (part_layer x (values_of args vs) w)
parts_put t k c n args vs (Plus ts) e few h (ByLabel l) = label_both t k n args vs l ts (λ x q. c n args x vs e (omega (arith, few, most_has l (map (λ e. (e.0, put_type n args e.1)) ts) (put_type n args x) q)) h)
parts_put t k c n args vs (With ts) e few h (ByLabel l) = label_both t k n args vs l ts (λ x q. c n args x vs e (omega (arith, few, most_has l (map (λ e. (e.0, put_type n args e.1)) ts) (put_type n args x) q)) h)
parts_put t k c n args vs (Tensor a b) e few h First = c n args a vs e (omega (arith, few)) h
parts_put t k c n args vs (Tensor a b) e few h Second = c n args b vs e (omega (arith, few)) h
parts_put t k c n args vs (Lolli a b) e few h First = c n args a vs e (omega (arith, few)) h
parts_put t k c n args vs (Lolli a b) e few h Second = c n args b vs e (omega (arith, few)) h
parts_put t k c n args vs (Ex a) e few h (At m) = under t k c n args vs a m e (omega (arith, few)) h
parts_put t k c n args vs (All a) e few h (At m) = under t k c n args vs a m e (omega (arith, few)) h
parts_put t k c n args vs (Assert f a) e few h Inner = both_if t k (truth (put args f) (whole vs)) (truth f (values_of args vs)) _ _ (truth_put args (whole vs) (omega (arith, few, whole-length vs, e)) f) (c n args a vs e (omega (arith, few)) h)
parts_put t k c n args vs (Assume f a) e few h Inner = both_if t k (truth (put args f) (whole vs)) (truth f (values_of args vs)) _ _ (truth_put args (whole vs) (omega (arith, few, whole-length vs, e)) f) (c n args a vs e (omega (arith, few)) h)
parts_put t k c n args vs (Pays p a) e few h Inner = c n args a vs e (omega (arith, few)) h
parts_put t k c n args vs (Gets p a) e few h Inner = c n args a vs e (omega (arith, few)) h
parts_put t k c n args vs x e few h w = tt

-- ---- the claim

agree_refl : (t : Table) (k : ℕ) (c : Closed) → Agree (EqualTo t k) c c
agree_refl t k c = record { kind = refl; figure = refl; ways = λ w. refl; parts = λ w x y p q. subst (EqualTo t k x) (some_same (part_of c w) p q) (equal_refl t x k) }

agree_put : (t : Table) (k : ℕ) → Claim t k → (n : ℕ) (args : List Linear) (a : Ty) (vs : List ℕ) → length vs ≡ n → n + binders (put_type n args a) ≤ 16 → AllWithin n args → Agree (EqualTo t k) (closed (put_type n args a) (whole vs)) (closed a (values_of args vs))
agree_put t k c n args a vs e few h =
    let o : out-Ty (put_type n args a) ≡ put_layer n args (out-Ty a) = out_put n args a in
    let b : n + binders_layer (put_layer n args (out-Ty a)) ≤ 16 = omega (arith, few, binders_out (put_type n args a), ap binders_layer o) in
    let both : (w : Way) → Both t k (part_of (closed (put_type n args a) (whole vs)) w) (part_of (closed a (values_of args vs)) w) = λ w. subst (λ y. Both t k (part_layer y (whole vs) w) (part_layer (out-Ty a) (values_of args vs) w)) (sym o) (parts_put t k c n args vs (out-Ty a) e b h w) in
    record {
      kind = ap kind_layer o ∙ kind_put n args (out-Ty a);
      figure = ap (λ y. figure_layer y (whole vs)) o ∙ figure_put n args vs (out-Ty a) (omega (arith, few, e));
      ways = λ w. both_ways t k _ _ (both w);
      parts = λ w x y p q. both_parts t k _ _ x y (both w) p q;
    }

-- what a name unfolds to is the same on both sides
unfolds_named : (t : Table) (k : ℕ) (n : ℕ) (args : List Linear) (a : Ty) (vs : List ℕ) (j : ℕ) (es : List Linear) (o : Option TypeDef) → length vs ≤ 16 → Agree (EqualTo t k) (closed (put_type n args a) (whole vs)) (closed a (values_of args vs)) → Agree (EqualTo t k) (body_or (closed (put_type n args a) (whole vs)) o (map (λ e. value e (whole vs)) (map (replaced args) es))) (body_or (closed a (values_of args vs)) o (map (λ e. value e (values_of args vs)) es))
unfolds_named t k n args a vs j es None few h = h
unfolds_named t k n args a vs j es (Some d) few h = subst (λ xs. Agree (EqualTo t k) (closed d.body xs) (closed d.body (map (λ e. value e (values_of args vs)) es))) (sym (replaced_values args vs es few)) (agree_refl t k (closed d.body (map (λ e. value e (values_of args vs)) es)))

unfolded_put : (t : Table) (k : ℕ) (n : ℕ) (args : List Linear) (a : Ty) (vs : List ℕ) (x : Layer) → length vs ≤ 16 → Agree (EqualTo t k) (closed (put_type n args a) (whole vs)) (closed a (values_of args vs)) → Agree (EqualTo t k) (unfold_layer t (closed (put_type n args a) (whole vs)) (put_layer n args x)) (unfold_layer t (closed a (values_of args vs)) x)
unfolded_put t k n args a vs (Named j es) few h = unfolds_named t k n args a vs j es (slice_get t j) few h
unfolded_put t k n args a vs One few h = h
unfolded_put t k n args a vs (Plus ts) few h = h
unfolded_put t k n args a vs (With ts) few h = h
unfolded_put t k n args a vs (Tensor b c) few h = h
unfolded_put t k n args a vs (Lolli b c) few h = h
unfolded_put t k n args a vs (Ex b) few h = h
unfolded_put t k n args a vs (All b) few h = h
unfolded_put t k n args a vs (Assert f b) few h = h
unfolded_put t k n args a vs (Assume f b) few h = h
unfolded_put t k n args a vs (Pays p b) few h = h
unfolded_put t k n args a vs (Gets p b) few h = h
unfolded_put t k n args a vs (Next l b) few h = h

abbrev Same : Table → ℕ → Exposed → Exposed → Type 0
Same t k x y = (x.ticks ≡ y.ticks) × Agree (EqualTo t k) x.head y.head

-- where neither is a name, by the layers themselves
exposed_put : (t : Table) (k : ℕ) → Claim t k → (n : ℕ) (args : List Linear) (a : Ty) (vs : List ℕ) (x : Layer) → length vs ≡ n → n + binders_layer (put_layer n args x) ≤ 16 → AllWithin n args → Agree (EqualTo t k) (closed (put_type n args a) (whole vs)) (closed a (values_of args vs)) → Same t k (exposed_layer t (closed (put_type n args a) (whole vs)) (put_layer n args x)) (exposed_layer t (closed a (values_of args vs)) x)
exposed_put t k c n args a vs (Next l b) e few h g =
    let r : Agree (EqualTo t k) (closed (put_type n args b) (whole vs)) (closed b (values_of args vs)) = agree_put t k c n args b vs e (omega (arith, few)) h in (
      value_replaced args l (whole vs) (omega (arith, few, e, whole-length vs)),
      subst (λ y. Agree (EqualTo t k) (unfold_layer t (closed (put_type n args b) (whole vs)) y) (unfolded t (closed b (values_of args vs)))) (sym (out_put n args b)) (unfolded_put t k n args b vs (out-Ty b) (omega (arith, few, e)) r),
    )
exposed_put t k c n args a vs One e few h g = (refl, g)
exposed_put t k c n args a vs (Plus ts) e few h g = (refl, g)
exposed_put t k c n args a vs (With ts) e few h g = (refl, g)
exposed_put t k c n args a vs (Tensor b d) e few h g = (refl, g)
exposed_put t k c n args a vs (Lolli b d) e few h g = (refl, g)
exposed_put t k c n args a vs (Named j es) e few h g = (refl, g)
exposed_put t k c n args a vs (Ex b) e few h g = (refl, g)
exposed_put t k c n args a vs (All b) e few h g = (refl, g)
exposed_put t k c n args a vs (Assert f b) e few h g = (refl, g)
exposed_put t k c n args a vs (Assume f b) e few h g = (refl, g)
exposed_put t k c n args a vs (Pays p b) e few h g = (refl, g)
exposed_put t k c n args a vs (Gets p b) e few h g = (refl, g)

abbrev expose_at : Table → Closed → Exposed
expose_at t u = exposed_layer t u (out-Ty u.ty)

named_same : (t : Table) (k n : ℕ) (args : List Linear) (a : Ty) (vs : List ℕ) (j : ℕ) (es : List Linear) (o : Option TypeDef) → length vs ≤ 16 → Same t k (expose_at t (closed (put_type n args a) (whole vs))) (expose_at t (closed a (values_of args vs))) → Same t k (expose_at t (body_or (closed (put_type n args a) (whole vs)) o (map (λ e. value e (whole vs)) (map (replaced args) es)))) (expose_at t (body_or (closed a (values_of args vs)) o (map (λ e. value e (values_of args vs)) es)))
named_same t k n args a vs j es None few h = h
named_same t k n args a vs j es (Some d) few h =
    subst (λ xs. Same t k (expose_at t (closed d.body xs)) (expose_at t (closed d.body (map (λ e. value e (values_of args vs)) es)))) (sym (replaced_values args vs es few)) (refl, agree_refl t k (expose_at t (closed d.body (map (λ e. value e (values_of args vs)) es))).head)

open_same : (t : Table) (k n : ℕ) (args : List Linear) (a : Ty) (vs : List ℕ) (x : Layer) → length vs ≤ 16 → Same t k (expose_at t (closed (put_type n args a) (whole vs))) (expose_at t (closed a (values_of args vs))) → Same t k (expose_at t (unfold_layer t (closed (put_type n args a) (whole vs)) (put_layer n args x))) (expose_at t (unfold_layer t (closed a (values_of args vs)) x))
open_same t k n args a vs (Named j es) few h = named_same t k n args a vs j es (slice_get t j) few h
open_same t k n args a vs One few h = h
open_same t k n args a vs (Plus ts) few h = h
open_same t k n args a vs (With ts) few h = h
open_same t k n args a vs (Tensor b c) few h = h
open_same t k n args a vs (Lolli b c) few h = h
open_same t k n args a vs (Ex b) few h = h
open_same t k n args a vs (All b) few h = h
open_same t k n args a vs (Assert f b) few h = h
open_same t k n args a vs (Assume f b) few h = h
open_same t k n args a vs (Pays p b) few h = h
open_same t k n args a vs (Gets p b) few h = h
open_same t k n args a vs (Next l b) few h = h

claim : (t : Table) (k : ℕ) → Claim t k
claim t zero = λ n args a vs e few h. tt
claim t (suc k) = λ n args a vs e few h.
    let o : out-Ty (put_type n args a) ≡ put_layer n args (out-Ty a) = out_put n args a in
    let b : n + binders_layer (put_layer n args (out-Ty a)) ≤ 16 = omega (arith, few, binders_out (put_type n args a), ap binders_layer o) in
    let g : Agree (EqualTo t k) (closed (put_type n args a) (whole vs)) (closed a (values_of args vs)) = agree_put t k (claim t k) n args a vs e few h in
    let s : Same t k (expose_at t (closed (put_type n args a) (whole vs))) (expose_at t (closed a (values_of args vs))) = subst (λ y. Same t k (exposed_layer t (closed (put_type n args a) (whole vs)) y) (expose_at t (closed a (values_of args vs)))) (sym o) (exposed_put t k (claim t k) n args a vs (out-Ty a) e b h g) in
    subst (λ y. Same t k (expose_at t (unfold_layer t (closed (put_type n args a) (whole vs)) y)) (exposed t (closed a (values_of args vs)))) (sym o) (open_same t k n args a vs (out-Ty a) (omega (arith, few, e)) s)

-- at a valuation of the variables in scope, a type with its variables replaced is the type at the arguments' values
pub put_equal : (t : Table) (n : ℕ) (args : List Linear) (a : Ty) (vs : List ℕ) → length vs ≡ n → n + binders (put_type n args a) ≤ 16 → AllWithin n args → Equal t (closed (put_type n args a) (whole vs)) (closed a (values_of args vs))
put_equal t n args a vs e few h = λ k. claim t k n args a vs e few h

-- and their heads agree as they stand
pub put_heads : (t : Table) (n : ℕ) (args : List Linear) (a : Ty) (vs : List ℕ) → length vs ≡ n → n + binders (put_type n args a) ≤ 16 → AllWithin n args → SameHeads t (closed (put_type n args a) (whole vs)) (closed a (values_of args vs))
put_heads t n args a vs e few h =
    let g : (k : ℕ) → Agree (EqualTo t k) (closed (put_type n args a) (whole vs)) (closed a (values_of args vs)) = λ k. agree_put t k (claim t k) n args a vs e few h in
    record { kind = (g 0).kind; figure = (g 0).figure; ways = (g 0).ways; parts = λ w x y p q. λ k. (g k).parts w x y p q }
