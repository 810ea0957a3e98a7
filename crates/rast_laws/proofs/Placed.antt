-- Each judgement of a well made and accepted program has its channels in order and its types in scope.
use Rattle.std.proofs.Common.{◌≡◌, ℕ, zero, suc, ◌+◌, ◌≤◌, Bool, true, false, not, ◌==◌, List, [], ◌∷◌, ◌++◌, map, length, Option, Some, None, slice_get, refl, sym, ap, ◌∙◌, subst, subst₂, arith, if◌then◌else◌, eqb-true}
use Rattle.std.specs.Prelude.{Ok}
use Rattle.std.specs.List.{list_any, AllByRecursion}
use Rattle.std.proofs.lemmas.List.Elements.{recursion_from_All}
use Rattle.rast_index.specs.Keys.{find_key, set_key, numbered}
use Rattle.rast_index.specs.Truth.{is_closed_formula}
use Rattle.rast_index.proofs.Scope.{both_true}
use Rattle.rast_index.specs.Linear.{Linear, variables, is_closed, less, replaced}
use Rattle.rast_types.specs.declared.ty.Kind.{Kind}
use Rattle.rast_types.specs.declared.ty.Kind.TheVariants as kind
use Rattle.rast_types.specs.declared.ty.Ty.{Ty, out-Ty}
use Rattle.rast_types.specs.declared.ty.Ty.TheOpen.{Ex, All as Each, Assert, Assume, Pays, Gets}
use Rattle.rast_types.specs.Closed.{Layer, kind_layer}
use Rattle.rast_types.specs.Symbolic.{put_type, is_scoped, exposed_type, after_delay}
use Rattle.rast_terms.specs.Nodes.{Touch, touches, kids}
use Rattle.rast_made.specs.WellMade.{IsWellMade, IsMadeType, IsMadeDecl, IsMadeNode, StandsIn, at_root as stands_root, at_child as stands_child, bound_variables, bound_channels}
use Rattle.rast_terms.specs.declared.node.Node.{Node}
use Rattle.rast_terms.specs.declared.node.Node.TheVariants as node
use Rattle.rast_terms.specs.declared.program.Program.{Program}
use Rattle.rast_terms.specs.declared.program.Decl.{Decl}
use Rattle.rast_rules.specs.declared.judgement.Judgement.{Judgement}
use Rattle.rast_rules.specs.Rules.{defs, is_provided, used_type, type_of, with_type, without, with_channel, with_potential, widened, with_variable, or_one, head_at, choices_of, inner_layer, first_of_pair, second_of_pair, inner_of, root, delayed, at_args, spawned, child_at, children, limited, asked, touch_asked, node_asked, IsJudgement, at_root, at_child, IsAccepted}
use Rattle.rast_equal.proofs.Within.{Within, AllWithin, all_within, within_closed, all_within_append, variables_within}
use Rattle.rast_equal.proofs.Scoped.{scoped_out, scoped_layer, scoped_put, exposed_scoped}
use Rattle.rast_laws.proofs.Judged.{AllAsked, limited_is, Judged, judged}
use Rattle.rast_laws.proofs.Asking.{Touches, touches_asked}
use Rattle.rast_laws.proofs.Shapes.{Rising, rising_numbered, rising_set, rising_filter, rising_more, rising_map, AllScoped, scoped_one, scoped_find, scoped_or, scoped_set, scoped_filter, scoped_more, scoped_map, choices_scoped, pair_scoped}
use Rattle.rast_laws.proofs.Delaying.{after_scoped}
use Rattle.rast_equal.proofs.Every.{all_get}

-- so many variables and channels below a number
pub record Shape (vars fresh : ℕ) (j : Judgement) : Type 0 where
  pub vars_is : j.ctx.vars ≡ vars
  pub fresh_is : j.fresh ≡ fresh
  pub provided : j.gives.0 ≡ 0
  pub some : 1 ≤ fresh
  pub keys : Rising 1 fresh j.uses
  pub uses : AllScoped vars j.uses
  pub gives : is_scoped vars j.gives.1 ≡ true

-- ---- changes of a judgement

with_type_shape : (v f : ℕ) (j : Judgement) (x : ℕ) (a : Ty) (b : Bool) → is_provided j x ≡ b → is_scoped v a ≡ true → Shape v f j → Shape v f (if b then record j { gives = (x, a) } else record j { uses = set_key x a j.uses })
with_type_shape v f j x a true e s h = record { vars_is = h.vars_is; fresh_is = h.fresh_is; provided = eqb-true x j.gives.0 e ∙ h.provided; some = h.some; keys = h.keys; uses = h.uses; gives = s }
with_type_shape v f j x a false e s h = record { vars_is = h.vars_is; fresh_is = h.fresh_is; provided = h.provided; some = h.some; keys = rising_set 1 f x a j.uses h.keys; uses = scoped_set v x a j.uses s h.uses; gives = h.gives }

pub shape_type : (v f : ℕ) (j : Judgement) (x : ℕ) (a : Ty) → is_scoped v a ≡ true → Shape v f j → Shape v f (with_type j x a)
shape_type v f j x a s h = with_type_shape v f j x a (is_provided j x) refl s h

pub shape_without : (v f : ℕ) (j : Judgement) (ys : List ℕ) → Shape v f j → Shape v f (without j ys)
shape_without v f j ys h = record { vars_is = h.vars_is; fresh_is = h.fresh_is; provided = h.provided; some = h.some; keys = rising_filter 1 f (λ u. not (list_any (λ y. y == u.0) ys)) j.uses h.keys; uses = scoped_filter v (λ u. not (list_any (λ y. y == u.0) ys)) j.uses h.uses; gives = h.gives }

pub shape_channel : (v f : ℕ) (j : Judgement) (a : Ty) → is_scoped v a ≡ true → Shape v f j → Shape v (f + 1) (with_channel j a)
shape_channel v f j a s h = record {
  vars_is = h.vars_is;
  fresh_is = ap (λ (n : ℕ). n + 1) h.fresh_is;
  provided = h.provided;
  some = omega (arith, h.some);
  keys = subst (λ (n : ℕ). Rising 1 (f + 1) (j.uses ++ (n, a) ∷ [])) (sym h.fresh_is) (rising_more 1 f a j.uses h.some h.keys);
  uses = scoped_more v j.fresh a j.uses s h.uses;
  gives = h.gives;
}

shape_potential : (v f : ℕ) (j : Judgement) (q : Linear) → Shape v f j → Shape v f (with_potential j q)
shape_potential v f j q h = record { vars_is = h.vars_is; fresh_is = h.fresh_is; provided = h.provided; some = h.some; keys = h.keys; uses = h.uses; gives = h.gives }

widened_scoped : (v w : ℕ) (a : Ty) → v ≡ w → is_scoped (w + 1) (widened v a) ≡ true
widened_scoped v w a e = subst (λ (n : ℕ). is_scoped (n + 1) (widened v a) ≡ true) e (scoped_put (v + 1) (variables v) a (variables_within (v + 1) v (omega arith)))

shape_variable : (v f : ℕ) (j : Judgement) → Shape v f j → Shape (v + 1) f (with_variable j)
shape_variable v f j h = record {
  vars_is = ap (λ (n : ℕ). n + 1) h.vars_is;
  fresh_is = h.fresh_is;
  provided = h.provided;
  some = h.some;
  keys = rising_map 1 f (widened j.ctx.vars) j.uses h.keys;
  uses = scoped_map v (v + 1) (widened j.ctx.vars) j.uses (λ a s. widened_scoped j.ctx.vars v a h.vars_is) h.uses;
  gives = widened_scoped j.ctx.vars v j.gives.1 h.vars_is;
}

after_at : (g : Program) (j : Judgement) (t : Linear) (v : ℕ) (provided : Bool) (a : Ty) → j.ctx.vars ≡ v → Within v t → is_scoped v a ≡ true → is_scoped v (after_delay (defs g) j.ctx.vars t provided a) ≡ true
after_at g j t v provided a e w s = subst (λ n. is_scoped v (after_delay (defs g) n t provided a) ≡ true) (sym e) (after_scoped (defs g) v t provided a w s)

shape_delayed : (g : Program) (v f : ℕ) (j : Judgement) (t : Linear) → Within v t → Shape v f j → Shape v f (delayed g j t)
shape_delayed g v f j t w h = record {
  vars_is = h.vars_is;
  fresh_is = h.fresh_is;
  provided = h.provided;
  some = h.some;
  keys = rising_map 1 f (after_delay (defs g) j.ctx.vars t false) j.uses h.keys;
  uses = scoped_map v v (after_delay (defs g) j.ctx.vars t false) j.uses (λ a s. after_at g j t v false a h.vars_is w s) h.uses;
  gives = after_at g j t v true j.gives.1 h.vars_is w h.gives;
}

-- ---- the head of a channel

type_scoped : (v f : ℕ) (j : Judgement) (x : ℕ) (b : Bool) → Shape v f j → is_scoped v (or_one (if b then Some j.gives.1 else used_type j x)) ≡ true
type_scoped v f j x true h = h.gives
type_scoped v f j x false h = scoped_or v (used_type j x) (λ a e. scoped_find v x j.uses a h.uses e)

pub head_scoped : (g : Program) (v f : ℕ) (j : Judgement) (x : ℕ) → Shape v f j → is_scoped v (head_at g j x) ≡ true
head_scoped g v f j x h = subst (λ n. is_scoped v (exposed_type (defs g) n (or_one (type_of j x))).body ≡ true) (sym h.vars_is) (exposed_scoped (defs g) v (or_one (type_of j x)) (type_scoped v f j x (is_provided j x) h))

choice_scoped : (g : Program) (v f : ℕ) (j : Judgement) (x l : ℕ) → Shape v f j → is_scoped v (or_one (find_key l (choices_of (head_at g j x)))) ≡ true
choice_scoped g v f j x l h = scoped_or v (find_key l (choices_of (head_at g j x))) (λ a e. scoped_find v l (choices_of (head_at g j x)) a (choices_scoped v (head_at g j x) (head_scoped g v f j x h)) e)

-- kinds with a body below no binder, and below one
abbrev pub is_free : Kind → Bool
is_free kind.Assert = true
is_free kind.Assume = true
is_free kind.Pays = true
is_free kind.Gets = true
is_free k = false

abbrev pub is_binding : Kind → Bool
is_binding kind.Ex = true
is_binding kind.All = true
is_binding k = false

free_inner : (v : ℕ) (x : Layer) → ((k : Kind) → kind_layer x ≡ Some k → is_free k ≡ true) → scoped_layer v x ≡ true → is_scoped v (or_one (inner_layer x)) ≡ true
free_inner v (Ex a) h s = let z : false ≡ true = h kind.Ex refl in cc
free_inner v (Each a) h s = let z : false ≡ true = h kind.All refl in cc
free_inner v (Assert f a) h s = (both_true (is_closed_formula v f) (is_scoped v a) s).1
free_inner v (Assume f a) h s = (both_true (is_closed_formula v f) (is_scoped v a) s).1
free_inner v (Pays p a) h s = (both_true (is_closed v p) (is_scoped v a) s).1
free_inner v (Gets p a) h s = (both_true (is_closed v p) (is_scoped v a) s).1
free_inner v x h s = scoped_one v

bound_inner : (v : ℕ) (x : Layer) → ((k : Kind) → kind_layer x ≡ Some k → is_binding k ≡ true) → scoped_layer v x ≡ true → is_scoped (v + 1) (or_one (inner_layer x)) ≡ true
bound_inner v (Ex a) h s = s
bound_inner v (Each a) h s = s
bound_inner v (Assert f a) h s = let z : false ≡ true = h kind.Assert refl in cc
bound_inner v (Assume f a) h s = let z : false ≡ true = h kind.Assume refl in cc
bound_inner v (Pays p a) h s = let z : false ≡ true = h kind.Pays refl in cc
bound_inner v (Gets p a) h s = let z : false ≡ true = h kind.Gets refl in cc
bound_inner v x h s = scoped_one (v + 1)

-- the wanted kind is one of two
pub one_of : (F : Kind → Type 0) (b : Bool) (p u want : Kind) → (if b then Some p else Some u) ≡ Some want → F p → F u → F want
one_of F true p u want e x y = let s : p ≡ want = cc in subst F s x
one_of F false p u want e x y = let s : u ≡ want = cc in subst F s y

wanted : (F : Kind → Bool) (b : Bool) (p u want k : Kind) → (if b then Some p else Some u) ≡ Some want → want ≡ k → F p ≡ true → F u ≡ true → F k ≡ true
wanted F b p u want k e q x y = subst (λ z. F z ≡ true) q (one_of (λ z. F z ≡ true) b p u want e x y)

-- the body at a node that needs one of these heads
pub free_at : (g : Program) (v f : ℕ) (j : Judgement) (nd : Node) (x : ℕ) (p u : Kind) → Shape v f j → Touches g j nd x (if is_provided j x then Some p else Some u) → is_free p ≡ true → is_free u ≡ true → is_scoped v (inner_of (head_at g j x)) ≡ true
free_at g v f j nd x p u h t a b = free_inner v (out-Ty (head_at g j x)) (λ k e. wanted is_free (is_provided j x) p u t.want k t.want_is (t.kind k e) a b) (sym (scoped_out v (head_at g j x)) ∙ head_scoped g v f j x h)

pub bound_at : (g : Program) (v f : ℕ) (j : Judgement) (nd : Node) (x : ℕ) (p u : Kind) → Shape v f j → Touches g j nd x (if is_provided j x then Some p else Some u) → is_binding p ≡ true → is_binding u ≡ true → is_scoped (v + 1) (inner_of (head_at g j x)) ≡ true
bound_at g v f j nd x p u h t a b = bound_inner v (out-Ty (head_at g j x)) (λ k e. wanted is_binding (is_provided j x) p u t.want k t.want_is (t.kind k e) a b) (sym (scoped_out v (head_at g j x)) ∙ head_scoped g v f j x h)

-- ---- children

pub only_one : {A : Type 0} (x c : A) (i : ℕ) → slice_get (x ∷ []) i ≡ Some c → x ≡ c
only_one {A} x c zero e = cc
only_one {A} x c (suc i) e = absurd (none i e)
  where
    none : (i : ℕ) → slice_get [] i ≡ Some c → ⊥
    none zero e = cc
    none (suc i) e = cc

same_shape : (v f w e : ℕ) (j : Judgement) → v ≡ w → f ≡ e → Shape v f j → Shape w e j
same_shape v f w e j p q h = subst₂ (λ a b. Shape a b j) p q h

only_shape : (v f : ℕ) (x c : Judgement) (i : ℕ) → slice_get (x ∷ []) i ≡ Some c → Shape v f x → Shape (v + 0) (f + 0) c
only_shape v f x c i e h = same_shape v f (v + 0) (f + 0) c (omega arith) (omega arith) (subst (Shape v f) (only_one x c i e) h)

case_shape : (g : Program) (v f : ℕ) (j : Judgement) (x : ℕ) (bs : List (ℕ × ℕ)) (c : Judgement) (i : ℕ) → Shape v f j → slice_get (map (λ b. with_type j x (or_one (find_key b.0 (choices_of (head_at g j x))))) bs) i ≡ Some c → Shape v f c
case_shape g v f j x [] c zero h e = cc
case_shape g v f j x [] c (suc i) h e = cc
case_shape g v f j x (b ∷ bs) c zero h e =
    let s : with_type j x (or_one (find_key b.0 (choices_of (head_at g j x)))) ≡ c = cc in
    subst (Shape v f) s (shape_type v f j x (or_one (find_key b.0 (choices_of (head_at g j x)))) (choice_scoped g v f j x b.0 h) h)
case_shape g v f j x (b ∷ bs) c (suc i) h e = case_shape g v f j x bs c i h e

spawned_shape : (g : Program) (v f : ℕ) (j : Judgement) (es : List Linear) (ys : List ℕ) (o : Option Decl) (d : Decl) → o ≡ Some d → AllWithin v es → Shape v f j → Shape v (f + 1) (spawned j es ys o)
spawned_shape g v f j es ys None d e w h = cc
spawned_shape g v f j es ys (Some k) d e w h =
    shape_channel v f (with_potential (without j ys) (less j.potential (replaced es k.potential))) (at_args j es k.gives)
    (subst (λ n. is_scoped v (put_type n es k.gives) ≡ true) (sym h.vars_is) (scoped_put v es k.gives w))
    (shape_potential v f (without j ys) (less j.potential (replaced es k.potential)) (shape_without v f j ys h))

index_scoped : (v w : ℕ) (e : Linear) (a : Ty) → w ≡ v → is_closed v e ≡ true → is_scoped v (put_type w (variables w ++ e ∷ []) a) ≡ true
index_scoped v w e a q c = subst (λ n. is_scoped v (put_type n (variables n ++ e ∷ []) a) ≡ true) (sym q) (scoped_put v (variables v ++ e ∷ []) a (all_within_append v (variables v) (e ∷ []) (variables_within v v (omega arith)) (within_closed v e c, tt)))

-- what is asked of a node that touches a channel
abbrev pub touching : (g : Program) (j : Judgement) (nd : Node) (t : Touch) → touches nd ≡ Some t → AllAsked g j (asked g j nd) → AllAsked g j (touch_asked g j nd t)
touching g j nd t e h = subst (λ o. AllAsked g j (node_asked g j nd o)) e h

pub child_shape : (g : Program) (v f : ℕ) (j : Judgement) (nd : Node) (c : Judgement) (i : ℕ) → Shape v f j → AllAsked g j (asked g j nd) → IsMadeNode g v f nd → slice_get (child_at g j nd (head_at g j)) i ≡ Some c → Shape (v + bound_variables nd) (f + bound_channels nd) c
child_shape g v f j (node.Label x l n) c i h q m e = only_shape v f _ c i e (shape_type v f j x _ (choice_scoped g v f j x l h) h)
child_shape g v f j (node.Case x bs) c i h q m e = same_shape v f (v + 0) (f + 0) c (omega arith) (omega arith) (case_shape g v f j x bs c i h e)
child_shape g v f j (node.Send x w rs n) c i h q m e = only_shape v f _ c i e (shape_type v f (without j (w ∷ [])) x _ (pair_scoped v (head_at g j x) (head_scoped g v f j x h)).1 (shape_without v f j (w ∷ []) h))
child_shape g v f j (node.Recv x y n) c i h q m e =
    let r = pair_scoped v (head_at g j x) (head_scoped g v f j x h) in
    same_shape v (f + 1) (v + 0) (f + 1) c (omega arith) refl (subst (Shape v (f + 1)) (only_one _ c i e) (shape_channel v f (with_type j x (second_of_pair (head_at g j x))) (first_of_pair (head_at g j x)) r.0 (shape_type v f j x (second_of_pair (head_at g j x)) r.1 h)))
child_shape g v f j (node.Index x t n) c i h q m e = only_shape v f _ c i e (shape_type v f j x _ (index_scoped v j.ctx.vars t (inner_of (head_at g j x)) h.vars_is m.1) h)
child_shape g v f j (node.Bind x y n) c i h q m e =
    let t = touches_asked g j (node.Bind x y n) (record { x = x; provided = Some kind.All; used = Some kind.Ex }) q in
    same_shape (v + 1) f (v + 1) (f + 0) c refl (omega arith) (subst (Shape (v + 1) f) (only_one _ c i e) (shape_type (v + 1) f (with_variable j) x (inner_of (head_at g j x)) (bound_at g v f j (node.Bind x y n) x kind.All kind.Ex h t refl refl) (shape_variable v f j h)))
child_shape g v f j (node.Assert x n) c i h q m e =
    let t = touches_asked g j (node.Assert x n) (record { x = x; provided = Some kind.Assert; used = Some kind.Assume }) q in
    only_shape v f _ c i e (shape_type v f j x (inner_of (head_at g j x)) (free_at g v f j (node.Assert x n) x kind.Assert kind.Assume h t refl refl) h)
child_shape g v f j (node.Assume x n) c i h q m e =
    let t = touches_asked g j (node.Assume x n) (record { x = x; provided = Some kind.Assume; used = Some kind.Assert }) q in
    let r = shape_type v f j x (inner_of (head_at g j x)) (free_at g v f j (node.Assume x n) x kind.Assume kind.Assert h t refl refl) h in
    only_shape v f _ c i e (record { vars_is = r.vars_is; fresh_is = r.fresh_is; provided = r.provided; some = r.some; keys = r.keys; uses = r.uses; gives = r.gives })
child_shape g v f j (node.Pay x n) c i h q m e =
    let t = touches_asked g j (node.Pay x n) (record { x = x; provided = Some kind.Pays; used = Some kind.Gets }) q in
    only_shape v f _ c i e (shape_potential v f _ _ (shape_type v f j x (inner_of (head_at g j x)) (free_at g v f j (node.Pay x n) x kind.Pays kind.Gets h t refl refl) h))
child_shape g v f j (node.Get x n) c i h q m e =
    let t = touches_asked g j (node.Get x n) (record { x = x; provided = Some kind.Gets; used = Some kind.Pays }) q in
    only_shape v f _ c i e (shape_potential v f _ _ (shape_type v f j x (inner_of (head_at g j x)) (free_at g v f j (node.Get x n) x kind.Gets kind.Pays h t refl refl) h))
child_shape g v f j (node.Close x) c zero h q m e = cc
child_shape g v f j (node.Close x) c (suc i) h q m e = cc
child_shape g v f j (node.Wait x n) c i h q m e = only_shape v f _ c i e (shape_without v f j (x ∷ []) h)
child_shape g v f j (node.Forward x y rs) c zero h q m e = cc
child_shape g v f j (node.Forward x y rs) c (suc i) h q m e = cc
child_shape g v f j (node.Spawn y d es ys rs n) c i h q m e =
    same_shape v (f + 1) (v + 0) (f + 1) c (omega arith) refl (subst (Shape v (f + 1)) (only_one _ c i e) (spawned_shape g v f j es ys (slice_get g.decls d) m.1.decl m.1.is (all_within v es m.1.terms) h))
child_shape g v f j (node.Call x d es ys rs) c zero h q m e = cc
child_shape g v f j (node.Call x d es ys rs) c (suc i) h q m e = cc
child_shape g v f j node.Impossible c zero h q m e = cc
child_shape g v f j node.Impossible c (suc i) h q m e = cc
child_shape g v f j (node.Work r n) c i h q m e = only_shape v f _ c i e (shape_potential v f j _ h)
child_shape g v f j (node.Delay t n) c i h q m e = only_shape v f _ c i e (shape_delayed g v f j t (within_closed v t m) h)

-- ---- whole programs

pub record Placed (g : Program) (n : ℕ) (j : Judgement) : Type 0 where
  pub shape : Shape j.ctx.vars j.fresh j
  pub stands : StandsIn g n j.ctx.vars j.fresh

uses_scoped : (g : Program) (v k : ℕ) (as' : List Ty) → AllByRecursion (IsMadeType g v) as' → AllScoped v (numbered k as')
uses_scoped g v k [] h = tt
uses_scoped g v k (a ∷ as') h = (h.0.scoped, uses_scoped g v (k + 1) as' h.1)

root_shape : (g : Program) (k : ℕ) (d : Decl) → IsMadeDecl g d → Shape d.params (length d.uses + 1) (root k d)
root_shape g k d m = record {
  vars_is = refl;
  fresh_is = refl;
  provided = refl;
  some = omega arith;
  keys = subst (λ (n : ℕ). Rising 1 n (numbered 1 d.uses)) (omega arith) (rising_numbered 1 d.uses);
  uses = uses_scoped g d.params 1 d.uses (recursion_from_All (IsMadeType g d.params) d.uses m.uses);
  gives = m.gives.scoped;
}

root_placed : (g : Program) → IsWellMade g → (k : ℕ) (d : Decl) (j : Judgement) → slice_get g.decls k ≡ Some d → limited (root k d) ≡ Ok j → Placed g d.body j
root_placed g w k d j s l =
    subst (Placed g d.body) (sym (limited_is (root k d) j l).0) (record { shape = root_shape g k d (all_get (IsMadeDecl g) g.decls k d w.decls s); stands = stands_root k d s })

own_shape : (v f : ℕ) (j : Judgement) → Shape v f j → Shape j.ctx.vars j.fresh j
own_shape v f j h = subst₂ (λ a b. Shape a b j) (sym h.vars_is) (sym h.fresh_is) h

pub limited_get : (js : List Judgement) (x : ℕ) (c : Judgement) → slice_get (map limited js) x ≡ Some (Ok c) → slice_get js x ≡ Some c
limited_get [] zero c e = cc
limited_get [] (suc x) c e = cc
limited_get (k ∷ js) zero c e = let l : limited k ≡ Ok c = (let z : Some (limited k) ≡ Some (Ok c) = e in cc) in ap Some (sym (limited_is k c l).0)
limited_get (k ∷ js) (suc x) c e = limited_get js x c e

child_placed : (g : Program) → IsWellMade g → (n : ℕ) (i : Judgement) (nd : Node) (x y : ℕ) (c : Judgement) → Placed g n i → Judged g n i → slice_get g.nodes n ≡ Some nd → slice_get (kids nd) x ≡ Some y → slice_get (children g i nd) x ≡ Some (Ok c) → Placed g y c
child_placed g w n i nd x y c p jd q r s =
    let same : jd.node ≡ nd = (let z : Some jd.node ≡ Some nd = sym jd.is ∙ q in cc) in
    let h : Shape (i.ctx.vars + bound_variables nd) (i.fresh + bound_channels nd) c = child_shape g i.ctx.vars i.fresh i nd c x p.shape (subst (λ m. AllAsked g i (asked g i m)) same jd.asked_true) (w.nodes n i.ctx.vars i.fresh nd p.stands q) (limited_get (child_at g i nd (head_at g i)) x c s) in
    record {
      shape = own_shape (i.ctx.vars + bound_variables nd) (i.fresh + bound_channels nd) c h;
      stands = subst₂ (StandsIn g y) (sym h.vars_is) (sym h.fresh_is) (stands_child n i.ctx.vars i.fresh nd x y p.stands q r);
    }

pub placed : (g : Program) → IsWellMade g → IsAccepted g → (n : ℕ) (j : Judgement) → IsJudgement g n j → Placed g n j
placed g w a n j (at_root k d c s l) = root_placed g w k d c s l
placed g w a n j (at_child m i nd x y c p q r s) = child_placed g w m i nd x y c (placed g w a m i p) (judged g a m i p) q r s

-- what a well made program says of a node with a judgement
pub node_made : (g : Program) → IsWellMade g → (n : ℕ) (j : Judgement) (nd : Node) → Placed g n j → slice_get g.nodes n ≡ Some nd → IsMadeNode g j.ctx.vars j.fresh nd
node_made g w n j nd p e = w.nodes n j.ctx.vars j.fresh nd p.stands e
