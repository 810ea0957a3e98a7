-- In the potential and the premises of a judgement only variables in scope occur.
use Rattle.std.proofs.Common.{◌≡◌, ℕ, zero, suc, pos, ◌+◌, Bool, true, false, List, [], ◌∷◌, map, Option, Some, None, slice_get, sym, ap, ◌∙◌, subst, arith, if◌then◌else◌}
use Rattle.rast_index.specs.Keys.{set_key, find_key}
use Rattle.rast_index.specs.Linear.{Linear, less, plus, replaced, is_closed}
use Rattle.rast_index.specs.Truth.{closed_step, is_closed_formula}
use Rattle.rast_index.proofs.Scope.{both_true}
use Rattle.rast_index.specs.declared.formula.Formula.{Formula}
use Rattle.rast_index.specs.declared.formula.Formula.TheVariants as form
use Rattle.rast_index.specs.declared.formula.Formula.TheOpen as open'
use Rattle.rast_index.specs.declared.formula.Formula.TheFolds.{fold-roll-Formula}
use Rattle.rast_types.specs.declared.ty.Ty.{Ty, out-Ty}
use Rattle.rast_types.specs.declared.ty.Ty.TheOpen.{Assert, Assume, Pays, Gets}
use Rattle.rast_types.specs.Closed.{Layer}
use Rattle.rast_types.specs.Symbolic.{is_scoped}
use Rattle.rast_made.specs.WellMade.{IsWellMade, IsMadeDecl, IsMadeNode, bound_variables}
use Rattle.rast_terms.specs.declared.node.Node.{Node}
use Rattle.rast_terms.specs.declared.node.Node.TheVariants as node
use Rattle.rast_terms.specs.declared.program.Program.{Program}
use Rattle.rast_terms.specs.declared.program.Decl.{Decl}
use Rattle.rast_rules.specs.declared.judgement.Judgement.{Judgement}
use Rattle.rast_rules.specs.Rules.{is_provided, with_type, without, with_channel, with_potential, with_variable, with_premise, or_one, head_at, choices_of, first_of_pair, second_of_pair, inner_of, formula_of, amount_of, formula_layer, amount_layer, root, at_args, spawned, child_at, asked, IsJudgement, at_root, at_child, IsAccepted}
use Rattle.rast_equal.proofs.Within.{Within, AllWithin, within_closed, within_more, all_within, closed_less, closed_plus, closed_replaced}
use Rattle.rast_equal.proofs.Scoped.{scoped_out, scoped_layer}
use Rattle.rast_laws.proofs.Judged.{AllAsked, limited_is, Judged, judged}
use Rattle.rast_laws.proofs.Placed.{Shape, Placed, placed, node_made, head_scoped, only_one, child_shape, limited_get}
use Rattle.rast_equal.proofs.Every.{all_get}
use Rattle.rast_laws.proofs.Delaying.{closed_fixed}
use Rattle.rast_equal.proofs.Steady.{AreSteady, steady_closed, steady_more, steady_append}

-- where so many variables are in scope
pub record Bounded (n : ℕ) (j : Judgement) : Type 0 where
  pub potential : Within n j.potential
  pub premises : AreSteady n j.ctx.premises

-- ---- what a head carries

pub closed_true : (n : ℕ) → is_closed_formula n form.True ≡ true
closed_true n = ap (is_closed_formula n) (sym form.rolls-True) ∙ fold-roll-Formula Bool (closed_step n) open'.True

formula_closed : (v : ℕ) (x : Layer) → scoped_layer v x ≡ true → is_closed_formula v (formula_layer x) ≡ true
formula_closed v (Assert f a) s = (both_true (is_closed_formula v f) (is_scoped v a) s).0
formula_closed v (Assume f a) s = (both_true (is_closed_formula v f) (is_scoped v a) s).0
formula_closed v x s = closed_true v

amount_closed : (v : ℕ) (x : Layer) → scoped_layer v x ≡ true → is_closed v (amount_layer x) ≡ true
amount_closed v (Pays p a) s = (both_true (is_closed v p) (is_scoped v a) s).0
amount_closed v (Gets p a) s = (both_true (is_closed v p) (is_scoped v a) s).0
amount_closed v x s = closed_fixed v (pos 0)

pub formula_in : (v : ℕ) (h : Ty) → is_scoped v h ≡ true → is_closed_formula v (formula_of h) ≡ true
formula_in v h s = formula_closed v (out-Ty h) (sym (scoped_out v h) ∙ s)

pub amount_in : (v : ℕ) (h : Ty) → is_scoped v h ≡ true → Within v (amount_of h)
amount_in v h s = within_closed v (amount_of h) (amount_closed v (out-Ty h) (sym (scoped_out v h) ∙ s))

-- ---- changes of a judgement

type_bounds : (v : ℕ) (j : Judgement) (x : ℕ) (a : Ty) (b : Bool) → Bounded v j → Bounded v (if b then record j { gives = (x, a) } else record j { uses = set_key x a j.uses })
type_bounds v j x a true h = record { potential = h.potential; premises = h.premises }
type_bounds v j x a false h = record { potential = h.potential; premises = h.premises }

bounded_type : (v : ℕ) (j : Judgement) (x : ℕ) (a : Ty) → Bounded v j → Bounded v (with_type j x a)
bounded_type v j x a h = type_bounds v j x a (is_provided j x) h

bounded_without : (v : ℕ) (j : Judgement) (ys : List ℕ) → Bounded v j → Bounded v (without j ys)
bounded_without v j ys h = record { potential = h.potential; premises = h.premises }

bounded_channel : (v : ℕ) (j : Judgement) (a : Ty) → Bounded v j → Bounded v (with_channel j a)
bounded_channel v j a h = record { potential = h.potential; premises = h.premises }

bounded_potential : (v : ℕ) (j : Judgement) (q : Linear) → Within v q → Bounded v j → Bounded v (with_potential j q)
bounded_potential v j q w h = record { potential = w; premises = h.premises }

bounded_variable : (v : ℕ) (j : Judgement) → Bounded v j → Bounded (v + 1) (with_variable j)
bounded_variable v j h = record { potential = within_more v j.potential h.potential; premises = steady_more v j.ctx.premises h.premises }

bounded_premise : (v : ℕ) (j : Judgement) (f : Formula) → is_closed_formula v f ≡ true → Bounded v j → Bounded v (with_premise j f)
bounded_premise v j f c h = record { potential = h.potential; premises = steady_append v j.ctx.premises (f ∷ []) h.premises (steady_closed v f c, tt) }

within_less : (v : ℕ) (a b : Linear) → Within v a → Within v b → Within v (less a b)
within_less v a b h k = within_closed v (less a b) (closed_less v a b h k)

within_plus : (v : ℕ) (a b : Linear) → Within v a → Within v b → Within v (plus a b)
within_plus v a b h k = within_closed v (plus a b) (closed_plus v a b h k)

-- ---- children

only_bounded : (v : ℕ) (x c : Judgement) (i : ℕ) → slice_get (x ∷ []) i ≡ Some c → Bounded v x → Bounded (v + 0) c
only_bounded v x c i e h = subst (λ (n : ℕ). Bounded n c) (let z : v ≡ v + 0 = omega arith in z) (subst (Bounded v) (only_one x c i e) h)

case_bounded : (g : Program) (v : ℕ) (j : Judgement) (x : ℕ) (bs : List (ℕ × ℕ)) (c : Judgement) (i : ℕ) → Bounded v j → slice_get (map (λ b. with_type j x (or_one (find_key b.0 (choices_of (head_at g j x))))) bs) i ≡ Some c → Bounded (v + 0) c
case_bounded g v j x [] c zero h e = cc
case_bounded g v j x [] c (suc i) h e = cc
case_bounded g v j x (b ∷ bs) c zero h e =
    let s : with_type j x (or_one (find_key b.0 (choices_of (head_at g j x)))) ≡ c = cc in
    only_bounded v (with_type j x (or_one (find_key b.0 (choices_of (head_at g j x))))) c 0 (ap Some s) (bounded_type v j x (or_one (find_key b.0 (choices_of (head_at g j x)))) h)
case_bounded g v j x (b ∷ bs) c (suc i) h e = case_bounded g v j x bs c i h e

spawned_bounded : (v : ℕ) (j : Judgement) (es : List Linear) (ys : List ℕ) (o : Option Decl) → AllWithin v es → Bounded v j → Bounded v (spawned j es ys o)
spawned_bounded v j es ys None w h = h
spawned_bounded v j es ys (Some k) w h = bounded_channel v (with_potential (without j ys) (less j.potential (replaced es k.potential))) (at_args j es k.gives) (bounded_potential v (without j ys) (less j.potential (replaced es k.potential)) (within_less v j.potential (replaced es k.potential) h.potential (within_closed v (replaced es k.potential) (closed_replaced v es k.potential w))) (bounded_without v j ys h))

child_bounded : (g : Program) (v f : ℕ) (j : Judgement) (nd : Node) (c : Judgement) (i : ℕ) → Shape v f j → Bounded v j → IsMadeNode g v f nd → slice_get (child_at g j nd (head_at g j)) i ≡ Some c → Bounded (v + bound_variables nd) c
child_bounded g v f j (node.Label x l n) c i s h m e = only_bounded v _ c i e (bounded_type v j x _ h)
child_bounded g v f j (node.Case x bs) c i s h m e = case_bounded g v j x bs c i h e
child_bounded g v f j (node.Send x w rs n) c i s h m e = only_bounded v _ c i e (bounded_type v (without j (w ∷ [])) x _ (bounded_without v j (w ∷ []) h))
child_bounded g v f j (node.Recv x y n) c i s h m e = only_bounded v _ c i e (bounded_channel v (with_type j x (second_of_pair (head_at g j x))) (first_of_pair (head_at g j x)) (bounded_type v j x (second_of_pair (head_at g j x)) h))
child_bounded g v f j (node.Index x t n) c i s h m e = only_bounded v _ c i e (bounded_type v j x _ h)
child_bounded g v f j (node.Bind x y n) c i s h m e = subst (Bounded (v + 1)) (only_one _ c i e) (bounded_type (v + 1) (with_variable j) x (inner_of (head_at g j x)) (bounded_variable v j h))
child_bounded g v f j (node.Assert x n) c i s h m e = only_bounded v _ c i e (bounded_type v j x _ h)
child_bounded g v f j (node.Assume x n) c i s h m e = only_bounded v _ c i e (bounded_premise v (with_type j x (inner_of (head_at g j x))) (formula_of (head_at g j x)) (formula_in v (head_at g j x) (head_scoped g v f j x s)) (bounded_type v j x (inner_of (head_at g j x)) h))
child_bounded g v f j (node.Pay x n) c i s h m e = only_bounded v _ c i e (bounded_potential v (with_type j x (inner_of (head_at g j x))) (less j.potential (amount_of (head_at g j x))) (within_less v j.potential (amount_of (head_at g j x)) h.potential (amount_in v (head_at g j x) (head_scoped g v f j x s))) (bounded_type v j x (inner_of (head_at g j x)) h))
child_bounded g v f j (node.Get x n) c i s h m e = only_bounded v _ c i e (bounded_potential v (with_type j x (inner_of (head_at g j x))) (plus j.potential (amount_of (head_at g j x))) (within_plus v j.potential (amount_of (head_at g j x)) h.potential (amount_in v (head_at g j x) (head_scoped g v f j x s))) (bounded_type v j x (inner_of (head_at g j x)) h))
child_bounded g v f j (node.Close x) c zero s h m e = cc
child_bounded g v f j (node.Close x) c (suc i) s h m e = cc
child_bounded g v f j (node.Wait x n) c i s h m e = only_bounded v _ c i e (bounded_without v j (x ∷ []) h)
child_bounded g v f j (node.Forward x y rs) c zero s h m e = cc
child_bounded g v f j (node.Forward x y rs) c (suc i) s h m e = cc
child_bounded g v f j (node.Spawn y d es ys rs n) c i s h m e = only_bounded v _ c i e (spawned_bounded v j es ys (slice_get g.decls d) (all_within v es m.1.terms) h)
child_bounded g v f j (node.Call x d es ys rs) c zero s h m e = cc
child_bounded g v f j (node.Call x d es ys rs) c (suc i) s h m e = cc
child_bounded g v f j node.Impossible c zero s h m e = cc
child_bounded g v f j node.Impossible c (suc i) s h m e = cc
child_bounded g v f j (node.Work r n) c i s h m e = only_bounded v _ c i e (bounded_potential v j (less j.potential r) (within_less v j.potential r h.potential (within_closed v r m)) h)
child_bounded g v f j (node.Delay t n) c i s h m e = only_bounded v _ c i e (record { potential = h.potential; premises = h.premises })

-- ---- whole programs

root_bounded : (g : Program) (k : ℕ) (d : Decl) → IsMadeDecl g d → Bounded d.params (root k d)
root_bounded g k d m = record { potential = within_closed d.params d.potential m.potential; premises = tt }

same_bounded : (j c : Judgement) → c ≡ j → Bounded j.ctx.vars j → Bounded c.ctx.vars c
same_bounded j c e h = subst (λ y. Bounded y.ctx.vars y) (sym e) h

bounded_below : (g : Program) → IsWellMade g → (n : ℕ) (i : Judgement) (nd : Node) (x : ℕ) (c : Judgement) → Placed g n i → Judged g n i → Bounded i.ctx.vars i → slice_get g.nodes n ≡ Some nd → slice_get (child_at g i nd (head_at g i)) x ≡ Some c → Bounded c.ctx.vars c
bounded_below g w n i nd x c p jd h q s =
    let same : jd.node ≡ nd = (let z : Some jd.node ≡ Some nd = sym jd.is ∙ q in cc) in
    let m : IsMadeNode g i.ctx.vars i.fresh nd = node_made g w n i nd p q in
    let sh = child_shape g i.ctx.vars i.fresh i nd c x p.shape (subst (λ y. AllAsked g i (asked g i y)) same jd.asked_true) m s in
    subst (λ v. Bounded v c) (sym sh.vars_is) (child_bounded g i.ctx.vars i.fresh i nd c x p.shape h m s)

pub bounded : (g : Program) → IsWellMade g → IsAccepted g → (n : ℕ) (j : Judgement) → IsJudgement g n j → Bounded j.ctx.vars j
bounded g w a n j (at_root k d c s l) = same_bounded (root k d) c (limited_is (root k d) c l).0 (root_bounded g k d (all_get (IsMadeDecl g) g.decls k d w.decls s))
bounded g w a n j (at_child m i nd x y c p q r s) = bounded_below g w m i nd x c (placed g w a m i p) (judged g a m i p) (bounded g w a m i p) q (limited_get (child_at g i nd (head_at g i)) x c s)
