-- What is asked of a node that touches a channel, and is true.
use Rattle.std.proofs.Common.{◌≡◌, ℕ, ◌+◌, ◌≤◌, Bool, true, false, ◌&&◌, ◌∷◌, Option, Some, None, refl, sym, ap, ◌∙◌, subst, if◌then◌else◌, ltb-false}
use Rattle.std.specs.Prelude.{Result, Ok, Err}
use Rattle.rast_index.specs.Linear.{nought, is_small}
use Rattle.rast_index.specs.Truth.{Follows, is_equal}
use Rattle.rast_types.specs.declared.ty.Kind.{Kind}
use Rattle.rast_types.specs.declared.ty.Kind.TheVariants as kind
use Rattle.rast_types.specs.declared.stop.Stop.{Stop}
use Rattle.rast_types.specs.declared.ty.Ty.{Ty}
use Rattle.rast_types.specs.Closed.{kind_of}
use Rattle.rast_types.specs.Symbolic.{Timed, exposed_type, made_exposed, within, is_deep, is_small_type, binders}
use Rattle.rast_terms.specs.Nodes.{Touch}
use Rattle.rast_terms.specs.declared.node.Node.{Node}
use Rattle.rast_terms.specs.declared.program.Program.{Program}
use Rattle.rast_rules.specs.declared.judgement.Judgement.{Judgement}
use Rattle.rast_rules.specs.Rules.{Is, defs, is_provided, type_of, or_one, head_at, is_kind, head_is, further, at_head, at_channel, touch_asked}
use Rattle.rast_laws.proofs.Judged.{AllAsked, asked_left, asked_right}

same_kinds : (a b : Kind) → is_kind (Some a) (Some b) ≡ true → a ≡ b
same_kinds kind.Plus kind.Plus h = refl
same_kinds kind.With kind.With h = refl
same_kinds kind.Tensor kind.Tensor h = refl
same_kinds kind.Lolli kind.Lolli h = refl
same_kinds kind.One kind.One h = refl
same_kinds kind.Ex kind.Ex h = refl
same_kinds kind.All kind.All h = refl
same_kinds kind.Assert kind.Assert h = refl
same_kinds kind.Assume kind.Assume h = refl
same_kinds kind.Pays kind.Pays h = refl
same_kinds kind.Gets kind.Gets h = refl
same_kinds a b h = cc

-- the channel x of a node has this type, and its head h is the wanted one
pub record Touches (g : Program) (j : Judgement) (nd : Node) (x : ℕ) (o : Option Kind) : Type 0 where
  pub want : Kind
  pub want_is : o ≡ Some want
  pub type : Ty
  pub type_is : type_of j x ≡ Some type
  pub exposed : (exposed_type (defs g) j.ctx.vars type).body ≡ head_at g j x
  pub shallow : j.ctx.vars + binders (head_at g j x) ≤ 16
  pub kind : (k : Kind) → kind_of (head_at g j x) ≡ Some k → want ≡ k
  pub ticks : Follows j.ctx.vars j.ctx.premises (is_equal (exposed_type (defs g) j.ctx.vars type).ticks nought)
  pub rest : AllAsked g j (further j nd (head_at g j x))

made_facts : (deep small : Bool) (e f : Timed) → within deep small e ≡ Ok f → (deep ≡ false) × (f ≡ e)
made_facts true small e f h = cc
made_facts false true e f h = (refl, (cc))
made_facts false false e f h = cc

asked_kind : (g : Program) (j : Judgement) (want : Kind) (o : Option Kind) (k : Kind) → AllAsked g j (head_is want o) → o ≡ Some k → want ≡ k
asked_kind g j want None k h e = cc
asked_kind g j want (Some f) k h e = let s : f ≡ k = cc in subst (λ y. want ≡ y) s (same_kinds want f h.0)

touched : (g : Program) (j : Judgement) (nd : Node) (x : ℕ) (want : Kind) (a : Ty) (r : Result Timed Stop) → type_of j x ≡ Some a → made_exposed (defs g) j.ctx.vars a ≡ r → AllAsked g j (at_head j nd want r) → Touches g j nd x (Some want)
touched g j nd x want a (Err s) t m h = absurd h.0
touched g j nd x want a (Ok e) t m h =
    let s : Timed = exposed_type (defs g) j.ctx.vars a in
    let f = made_facts (is_deep j.ctx.vars s.body) (is_small s.ticks && is_small_type s.body) s e m in
    let b : s.body ≡ head_at g j x = ap (λ o. (exposed_type (defs g) j.ctx.vars (or_one o)).body) (sym t) in
    let b' : e.body ≡ head_at g j x = ap (λ y. y.body) f.1 ∙ b in
    let r = asked_right g j (head_is want (kind_of e.body)) ((3, Is (is_equal e.ticks nought)) ∷ further j nd e.body) h in
    record {
      want = want;
      want_is = refl;
      type = a;
      type_is = t;
      exposed = b;
      shallow = subst (λ y. j.ctx.vars + binders y ≤ 16) b (ltb-false 16 (j.ctx.vars + binders s.body) f.0);
      kind = λ k q. asked_kind g j want (kind_of e.body) k (asked_left g j (head_is want (kind_of e.body)) ((3, Is (is_equal e.ticks nought)) ∷ further j nd e.body) h) (ap kind_of b' ∙ q);
      ticks = subst (λ y. Follows j.ctx.vars j.ctx.premises (is_equal y.ticks nought)) f.1 r.0;
      rest = subst (λ y. AllAsked g j (further j nd y)) b' r.1;
    }

at_touched : (g : Program) (j : Judgement) (nd : Node) (x : ℕ) (o : Option Kind) (a : Option Ty) → type_of j x ≡ a → AllAsked g j (at_channel g j nd x o a) → Touches g j nd x o
at_touched g j nd x (Some want) (Some a) t h = touched g j nd x want a (made_exposed (defs g) j.ctx.vars a) t refl h.1
at_touched g j nd x None None t h = let z : false ≡ true = h.0 in cc
at_touched g j nd x None (Some a) t h = let z : false ≡ true = h.0 in cc
at_touched g j nd x (Some want) None t h = let z : false ≡ true = h.0 in cc

-- a node's touch is of a channel with the wanted head
pub touches_asked : (g : Program) (j : Judgement) (nd : Node) (t : Touch) → AllAsked g j (touch_asked g j nd t) → Touches g j nd t.x (if is_provided j t.x then t.provided else t.used)
touches_asked g j nd t h = at_touched g j nd t.x (if is_provided j t.x then t.provided else t.used) (type_of j t.x) refl h
