-- All that is known of a process that stands at a node of a program that may be run.
use Rattle.std.proofs.Common.{◌≡◌, ℕ, pos, true, Option, Some, slice_get, sym, ap, ◌∙◌, subst, subst₂, length, if◌then◌else◌}
use Rattle.std.specs.List.{list_all, AllByRecursion}
use Rattle.rast_index.specs.Linear.{value, whole}
use Rattle.rast_index.specs.Truth.{truth}
use Rattle.rast_types.specs.Closed.{View, closed}
use Rattle.rast_terms.specs.Nodes.{Touch, touches, kids}
use Rattle.rast_made.specs.WellMade.{IsWellMade, IsMadeNode}
use Rattle.rast_terms.specs.declared.node.Node.{Node}
use Rattle.rast_terms.specs.declared.program.Program.{Program}
use Rattle.rast_rules.specs.declared.judgement.Judgement.{Judgement}
use Rattle.rast_rules.specs.Rules.{defs, is_provided, IsJudgement, IsAccepted, IsMade, asked, child_at, children, head_at}
use Rattle.rast_items.specs.Deeds.{Code}
use Rattle.rast_laws.specs.Sound.{IsReady}
use Rattle.rast_order.proofs.Words.{Link, Proc, Provider}
use Rattle.rast_laws.proofs.Channels.{SeenAt, AreSeen}
use Rattle.rast_laws.proofs.Fine.{Stands, ProcFine}
use Rattle.rast_equal.proofs.Exposing.{Unnamed}
use Rattle.rast_laws.proofs.Judged.{AllAsked, Limited, Judged, judged, judged_limited, child_judged}
use Rattle.rast_laws.proofs.Asking.{touches_asked}
use Rattle.rast_laws.proofs.Placed.{Shape, Placed, placed, node_made, touching}
use Rattle.rast_laws.proofs.Bounded.{Bounded, bounded}
use Rattle.rast_laws.proofs.Meeting.{Meets, meets}
use Rattle.rast_laws.proofs.Sending.{Seen}
use Rattle.rast_equal.proofs.WellFormed.{table_unnamed}

pub record Standing (g : Program) (d : Link → Option View) (p : Proc) (j : Judgement) (nd : Node) : Type 0 where
  pub is : slice_get g.nodes p.node ≡ Some nd
  pub judged : IsJudgement g p.node j
  pub stands : Stands g d p j
  pub asked_true : AllAsked g j (asked g j nd)
  pub made : AllByRecursion IsMade (children g j nd)
  pub limits : Limited j
  pub shape : Shape j.ctx.vars j.fresh j
  pub node : IsMadeNode g j.ctx.vars j.fresh nd
  pub bounded : Bounded j.ctx.vars j
  pub unnamed : Unnamed (defs g)

standing_at : (g : Program) (d : Link → Option View) (p : Proc) (j : Judgement) → IsWellMade g → IsAccepted g → IsJudgement g p.node j → Stands g d p j → (jd : Judged g p.node j) → Placed g p.node j → Standing g d p j jd.node
standing_at g d p j w a i s jd pl = record {
  is = jd.is;
  judged = i;
  stands = s;
  asked_true = jd.asked_true;
  made = jd.made;
  limits = jd.limits;
  shape = pl.shape;
  node = node_made g w p.node j jd.node pl jd.is;
  bounded = bounded g w a p.node j i;
  unnamed = table_unnamed (defs g) a.types;
}

pub standing : (c : Code) → IsReady c → (d : Link → Option View) (p : Proc) (f : ProcFine c.program d p) → (nd : Node) × Standing c.program d p f.0 nd
standing c r d p f =
    let jd : Judged c.program p.node f.0 = judged c.program r.accepted p.node f.0 f.1 in
    (jd.node, standing_at c.program d p f.0 r.made r.accepted f.1 f.2 jd (placed c.program r.made r.accepted p.node f.0 f.1))

-- the channel that its node touches
pub meeting : (g : Program) (d : Link → Option View) (p : Proc) (j : Judgement) (nd : Node) (t : Touch) → touches nd ≡ Some t → Standing g d p j nd → Meets g d p j nd t.x (if is_provided j t.x then t.provided else t.used)
meeting g d p j nd t e s = meets g d p j nd t.x (if is_provided j t.x then t.provided else t.used) s.unnamed s.limits s.shape s.stands (touches_asked g j nd t (touching g j nd t e s.asked_true))

-- a child of its node has its judgement
pub child_of : (g : Program) (d : Link → Option View) (p : Proc) (j : Judgement) (nd : Node) (x m : ℕ) (c : Judgement) → Standing g d p j nd → slice_get (kids nd) x ≡ Some m → slice_get (child_at g j nd (head_at g j)) x ≡ Some c → IsJudgement g m c
child_of g d p j nd x m c s k e = child_judged g p.node j nd x m c s.judged s.is s.made k e

pub child_limits : (g : Program) (m : ℕ) (c : Judgement) → IsJudgement g m c → Limited c
child_limits g m c h = judged_limited g m c h

-- ---- a process that goes on

-- with the same values, at a judgement of the same variables
pub stands_on : (g : Program) (d : Link → Option View) (p q : Proc) (j c : Judgement) → Stands g d p j → q.values ≡ p.values → c.ctx.vars ≡ j.ctx.vars → list_all (λ f. truth f (whole p.values)) c.ctx.premises ≡ true → value c.potential (whole p.values) ≡ pos q.potential → q.fresh ≡ c.fresh → Seen (defs g) d q c → Stands g d q c
stands_on g d p q j c s v n ps po f se = record {
  vars = ap length v ∙ (s.vars ∙ sym n);
  premises = subst (λ vs. list_all (λ f. truth f (whole vs)) c.ctx.premises ≡ true) (sym v) ps;
  potential = subst (λ vs. value c.potential (whole vs) ≡ pos q.potential) (sym v) po;
  fresh = f;
  provided = se.provided;
  gives = se.gives;
  uses = se.uses;
}

-- what is seen depends on moment, values and links alone
pub seen_as : (g : Program) (d : Link → Option View) (p q : Proc) (c : Judgement) → q.moment ≡ p.moment → q.values ≡ p.values → q.own ≡ p.own → q.uses ≡ p.uses → Seen (defs g) d p c → Seen (defs g) d q c
seen_as g d p q c m v o u s = record {
  provided = s.provided;
  gives = subst₂ (λ mo l. SeenAt (defs g) d mo Provider l (closed c.gives.1 (whole q.values))) (sym m) (sym o) (subst (λ vs. SeenAt (defs g) d p.moment Provider p.own (closed c.gives.1 (whole vs))) (sym v) s.gives);
  uses = subst₂ (λ mo us. AreSeen (defs g) d mo (whole q.values) us c.uses) (sym m) (sym u) (subst (λ vs. AreSeen (defs g) d p.moment (whole vs) p.uses c.uses) (sym v) s.uses);
}
