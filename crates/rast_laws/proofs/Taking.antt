-- A take of a message that fits, on a channel of a process that stands at its node.
use Rattle.std.proofs.Common.{◌≡◌, ℕ, zero, suc, ◌≤◌, max, Bool, true, false, Option, Some, slice_get, refl, sym, ap, ◌∙◌, subst, subst₂, if◌then◌else◌}
use Rattle.rast_index.specs.Keys.{set_key}
use Rattle.rast_index.specs.Linear.{whole}
use Rattle.rast_types.specs.declared.ty.Kind.{Kind}
use Rattle.rast_types.specs.declared.ty.Ty.{Ty}
use Rattle.rast_types.specs.Closed.{Closed, closed, Table, Way, part_of, kind_of, figure_of, View, head, Suits}
use Rattle.rast_terms.specs.Nodes.{Touch, touches}
use Rattle.rast_terms.specs.declared.node.Node.{Node}
use Rattle.rast_terms.specs.declared.program.Program.{Program}
use Rattle.rast_rules.specs.declared.judgement.Judgement.{Judgement}
use Rattle.rast_rules.specs.Rules.{defs, is_provided, with_type, head_at}
use Rattle.rast_items.specs.Deeds.{Code, Takes, takes, takes_at, link_of, with_link, with_message, took, took_on, taken_at, after_take, inward}
use Rattle.rast_laws.specs.Typed.{FitsKind, side_of}
use Rattle.rast_order.proofs.Words.{Link, Proc, Msg, Body}
use Rattle.rast_equal.proofs.Equals.{some_same, part_across, heads_sym}
use Rattle.rast_laws.proofs.Channels.{SeenAt, seen_equal}
use Rattle.rast_laws.proofs.Fine.{Stands, ProcFine, GoesAt, Goes, MsgFine}
use Rattle.rast_laws.proofs.Lawful.{DeedFine}
use Rattle.rast_laws.proofs.Meeting.{Meets, seen_later, seen_taken, seen_moment}
use Rattle.rast_laws.proofs.Sending.{Seen, stands_seen, seen_with, toward_at}
use Rattle.rast_laws.proofs.Standing.{seen_as}

-- ---- a process whose channel is at another link

pub link_values : (p : Proc) (x : ℕ) (l : Link) → (with_link p x l).values ≡ p.values
link_values p zero l = refl
link_values p (suc x) l = refl

pub link_fresh : (p : Proc) (x : ℕ) (l : Link) → (with_link p x l).fresh ≡ p.fresh
link_fresh p zero l = refl
link_fresh p (suc x) l = refl

pub link_moment : (p : Proc) (x : ℕ) (l : Link) → (with_link p x l).moment ≡ p.moment
link_moment p zero l = refl
link_moment p (suc x) l = refl

-- ---- and a judgement whose channel has another type

type_ctx' : (j : Judgement) (x : ℕ) (a : Ty) (b : Bool) → (if b then record j { gives = (x, a) } else record j { uses = set_key x a j.uses }).ctx ≡ j.ctx
type_ctx' j x a true = refl
type_ctx' j x a false = refl

pub type_ctx : (j : Judgement) (x : ℕ) (a : Ty) → (with_type j x a).ctx ≡ j.ctx
type_ctx j x a = type_ctx' j x a (is_provided j x)

type_potential' : (j : Judgement) (x : ℕ) (a : Ty) (b : Bool) → (if b then record j { gives = (x, a) } else record j { uses = set_key x a j.uses }).potential ≡ j.potential
type_potential' j x a true = refl
type_potential' j x a false = refl

pub type_potential : (j : Judgement) (x : ℕ) (a : Ty) → (with_type j x a).potential ≡ j.potential
type_potential j x a = type_potential' j x a (is_provided j x)

type_fresh' : (j : Judgement) (x : ℕ) (a : Ty) (b : Bool) → (if b then record j { gives = (x, a) } else record j { uses = set_key x a j.uses }).fresh ≡ j.fresh
type_fresh' j x a true = refl
type_fresh' j x a false = refl

pub type_fresh : (j : Judgement) (x : ℕ) (a : Ty) → (with_type j x a).fresh ≡ j.fresh
type_fresh j x a = type_fresh' j x a (is_provided j x)

-- ---- the message

-- a message that fits, on the channel of a node, seen from the node
pub record Brings (g : Program) (d : Link → Option View) (p : Proc) (j : Judgement) (nd : Node) (x : ℕ) (o : Option Kind) (m : Meets g d p j nd x o) (msg : Msg) : Type 0 where
  pub body : FitsKind (Some m.asks.want) (figure_of (closed (head_at g j x) (whole p.values))) msg.body msg.potential
  pub later : p.moment ≤ msg.moment
  pub same : max p.moment msg.moment ≡ p.moment
  pub goes : Goes (defs g) d m.at.seen.due p.moment m.at.link msg.next msg.body

goes_moment : (t : Table) (d : Link → Option View) (due : View) (m n : ℕ) (l k : Link) (next : Link) (b : Body) → n ≡ m → l ≡ k → Goes t d due n l next b → Goes t d due m k next b
goes_moment t d due m n l k next b e q h = subst₂ (λ mo li. Goes t d due mo li next b) e q h

pub brings : (g : Program) (d : Link → Option View) (p : Proc) (j : Judgement) (nd : Node) (x : ℕ) (o : Option Kind) (m : Meets g d p j nd x o) (msg : Msg) → msg.link ≡ m.at.link → MsgFine (defs g) d msg → Brings g d p j nd x o m msg
brings g d p j nd x o m msg e f =
    let t : Table = defs g in
    let due : View = m.at.seen.due in
    let c : Closed = closed m.asks.type (whole p.values) in
    let same : f.due ≡ due = some_same (d msg.link) f.is (ap d e ∙ m.at.seen.is) in
    let suits : Suits t due msg.moment = subst (λ v. Suits t v msg.moment) same f.moment in
    let body : FitsKind (kind_of (head t due).ty) (figure_of (head t due)) msg.body msg.potential = subst (λ v. FitsKind (kind_of (head t v).ty) (figure_of (head t v)) msg.body msg.potential) same f.body in
    let goes : Goes t d due msg.moment msg.link msg.next msg.body = subst (λ v. Goes t d v msg.moment msg.link msg.next msg.body) same f.goes in
    record {
      body = subst₂ (λ k z. FitsKind k z msg.body msg.potential) (sym m.heads.kind ∙ m.kind) (sym m.heads.figure) body;
      later = seen_later t p.moment msg.moment (inward x) c due m.at.seen.ties m.ticks suits;
      same = seen_taken t p.moment msg.moment (inward x) c due m.at.seen.ties m.ticks suits;
      goes = goes_moment t d due p.moment msg.moment msg.link m.at.link msg.next msg.body (sym (seen_moment t p.moment msg.moment (inward x) c due m.at.seen.ties m.ticks suits)) e goes;
    }

-- ---- the channel after the message

goes_in : (t : Table) (d : Link → Option View) (due : View) (m : ℕ) (next : Link) (w : Way) (x : ℕ) (h : GoesAt t d due m next w) → SeenAt t d m (inward x) next h.part
goes_in t d due m next w zero h = h.up
goes_in t d due m next w (suc x) h = h.down

-- the link after the message is at the part of the head that the node sees
pub record Arrives (g : Program) (d : Link → Option View) (p : Proc) (j : Judgement) (x : ℕ) (next : Link) (w : Way) : Type 0 where
  pub part : Closed
  pub is : part_of (closed (head_at g j x) (whole p.values)) w ≡ Some part
  pub seen : SeenAt (defs g) d p.moment (inward x) next part

pub arrives : (g : Program) (d : Link → Option View) (p : Proc) (j : Judgement) (nd : Node) (x : ℕ) (o : Option Kind) (m : Meets g d p j nd x o) (next : Link) (w : Way) → GoesAt (defs g) d m.at.seen.due p.moment next w → Arrives g d p j x next w
arrives g d p j nd x o m next w h =
    let t : Table = defs g in
    let own : Closed = closed (head_at g j x) (whole p.values) in
    let a = part_across t (head t m.at.seen.due) own w h.part (heads_sym t own (head t m.at.seen.due) m.heads) h.is in
    record { part = a.0; is = a.1; seen = seen_equal t d p.moment (inward x) next h.part a.0 a.2 (goes_in t d m.at.seen.due p.moment next w x h) }

-- the channels after the message, where the part is this type
pub taken_seen : (g : Program) (d : Link → Option View) (p : Proc) (j : Judgement) (x : ℕ) (msg : Msg) (w : Way) (a : Ty) → Stands g d p j → max p.moment msg.moment ≡ p.moment → (r : Arrives g d p j x msg.next w) → r.part ≡ closed a (whole p.values) → Seen (defs g) d (with_message p x msg) (with_type j x a)
taken_seen g d p j x msg w a s e r q =
    seen_as g d (with_link p x msg.next) (with_message p x msg) (with_type j x a) (e ∙ sym (link_moment p x msg.next)) refl refl refl
    (seen_with (defs g) d p j x msg.next a (stands_seen g d p j s) (subst (SeenAt (defs g) d p.moment (inward x) msg.next) q r.seen))

-- ---- the deed

takes_link : (c : Code) (d : Link → Option View) (p : Proc) (x : ℕ) (l : Link) → link_of p x ≡ Some l → DeedFine c d p (Takes l (inward x)) → DeedFine c d p (takes p x)
takes_link c d p x l e h = subst (λ y. DeedFine c d p (takes_at x y)) (sym e) h

-- what a node of a process takes
pub leaves_at : (c : Code) (p q : Proc) (msg : Msg) (nd : Node) (t : Touch) → slice_get c.program.nodes p.node ≡ Some nd → touches nd ≡ Some t → took nd (with_message p t.x msg) msg.body ≡ Some q → after_take c p msg ≡ Some q
leaves_at c p q msg nd t e f h = ap (λ o. taken_at o p msg) e ∙ (ap (λ o. took_on o nd p msg) f ∙ h)

-- a node that takes does what fits, where each message that it may get leaves a process that fits
pub takes_fine : (c : Code) (d : Link → Option View) (p : Proc) (j : Judgement) (nd : Node) (x : ℕ) (o : Option Kind) (m : Meets c.program d p j nd x o) → side_of m.asks.want ≡ inward x → ((msg : Msg) → msg.link ≡ m.at.link → Brings c.program d p j nd x o m msg → (q : Proc) × (after_take c p msg ≡ Some q) × ProcFine c.program d q) → DeedFine c d p (takes p x)
takes_fine c d p j nd x o m side h =
    takes_link c d p x m.at.link m.at.link_is (
      toward_at c.program d p j nd x o m (inward x) side,
      λ msg e f.
          let b = brings c.program d p j nd x o m msg e f in
          let r = h msg e b in
          record { q = r.0; leaves = r.1; fine = r.2; later = b.later },
    )
