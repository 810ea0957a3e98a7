-- A send on a channel of a process that stands at its node fits what is due there.
use Rattle.std.proofs.Common.{◌≡◌, ℕ, zero, suc, ◌-◌, Bool, true, false, Option, Some, refl, sym, ap, ◌∙◌, subst, subst₂, if◌then◌else◌}
use Rattle.std.specs.Prelude.{nat_le}
use Rattle.rast_index.specs.Keys.{set_key}
use Rattle.rast_index.specs.Linear.{whole}
use Rattle.rast_types.specs.declared.ty.Kind.{Kind}
use Rattle.rast_types.specs.declared.ty.Ty.{Ty}
use Rattle.rast_types.specs.Closed.{Closed, closed, Table, Way, part_of, figure_of, Equal, View, view, head}
use Rattle.rast_terms.specs.declared.node.Node.{Node}
use Rattle.rast_terms.specs.declared.program.Program.{Program}
use Rattle.rast_rules.specs.declared.judgement.Judgement.{Judgement}
use Rattle.rast_rules.specs.Rules.{defs, is_provided, with_type, head_at, IsJudgement}
use Rattle.rast_items.specs.Items.{after_link}
use Rattle.rast_items.specs.Deeds.{Code, Puts, Breaks, link_of, with_link, at_node, inward, out, msg_on, puts_at, puts}
use Rattle.rast_laws.specs.Typed.{selected, part_by, view_some, next_view, FitsKind, IsToward, side_of}
use Rattle.rast_order.proofs.Words.{Link, Proc, Side, Client, Provider, Body}
use Rattle.rast_equal.proofs.Equals.{part_across, equal_refl, equal_sym, equal_trans}
use Rattle.rast_laws.proofs.Serving.{serves_equal}
use Rattle.rast_equal.proofs.Proper.{Proper, proper_head, proper_part, proper_equal}
use Rattle.rast_laws.proofs.Channels.{SeenAt, AreSeen, seen_set}
use Rattle.rast_laws.proofs.Fine.{Stands, ProcFine, GoesAt, Goes, MsgFine}
use Rattle.rast_laws.proofs.Lawful.{Toward, DeedFine}
use Rattle.rast_laws.proofs.Meeting.{Meets, seen_now, provided_is, provided_suc}

-- the channels of a process beside those of a judgement
pub record Seen (t : Table) (d : Link → Option View) (p : Proc) (j : Judgement) : Type 0 where
  pub provided : j.gives.0 ≡ 0
  pub gives : SeenAt t d p.moment Provider p.own (closed j.gives.1 (whole p.values))
  pub uses : AreSeen t d p.moment (whole p.values) p.uses j.uses

pub stands_seen : (g : Program) (d : Link → Option View) (p : Proc) (j : Judgement) → Stands g d p j → Seen (defs g) d p j
stands_seen g d p j s = record { provided = s.provided; gives = s.gives; uses = s.uses }

with_here : (t : Table) (d : Link → Option View) (p : Proc) (j : Judgement) (x : ℕ) (l : Link) (a : Ty) (b : Bool) → is_provided j x ≡ b → Seen t d (with_link p x l) (if b then record j { gives = (x, a) } else record j { uses = set_key x a j.uses }) → Seen t d (with_link p x l) (with_type j x a)
with_here t d p j x l a b e h = subst (λ (y : Bool). Seen t d (with_link p x l) (if y then record j { gives = (x, a) } else record j { uses = set_key x a j.uses })) (sym e) h

-- a channel goes on at another link and type
pub seen_with : (t : Table) (d : Link → Option View) (p : Proc) (j : Judgement) (x : ℕ) (l : Link) (a : Ty) → Seen t d p j → SeenAt t d p.moment (inward x) l (closed a (whole p.values)) → Seen t d (with_link p x l) (with_type j x a)
seen_with t d p j zero l a s h = with_here t d p j 0 l a true (provided_is j s.provided) (record { provided = refl; gives = h; uses = s.uses })
seen_with t d p j (suc x) l a s h = with_here t d p j (suc x) l a false (provided_suc j x s.provided) (record { provided = s.provided; gives = s.gives; uses = seen_set t d p.moment (whole p.values) (suc x) l a p.uses j.uses s.uses h })

-- a link at which a view of this moment and an equal type is due is seen at the type, from both sides
pub seen_same : (t : Table) (d : Link → Option View) (m : ℕ) (s : Side) (l : Link) (a b : Closed) → d l ≡ Some (view m b) → Proper t b → Equal t a b → SeenAt t d m s l a
seen_same t d m Provider l a b e h q = record { due = view m b; is = e; due_proper = h; ties = serves_equal t m a b q (proper_head t a (proper_equal t b a (equal_sym t a b q) h)); proper = proper_equal t b a (equal_sym t a b q) h }
seen_same t d m Client l a b e h q = record { due = view m b; is = e; due_proper = h; ties = serves_equal t m b a (equal_sym t a b q) (proper_head t b h); proper = proper_equal t b a (equal_sym t a b q) h }

-- the side of a send is the head's
pub toward_out : (j : Judgement) (x : ℕ) (p u want : Kind) → j.gives.0 ≡ 0 → (if is_provided j x then Some p else Some u) ≡ Some want → side_of p ≡ Client → side_of u ≡ Provider → side_of want ≡ out x
toward_out j zero p u want z e a b =
    let k : Some p ≡ Some want = sym (ap (λ (y : Bool). if y then Some p else Some u) (provided_is j z)) ∙ e in
    let s : p ≡ want = cc in subst (λ y. side_of y ≡ Client) s a
toward_out j (suc x) p u want z e a b =
    let k : Some u ≡ Some want = sym (ap (λ (y : Bool). if y then Some p else Some u) (provided_suc j x z)) ∙ e in
    let s : u ≡ want = cc in subst (λ y. side_of y ≡ Provider) s b

-- and that of a take
pub toward_in : (j : Judgement) (x : ℕ) (p u want : Kind) → j.gives.0 ≡ 0 → (if is_provided j x then Some p else Some u) ≡ Some want → side_of p ≡ Provider → side_of u ≡ Client → side_of want ≡ inward x
toward_in j zero p u want z e a b =
    let k : Some p ≡ Some want = sym (ap (λ (y : Bool). if y then Some p else Some u) (provided_is j z)) ∙ e in
    let s : p ≡ want = cc in subst (λ y. side_of y ≡ Provider) s a
toward_in j (suc x) p u want z e a b =
    let k : Some u ≡ Some want = sym (ap (λ (y : Bool). if y then Some p else Some u) (provided_suc j x z)) ∙ e in
    let s : u ≡ want = cc in subst (λ y. side_of y ≡ Client) s b

-- messages on the channel of a node go to the side of its head
pub toward_at : (g : Program) (d : Link → Option View) (p : Proc) (j : Judgement) (nd : Node) (x : ℕ) (o : Option Kind) (m : Meets g d p j nd x o) (s : Side) → side_of m.asks.want ≡ s → Toward g d m.at.link s
toward_at g d p j nd x o m s e = record { due = m.at.seen.due; is = m.at.seen.is; toward = subst (λ k. IsToward k s) (sym m.kind ∙ m.heads.kind) e }

-- ---- the message and the process after it

pub record Sends (g : Program) (d : Link → Option View) (p : Proc) (j : Judgement) (nd : Node) (x : ℕ) (o : Option Kind) (m : Meets g d p j nd x o) (b : Body) (q : ℕ) (a : Ty) : Type 0 where
  pub toward : side_of m.asks.want ≡ out x
  pub fits : FitsKind (Some m.asks.want) (figure_of (closed (head_at g j x) (whole p.values))) b q
  pub way : Way
  pub selects : selected b ≡ Some way
  -- the part that is left, and the type of the channel after the send, which is equal
  pub part : Closed
  pub part_is : part_of (closed (head_at g j x) (whole p.values)) way ≡ Some part
  pub equal : Equal (defs g) part (closed a (whole p.values))
  pub goes : (next : Link) → GoesAt (defs g) d m.at.seen.due p.moment next way → Goes (defs g) d m.at.seen.due p.moment m.at.link next b

sends_leaves : (g : Program) (d : Link → Option View) (p r : Proc) (j jr jc : Judgement) (nd : Node) (x : ℕ) (o : Option Kind) (m : Meets g d p j nd x o) (b : Body) (q n : ℕ) (a : Ty) → Sends g d p j nd x o m b q a → r.moment ≡ p.moment → r.values ≡ p.values → Seen (defs g) d r jr → IsJudgement g n jc →
    (Seen (defs g) d (with_link r x (after_link m.at.link)) (with_type jr x a) → Stands g d (at_node (record (with_link r x (after_link m.at.link)) { potential = r.potential - q }) n) jc) →
    d (after_link m.at.link) ≡ next_view (defs g) (d m.at.link) b p.moment →
    MsgFine (defs g) d (msg_on m.at.link (out x) b p.moment q) × ProcFine g d (at_node (record (with_link r x (after_link m.at.link)) { potential = r.potential - q }) n)
sends_leaves g d p r j jr jc nd x o m b q n a s rm rv sr ij st e =
    let t : Table = defs g in
    let l : Link = m.at.link in
    let due : View = m.at.seen.due in
    let across = part_across t (closed (head_at g j x) (whole p.values)) (head t due) s.way s.part m.heads s.part_is in
    let y : Closed = across.0 in
    let first : d (after_link l) ≡ Some (view p.moment y) = e ∙ (ap (λ v. next_view t v b p.moment) m.at.seen.is ∙ (ap (λ w. view_some p.moment (part_by (head t due) w)) s.selects ∙ ap (view_some p.moment) across.1)) in
    let proper : Proper t y = proper_part t due.type s.way y m.at.seen.due_proper across.1 in
    let own : Equal t (closed a (whole p.values)) y = equal_trans t (closed a (whole p.values)) s.part y (equal_sym t s.part (closed a (whole p.values)) s.equal) across.2 in
    let next : SeenAt t d r.moment (inward x) (after_link l) (closed a (whole r.values)) = subst₂ (λ mo vs. SeenAt t d mo (inward x) (after_link l) (closed a (whole vs))) (sym rm) (sym rv) (seen_same t d p.moment (inward x) (after_link l) (closed a (whole p.values)) y first proper own) in
    let both : GoesAt t d due p.moment (after_link l) s.way = record { part = y; is = across.1; up = seen_same t d p.moment Provider (after_link l) y y first proper (equal_refl t y); down = seen_same t d p.moment Client (after_link l) y y first proper (equal_refl t y) } in (
      record {
        due = due;
        is = m.at.seen.is;
        proper = m.at.seen.due_proper;
        toward = subst (λ k. IsToward k (out x)) (sym m.kind ∙ m.heads.kind) s.toward;
        body = subst₂ (λ k z. FitsKind k z b q) (sym m.kind ∙ m.heads.kind) m.heads.figure s.fits;
        moment = seen_now t p.moment (inward x) (closed m.asks.type (whole p.values)) due m.at.seen.ties m.ticks;
        goes = s.goes (after_link l) both;
      },
      (jc, ij, st (seen_with t d r jr x (after_link l) a sr next)),
    )

enough : (c : Code) (d : Link → Option View) (p r : Proc) (x q n : ℕ) (b : Body) (l : Link) (y : Bool) → y ≡ true → DeedFine c d p (Puts (msg_on l (out x) b r.moment q) (Some (at_node (record (with_link r x (after_link l)) { potential = r.potential - q }) n))) → DeedFine c d p (if y then Puts (msg_on l (out x) b r.moment q) (Some (at_node (record (with_link r x (after_link l)) { potential = r.potential - q }) n)) else Breaks)
enough c d p r x q n b l true e h = h
enough c d p r x q n b l false e h = cc

-- the deed of a node that sends
pub sends_fine : (c : Code) (d : Link → Option View) (p r : Proc) (j jr jc : Judgement) (nd : Node) (x : ℕ) (o : Option Kind) (m : Meets c.program d p j nd x o) (b : Body) (q n : ℕ) (a : Ty) → Sends c.program d p j nd x o m b q a → r.moment ≡ p.moment → r.values ≡ p.values → link_of r x ≡ Some m.at.link → nat_le q r.potential ≡ true → Seen (defs c.program) d r jr → IsJudgement c.program n jc →
    (Seen (defs c.program) d (with_link r x (after_link m.at.link)) (with_type jr x a) → Stands c.program d (at_node (record (with_link r x (after_link m.at.link)) { potential = r.potential - q }) n) jc) →
    DeedFine c d p (puts r x b q n)
sends_fine c d p r j jr jc nd x o m b q n a s rm rv lk en sr ij st =
    let g : Program = c.program in
    let l : Link = m.at.link in
    let k : DeedFine c d p (Puts (msg_on l (out x) b r.moment q) (Some (at_node (record (with_link r x (after_link l)) { potential = r.potential - q }) n))) =
    (toward_at g d p j nd x o m (out x) s.toward, λ e. subst (λ (mo : ℕ). MsgFine (defs g) d (msg_on l (out x) b mo q) × ProcFine g d (at_node (record (with_link r x (after_link l)) { potential = r.potential - q }) n)) (sym rm) (sends_leaves g d p r j jr jc nd x o m b q n a s rm rv sr ij st (e ∙ ap (next_view (defs g) (d l) b) rm))) in
    subst (λ y. DeedFine c d p (puts_at r x b q n y)) (sym lk) (enough c d p r x q n b l (nat_le q r.potential) en k)
