-- A process at a node that touches a channel: its link, what is due there, and the head.
use Rattle.std.proofs.Common.{◌≡◌, ℕ, ℤ, zero, suc, pos, ◌+ℤ◌, max, ◌+◌, ◌≤◌, Bool, true, false, Option, Some, refl, sym, ap, ◌∙◌, subst, arith, if◌then◌else◌, eq-eqb, ne_eqb}
use Rattle.std.proofs.lemmas.Int.{ints}
use Rattle.rast_index.specs.Keys.{find_key}
use Rattle.rast_index.specs.Linear.{whole, nought}
use Rattle.rast_index.specs.Truth.{truth, Follows, is_equal}
use Rattle.rast_index.proofs.Values.{value_fixed}
use Rattle.rast_index.specs.declared.formula.Formula.{Formula}
use Rattle.rast_types.specs.declared.ty.Kind.{Kind}
use Rattle.rast_types.specs.declared.ty.Ty.{Ty}
use Rattle.rast_types.specs.Closed.{Closed, closed, Table, exposed, kind_of, View, view, head, arrival, Suits}
use Rattle.rast_types.specs.Symbolic.{exposed_type, is_scoped, binders}
use Rattle.rast_terms.specs.declared.node.Node.{Node}
use Rattle.rast_terms.specs.declared.program.Program.{Program}
use Rattle.rast_rules.specs.declared.judgement.Judgement.{Judgement}
use Rattle.rast_rules.specs.Rules.{defs, is_provided, type_of, used_type, head_at}
use Rattle.rast_items.specs.Deeds.{link_of, inward}
use Rattle.rast_order.proofs.Words.{Link, Proc, Side, Client, Provider}
use Rattle.rast_equal.proofs.Equals.{SameHeads, heads_sym, heads_trans}
use Rattle.rast_equal.proofs.Proper.{Proper, proper_head}
use Rattle.rast_laws.proofs.Serving.{serves_same}
use Rattle.rast_laws.proofs.Channels.{Ties, SeenAt, HasLink, seen_link}
use Rattle.rast_laws.proofs.Fine.{Stands}
use Rattle.rast_equal.proofs.Exposing.{Unnamed, ExposedAs, exposed_is}
use Rattle.rast_laws.proofs.Judged.{Limited}
use Rattle.rast_laws.proofs.Asking.{Touches}
use Rattle.rast_laws.proofs.Shapes.{scoped_find}
use Rattle.rast_laws.proofs.Placed.{Shape}
use Rattle.rast_equal.proofs.Truths.{equal_true}

-- ---- moments

-- where a process touches a channel whose ticks are 0, its moment suits what is due there
pub seen_now : (t : Table) (m : ℕ) (s : Side) (c : Closed) (due : View) → Ties t s (view m c) due → (exposed t c).ticks ≡ pos 0 → Suits t due m
seen_now t m Provider c due h e = sym h.arrivals ∙ (ap (λ z. pos m +ℤ z) e ∙ omega (arith, ints))
seen_now t m Client c due h e = h.arrivals ∙ (ap (λ z. pos m +ℤ z) e ∙ omega (arith, ints))

one_moment : (m n : ℕ) (z : ℤ) → z ≡ pos m → z ≡ pos n → m ≡ n
one_moment m n z a b = let k : pos m ≡ pos n = sym a ∙ b in cc

-- and a moment that suits what is due there isn't less than its own
pub seen_later : (t : Table) (m n : ℕ) (s : Side) (c : Closed) (due : View) → Ties t s (view m c) due → (exposed t c).ticks ≡ pos 0 → Suits t due n → m ≤ n
seen_later t m n s c due h e u = let k : m ≡ n = one_moment m n (arrival t due) (seen_now t m s c due h e) u in omega (arith, k)

-- in fact it is the same
pub seen_moment : (t : Table) (m n : ℕ) (s : Side) (c : Closed) (due : View) → Ties t s (view m c) due → (exposed t c).ticks ≡ pos 0 → Suits t due n → m ≡ n
seen_moment t m n s c due h e u = one_moment m n (arrival t due) (seen_now t m s c due h e) u

-- where it takes a message of this moment there, each other channel is seen as before
pub seen_taken : (t : Table) (m n : ℕ) (s : Side) (c : Closed) (due : View) → Ties t s (view m c) due → (exposed t c).ticks ≡ pos 0 → Suits t due n → max m n ≡ m
seen_taken t m n s c due h e u = let k : m ≡ n = one_moment m n (arrival t due) (seen_now t m s c due h e) u in omega (arith, k)

-- ---- a valuation at which the premises are true

pub followed : (g : Program) (d : Link → Option View) (p : Proc) (j : Judgement) (goal : Formula) → Stands g d p j → Follows j.ctx.vars j.ctx.premises goal → truth goal (whole p.values) ≡ true
followed g d p j goal s f = f p.values s.vars s.premises

-- ---- the channel

pub record Channel (g : Program) (d : Link → Option View) (p : Proc) (j : Judgement) (x : ℕ) (a : Ty) : Type 0 where
  pub link : Link
  pub link_is : link_of p x ≡ Some link
  pub seen : SeenAt (defs g) d p.moment (inward x) link (closed a (whole p.values))

provided_zero : (j : Judgement) (x : ℕ) → j.gives.0 ≡ 0 → x ≡ 0 → is_provided j x ≡ true
provided_zero j x g e = eq-eqb x j.gives.0 (e ∙ sym g)

pub provided_suc : (j : Judgement) (x : ℕ) → j.gives.0 ≡ 0 → is_provided j (suc x) ≡ false
provided_suc j x g = ne_eqb (suc x) j.gives.0 (λ e. absurd (omega (arith, e, g)))

pub provided_is : (j : Judgement) → j.gives.0 ≡ 0 → is_provided j 0 ≡ true
provided_is j g = provided_zero j 0 g refl

pub channel : (g : Program) (d : Link → Option View) (p : Proc) (j : Judgement) (x : ℕ) (a : Ty) → Stands g d p j → type_of j x ≡ Some a → Channel g d p j x a
channel g d p j zero a s e =
    let k : Some j.gives.1 ≡ Some a = sym (ap (λ (b : Bool). if b then Some j.gives.1 else used_type j 0) (provided_is j s.provided)) ∙ e in
    let same : j.gives.1 ≡ a = cc in
    record { link = p.own; link_is = refl; seen = subst (λ y. SeenAt (defs g) d p.moment Provider p.own (closed y (whole p.values))) same s.gives }
channel g d p j (suc x) a s e =
    let f : find_key (suc x) j.uses ≡ Some a = sym (ap (λ (b : Bool). if b then Some j.gives.1 else used_type j (suc x)) (provided_suc j x s.provided)) ∙ e in
    let r : HasLink (defs g) d p.moment (whole p.values) p.uses (suc x) a = seen_link (defs g) d p.moment (whole p.values) (suc x) p.uses j.uses a s.uses f in
    record { link = r.link; link_is = r.found; seen = r.seen }

-- a type in a judgement is in scope
type_in : (v f : ℕ) (j : Judgement) (x : ℕ) (a : Ty) (b : Bool) → Shape v f j → (if b then Some j.gives.1 else used_type j x) ≡ Some a → is_scoped v a ≡ true
type_in v f j x a true h e = let s : j.gives.1 ≡ a = cc in subst (λ y. is_scoped v y ≡ true) s h.gives
type_in v f j x a false h e = scoped_find v x j.uses a h.uses e

pub type_of_scoped : (v f : ℕ) (j : Judgement) (x : ℕ) (a : Ty) → Shape v f j → type_of j x ≡ Some a → is_scoped v a ≡ true
type_of_scoped v f j x a h e = type_in v f j x a (is_provided j x) h e

-- ---- the head

tied_heads : (t : Table) (m : ℕ) (s : Side) (c : Closed) (due : View) → Proper t c → Proper t due.type → Ties t s (view m c) due → SameHeads t (exposed t c).head (head t due)
tied_heads t m Provider c due h k s = serves_same t (view m c) due h k s
tied_heads t m Client c due h k s = heads_sym t (head t due) (exposed t c).head (serves_same t due (view m c) k h s)

pub record Meets (g : Program) (d : Link → Option View) (p : Proc) (j : Judgement) (nd : Node) (x : ℕ) (o : Option Kind) : Type 0 where
  pub asks : Touches g j nd x o
  pub at : Channel g d p j x asks.type
  pub heads : SameHeads (defs g) (closed (head_at g j x) (whole p.values)) (head (defs g) at.seen.due)
  pub kind : kind_of (head_at g j x) ≡ Some asks.want
  pub ticks : (exposed (defs g) (closed asks.type (whole p.values))).ticks ≡ pos 0

pub meets : (g : Program) (d : Link → Option View) (p : Proc) (j : Judgement) (nd : Node) (x : ℕ) (o : Option Kind) → Unnamed (defs g) → Limited j → Shape j.ctx.vars j.fresh j → Stands g d p j → Touches g j nd x o → Meets g d p j nd x o
meets g d p j nd x o u l h s t =
    let c : Closed = closed t.type (whole p.values) in
    let ch : Channel g d p j x t.type = channel g d p j x t.type s t.type_is in
    let few : j.ctx.vars + binders (exposed_type (defs g) j.ctx.vars t.type).body ≤ 16 = subst (λ b. j.ctx.vars + binders b ≤ 16) (sym t.exposed) t.shallow in
    let e : ExposedAs (defs g) p.values (exposed_type (defs g) j.ctx.vars t.type) (exposed (defs g) c) = exposed_is (defs g) j.ctx.vars t.type p.values u s.vars l.vars (type_of_scoped j.ctx.vars j.fresh j x t.type h t.type_is) few in
    let own : SameHeads (defs g) (closed (head_at g j x) (whole p.values)) (exposed (defs g) c).head = subst (λ b. SameHeads (defs g) (closed b (whole p.values)) (exposed (defs g) c).head) t.exposed e.heads in
    let k = proper_head (defs g) c ch.seen.proper in
    let kind_is : kind_of (head_at g j x) ≡ Some k.0 = own.kind ∙ k.1 in
    record {
      asks = t;
      at = ch;
      heads = heads_trans (defs g) (closed (head_at g j x) (whole p.values)) (exposed (defs g) c).head (head (defs g) ch.seen.due) own (tied_heads (defs g) p.moment (inward x) c ch.seen.due ch.seen.proper ch.seen.due_proper ch.seen.ties);
      kind = kind_is ∙ ap Some (sym (t.kind k.0 kind_is));
      ticks = sym e.ticks ∙ (equal_true (exposed_type (defs g) j.ctx.vars t.type).ticks nought (whole p.values) (followed g d p j (is_equal (exposed_type (defs g) j.ctx.vars t.type).ticks nought) s t.ticks) ∙ value_fixed (pos 0) (whole p.values));
    }
