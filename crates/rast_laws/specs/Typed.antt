-- Due views of links, messages that fit them, and well typed configurations.
use Rattle.std.specs.Prelude.{◌≡◌, ℕ, zero, suc, ℤ, pos, if◌then◌else◌, List, [], ◌∷◌, length, Option, Some, None, slice_get, IsTrue, All}
use Rattle.std.specs.List.{list_all}
use Rattle.rast_index.specs.Linear.{value, whole}
use Rattle.rast_index.specs.Truth.{truth}
use Rattle.rast_types.specs.declared.ty.Kind.{Kind}
use Rattle.rast_types.specs.declared.ty.Kind.TheVariants as kind
use Rattle.rast_types.specs.declared.ty.Ty.{Ty}
use Rattle.rast_types.specs.Closed.{Table, Closed, closed, Way, Label as ByLabel, First, Second, Inner, At, part_of, kind_of, figure_of, is_positive, View, view, head, Serves, Suits}
use Rattle.rast_terms.specs.declared.program.Program.{Program}
use Rattle.rast_terms.specs.declared.program.Decl.{Decl}
use Rattle.rast_rules.specs.declared.judgement.Judgement.{Judgement}
use Rattle.rast_rules.specs.Rules.{IsJudgement, defs}
use Rattle.rast_items.specs.declared.link.Link.{Link}
use Rattle.rast_items.specs.declared.link.Side.{Side}
use Rattle.rast_items.specs.declared.link.Side.TheVariants.{Client, Provider}
use Rattle.rast_items.specs.declared.message.Body.{Body}
use Rattle.rast_items.specs.declared.message.Body.TheVariants.{Label, End, Chan, Nat, Assert, Pay}
use Rattle.rast_items.specs.declared.message.Msg.{Msg}
use Rattle.rast_items.specs.declared.item.Item.{Item}
use Rattle.rast_items.specs.declared.item.Item.TheVariants.{Proc as P, Msg as M}
use Rattle.rast_items.specs.declared.event.Event.{Event}
use Rattle.rast_items.specs.declared.event.Event.TheVariants.{Send, Move}
use Rattle.rast_items.specs.Process.{Process as Proc}
use Rattle.rast_items.specs.Run.{Birth, State, Sent, sent_at}

-- ---- due views

-- the part that a body selects
abbrev pub selected : Body → Option Way
selected (Label l) = Some (ByLabel l)
selected End = None
selected (Chan c) = Some Second
selected (Nat n) = Some (At n)
selected Assert = Some Inner
selected Pay = Some Inner

abbrev pub part_by : Closed → Option Way → Option Closed
part_by c None = None
part_by c (Some w) = part_of c w

abbrev pub view_some : ℕ → Option Closed → Option View
view_some m None = None
view_some m (Some c) = Some (view m c)

-- the view after a body was sent at this moment
abbrev pub next_view : Table → Option View → Body → ℕ → Option View
next_view t None b m = None
next_view t (Some v) b m = view_some m (part_by (head t v) (selected b))

-- the view that is led on by so many messages; there is none behind a message that wasn't sent
abbrev pub due_after : Table → Option View → ℕ → List Sent → Option View
due_after t v zero xs = v
due_after t v (suc k) [] = None
due_after t v (suc k) (x ∷ xs) = due_after t (next_view t v x.entry.body x.moment) k xs

-- the view with which a session begins
abbrev pub born_view : Birth → Option Decl → Option View
born_view b None = None
born_view b (Some d) = Some (view b.moment (closed d.gives (whole b.values)))

abbrev pub first_view : Program → Option Birth → Option View
first_view g None = None
first_view g (Some b) = born_view b (slice_get g.decls b.decl)

-- the due view of a link after a run: behind as many messages of its session as its number says
abbrev pub due : Program → List Event → List Birth → Link → Option View
due g es births l =
    due_after (defs g) (first_view g (slice_get births l.session.0)) l.index (sent_at l.session es)

-- ---- messages

-- the link's due view serves the view; the view serves the link's due view
abbrev pub ServesView : Table → Option View → Option View → Type 0
ServesView t (Some p) (Some c) = Serves t p c
ServesView t p c = ⊥

-- the two views serve each other
abbrev pub Mutual : Table → Option View → Option View → Type 0
Mutual t a b = ServesView t a b × ServesView t b a

-- a body of the kind of a head, with a true formula or the stated potential
abbrev pub FitsKind : Option Kind → ℤ → Body → ℕ → Type 0
FitsKind (Some kind.Plus) z (Label l) q = q ≡ 0
FitsKind (Some kind.With) z (Label l) q = q ≡ 0
FitsKind (Some kind.One) z End q = q ≡ 0
FitsKind (Some kind.Tensor) z (Chan c) q = q ≡ 0
FitsKind (Some kind.Lolli) z (Chan c) q = q ≡ 0
FitsKind (Some kind.Ex) z (Nat n) q = q ≡ 0
FitsKind (Some kind.All) z (Nat n) q = q ≡ 0
FitsKind (Some kind.Assert) z Assert q = (q ≡ 0) × (z ≡ pos 1)
FitsKind (Some kind.Assume) z Assert q = (q ≡ 0) × (z ≡ pos 1)
FitsKind (Some kind.Pays) z Pay q = z ≡ pos q
FitsKind (Some kind.Gets) z Pay q = z ≡ pos q
FitsKind k z b q = ⊥

-- the side to which a message at a head of this kind goes
abbrev pub side_of : Kind → Side
side_of k = if is_positive k then Client else Provider

abbrev pub IsToward : Option Kind → Side → Type 0
IsToward None s = ⊥
IsToward (Some k) s = side_of k ≡ s

-- the carried link serves the first part
abbrev pub FitsCarried : Table → (Link → Option View) → Closed → ℕ → Body → Type 0
FitsCarried t d h m (Chan c) = ServesView t (d c) (view_some m (part_of h First))
FitsCarried t d h m b = Unit {0}

-- a label that the head has; the end has no part
abbrev pub HasPart : Closed → Body → Type 0
HasPart h End = Unit {0}
HasPart h b = (c : Closed) × (part_by h (selected b) ≡ Some c)

-- a message of this body, direction, moment and potential fits the view
pub record Fits (t : Table) (d : Link → Option View) (v : View) (b : Body) (s : Side) (m q : ℕ) : Type 0 where
  pub toward : IsToward (kind_of (head t v).ty) s
  pub body : FitsKind (kind_of (head t v).ty) (figure_of (head t v)) b q
  pub part : HasPart (head t v) b
  pub carried : FitsCarried t d (head t v) m b
  pub moment : Suits t v m

-- the link after the message and the selected part serve each other
abbrev pub FitsNext : Table → (Link → Option View) → View → Msg → Body → Type 0
FitsNext t d v m End = m.next ≡ m.link
FitsNext t d v m b = Mutual t (d m.next) (next_view t (Some v) m.body m.moment)

abbrev pub FitsMsg : Table → (Link → Option View) → Option View → Msg → Type 0
FitsMsg t d None m = ⊥
FitsMsg t d (Some v) m = Fits t d v m.body m.toward m.moment m.potential × FitsNext t d v m m.body

-- ---- processes

abbrev pub own_view : Proc → Judgement → Option View
own_view p j = Some (view p.moment (closed j.gives.1 (whole p.values)))

abbrev pub AreServed : Table → (Link → Option View) → Proc → List (ℕ × Link) → List (ℕ × Ty) → Type 0
AreServed t d p [] [] = Unit {0}
AreServed t d p [] (a ∷ as') = ⊥
AreServed t d p (u ∷ us) [] = ⊥
AreServed t d p (u ∷ us) (a ∷ as') = (u.0 ≡ a.0) × ServesView t (d u.1) (Some (view p.moment (closed a.1 (whole p.values)))) × AreServed t d p us as'

-- the process meets the judgement: channels, values, potential, and the next free channel
pub record IsTyped (g : Program) (d : Link → Option View) (p : Proc) (j : Judgement) : Type 0 where
  pub vars : length p.values ≡ j.ctx.vars
  pub premises : IsTrue (list_all (λ f. truth f (whole p.values)) j.ctx.premises)
  pub potential : value j.potential (whole p.values) ≡ pos p.potential
  pub fresh : p.fresh ≡ j.fresh
  pub provided : j.gives.0 ≡ 0
  pub gives : ServesView (defs g) (own_view p j) (d p.own)
  pub uses : AreServed (defs g) d p p.uses j.uses

abbrev pub IsItemTyped : Program → (Link → Option View) → Item → Type 0
IsItemTyped g d (P p) = (j : Judgement) × IsJudgement g p.node j × IsTyped g d p j
IsItemTyped g d (M m) = FitsMsg (defs g) d (d m.link) m

-- well typed after the events
abbrev pub IsWellTyped : Program → List Event → State → Type 0
IsWellTyped g es st = All (IsItemTyped g (due g es st.births)) st.items

-- each message sent fits its due view, and its moment suits it
abbrev pub IsSendTyped : Program → List Event → List Birth → Event → Type 0
IsSendTyped g es births (Send pid link body moment potential) = (v : View) × (s : Side) × (due g es births link ≡ Some v) × Fits (defs g) (due g es births) v body s moment potential
IsSendTyped g es births (Move pid from to body moment) = (v : View) × (s : Side) × (q : ℕ) × (due g es births to ≡ Some v) × Fits (defs g) (due g es births) v body s moment q
IsSendTyped g es births e = Unit {0}
