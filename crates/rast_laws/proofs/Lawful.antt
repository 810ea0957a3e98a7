-- What a process does that is known to stand at its node: how its deed fits what is due on its links.
use Rattle.std.proofs.Common.{◌≡◌, ℕ, ◌≤◌, Option, Some, None, slice_get, if◌then◌else◌}
use Rattle.rast_index.specs.Linear.{whole}
use Rattle.rast_types.specs.declared.ty.Kind.{Kind}
use Rattle.rast_types.specs.Closed.{closed, kind_of, is_positive, View, view, head, Serves}
use Rattle.rast_terms.specs.declared.program.Program.{Program}
use Rattle.rast_terms.specs.declared.program.Decl.{Decl}
use Rattle.rast_rules.specs.Rules.{defs}
use Rattle.rast_items.specs.Deeds.{Code, Deed, Puts, Takes, Moves, Makes, Turns, Works, Delays, Halts, Breaks, deed, after_take}
use Rattle.rast_laws.specs.Typed.{IsToward, next_view}
use Rattle.rast_order.proofs.Words.{Link, Proc, Msg, Side}
use Rattle.rast_equal.proofs.Proper.{Proper}
use Rattle.rast_laws.proofs.Fine.{ProcFine, MsgFine}

-- messages on this link go to this side
pub record Toward (g : Program) (d : Link → Option View) (l : Link) (s : Side) : Type 0 where
  pub due : View
  pub is : d l ≡ Some due
  pub toward : IsToward (kind_of (head (defs g) due).ty) s

-- what a send leaves, where the next link is at the part that the message selects
abbrev pub PutLeaves : Program → (Link → Option View) → Proc → Msg → Option Proc → Type 0
PutLeaves g d p m None = MsgFine (defs g) d m × (p.potential ≡ 0)
PutLeaves g d p m (Some q) = d m.next ≡ next_view (defs g) (d m.link) m.body m.moment → MsgFine (defs g) d m × ProcFine g d q

-- a take of a message that fits
pub record TakesFine (c : Code) (d : Link → Option View) (p : Proc) (m : Msg) : Type 0 where
  pub q : Proc
  pub leaves : after_take c p m ≡ Some q
  pub fine : ProcFine c.program d q
  pub later : p.moment ≤ m.moment

-- a forward between two links, the one of which serves the other
pub record Forwards (g : Program) (d : Link → Option View) (p : Proc) (other wait : Link) : Type 0 where
  pub mine : View
  pub yours : View
  pub mine_is : d p.own ≡ Some mine
  pub yours_is : d other ≡ Some yours
  pub mine_proper : Proper (defs g) mine.type
  pub yours_proper : Proper (defs g) yours.type
  pub serves : Serves (defs g) yours mine
  pub potential : p.potential ≡ 0
  pub kind : Kind
  pub kind_is : kind_of (head (defs g) yours).ty ≡ Some kind
  pub waits : wait ≡ (if is_positive kind then other else p.own)

-- a spawn, where the first view of the child's session is due on its link
pub record Spawns (g : Program) (d : Link → Option View) (child rest : Proc) (n : ℕ) : Type 0 where
  pub decl : Decl
  pub is : slice_get g.decls n ≡ Some decl
  pub leaves : d child.own ≡ Some (view rest.moment (closed decl.gives (whole child.values))) → ProcFine g d child × ProcFine g d rest

abbrev pub DeedFine : Code → (Link → Option View) → Proc → Deed → Type 0
DeedFine c d p (Puts m rest) = Toward c.program d m.link m.toward × PutLeaves c.program d p m rest
DeedFine c d p (Takes l s) = Toward c.program d l s × ((m : Msg) → m.link ≡ l → MsgFine (defs c.program) d m → TakesFine c d p m)
DeedFine c d p (Moves other wait) = Forwards c.program d p other wait
DeedFine c d p (Makes child rest n) = Spawns c.program d child rest n
DeedFine c d p (Turns rest n) = ProcFine c.program d rest
DeedFine c d p (Works q rest) = ProcFine c.program d rest
DeedFine c d p (Delays t rest) = ProcFine c.program d rest
DeedFine c d p (Halts v) = Unit {0}
DeedFine c d p Breaks = ⊥

-- each process that stands at its node does what fits
abbrev pub DeedLaw : Code → Type 0
DeedLaw c = (d : Link → Option View) (k : ℕ) (p : Proc) → ProcFine c.program d p → DeedFine c d p (deed c k p)
