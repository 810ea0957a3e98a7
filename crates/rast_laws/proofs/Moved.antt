-- A message that fits one view fits another with the same head, on another link.
use Rattle.std.proofs.Common.{◌≡◌, ℕ, Option, Some, refl, subst, subst₂}
use Rattle.rast_types.specs.Closed.{Table, Way, Label as ByLabel, First, Second, Inner, At, View, head, Suits}
use Rattle.rast_items.specs.Step.{moved, moved_next}
use Rattle.rast_laws.specs.Typed.{IsToward, FitsKind}
use Rattle.rast_order.proofs.Words.{Link, Msg, Body, Label, End, Chan, Nat, Assert, Pay, Client, Provider}
use Rattle.rast_equal.proofs.Equals.{SameHeads, part_across}
use Rattle.rast_equal.proofs.Proper.{Proper}
use Rattle.rast_laws.proofs.Channels.{seen_equal}
use Rattle.rast_laws.proofs.Fine.{GoesAt, CarriesAt, Goes, MsgFine}

goes_at_across : (t : Table) (d : Link → Option View) (v w : View) (m : ℕ) (next : Link) (x : Way) → SameHeads t (head t v) (head t w) → GoesAt t d v m next x → GoesAt t d w m next x
goes_at_across t d v w m next x s h =
    let p = part_across t (head t v) (head t w) x h.part s h.is in
    record { part = p.0; is = p.1; up = seen_equal t d m Provider next h.part p.0 p.2 h.up; down = seen_equal t d m Client next h.part p.0 p.2 h.down }

carries_across : (t : Table) (d : Link → Option View) (v w : View) (m : ℕ) (c : Link) → SameHeads t (head t v) (head t w) → CarriesAt t d v m c → CarriesAt t d w m c
carries_across t d v w m c s h =
    let p = part_across t (head t v) (head t w) First h.part s h.is in
    record { part = p.0; is = p.1; seen = seen_equal t d m Client c h.part p.0 p.2 h.seen }

goes_across : (t : Table) (d : Link → Option View) (v w : View) (m : ℕ) (link to next : Link) (b : Body) → SameHeads t (head t v) (head t w) → Goes t d v m link next b → Goes t d w m to (moved_next b to next) b
goes_across t d v w m link to next (Label l) s h = goes_at_across t d v w m next (ByLabel l) s h
goes_across t d v w m link to next End s h = refl
goes_across t d v w m link to next (Chan c) s h = (goes_at_across t d v w m next Second s h.0, carries_across t d v w m c s h.1)
goes_across t d v w m link to next (Nat n) s h = goes_at_across t d v w m next (At n) s h
goes_across t d v w m link to next Assert s h = goes_at_across t d v w m next Inner s h
goes_across t d v w m link to next Pay s h = goes_at_across t d v w m next Inner s h

pub moved_fine : (t : Table) (d : Link → Option View) (m : Msg) (to : Link) (w : View) (f : MsgFine t d m) → SameHeads t (head t f.due) (head t w) → d to ≡ Some w → Proper t w.type → Suits t w m.moment → MsgFine t d (moved m to)
moved_fine t d m to w f s i p u = record {
  due = w;
  is = i;
  proper = p;
  toward = subst (λ o. IsToward o m.toward) s.kind f.toward;
  body = subst₂ (λ k z. FitsKind k z m.body m.potential) s.kind s.figure f.body;
  moment = u;
  goes = goes_across t d f.due w m.moment m.link to m.next m.body s f.goes;
}
