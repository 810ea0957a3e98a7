-- A process that forwards can meet messages from one of its two links alone, the one on which it waits.
use Rattle.std.proofs.Common.{◌≡◌, ℕ, Bool, true, false, List, ◌∷◌, ◌++◌, Option, Some, if◌then◌else◌, refl, sym, ap, ◌∙◌, subst, arith}
use Rattle.rast_types.specs.Closed.{View, is_positive, kind_of, head}
use Rattle.rast_terms.specs.declared.program.Program.{Program}
use Rattle.rast_rules.specs.Rules.{defs}
use Rattle.rast_items.specs.Items.{hit, link_at, IsConfig}
use Rattle.rast_items.specs.Deeds.{Code, Moves, deed}
use Rattle.rast_laws.specs.Typed.{IsToward}
use Rattle.rast_laws.specs.Sound.{Has, IsPolar, ArePolar}
use Rattle.rast_order.proofs.Words.{Link, Item, P, M, Proc, Msg, Side, Client, Provider}
use Rattle.rast_order.proofs.Counts.{hit_of}
use Rattle.rast_order.proofs.Keys.{held_by}
use Rattle.rast_order.proofs.Deeds.{DeedSound, deed_sound}
use Rattle.rast_equal.proofs.Equals.{some_same}
use Rattle.rast_laws.proofs.Fine.{AllFine, MsgFine, fine_right}
use Rattle.rast_laws.proofs.Lawful.{Toward, Forwards, DeedLaw}
use Rattle.rast_laws.proofs.Freely.{msg_toward, forward_yours}
use Rattle.rast_laws.proofs.Whole.{deed_at}
use Rattle.rast_laws.proofs.Progress.{own_unused}

-- the side to which messages on the link that is forwarded go
yours_toward : (g : Program) (d : Link → Option View) (p : Proc) (other wait : Link) (f : Forwards g d p other wait) (s : Side) → Toward g d other s → (if is_positive f.kind then Client else Provider) ≡ s
yours_toward g d p other wait f s t =
    let e : t.due ≡ f.yours = some_same (d other) t.is f.yours_is in
    subst (λ o. IsToward o s) f.kind_is (subst (λ (v : View). IsToward (kind_of (head (defs g) v).ty) s) e t.toward)

waits_client : (b : Bool) (wait other own : Link) → (if b then Client else Provider) ≡ Client → wait ≡ (if b then other else own) → wait ≡ other
waits_client true wait other own s h = h
waits_client false wait other own s h = let x : Provider ≡ Client = s in cc

waits_provider : (b : Bool) (wait other own : Link) → (if b then Client else Provider) ≡ Provider → wait ≡ (if b then other else own) → wait ≡ own
waits_provider true wait other own s h = let x : Client ≡ Provider = s in cc
waits_provider false wait other own s h = h

msg_here : (g : Program) (d : Link → Option View) (items : List Item) → AllFine g d items → (m : Msg) → Has (M m) items → Toward g d m.link m.toward
msg_here g d items w m h = msg_toward g d m (fine_right g d h.before (M m ∷ h.after) (subst (AllFine g d) h.is w)).0

-- the two links of a forward aren't one
two_links : (c : Code) (k : ℕ) (items : List Item) → IsConfig (link_at 0 0) items → (p : Proc) (other wait : Link) → Has (P p) items → deed c k p ≡ Moves other wait → other ≡ p.own → ⊥
two_links c k items g p other wait h e o =
    let u : (x : Link) → held_by x p.uses ≡ hit x other = subst (DeedSound k p) e (deed_sound c k p) in
    let z : held_by p.own p.uses ≡ 0 = own_unused (link_at 0 0) h.before h.after p (subst (IsConfig (link_at 0 0)) h.is g) in
    absurd (omega (arith, u p.own, hit_of p.own other o, z))

one_end : (c : Code) → DeedLaw c → (d : Link → Option View) (k : ℕ) (items : List Item) → AllFine c.program d items → (p : Proc) (other wait : Link) (m : Msg) → Has (P p) items → Has (M m) items → deed c k p ≡ Moves other wait → IsPolar p other wait m
one_end c law d k items w p other wait m hp hm e =
    let g : Program = c.program in
    let f : Forwards g d p other wait = deed_at c law d k hp.before hp.after p (Moves other wait) (subst (AllFine g d) hp.is w) e in
    let t : Toward g d m.link m.toward = msg_here g d items w m hm in
    record {
      client = λ s l. waits_client (is_positive f.kind) wait other p.own (yours_toward g d p other wait f m.toward (subst (λ x. Toward g d x m.toward) l t) ∙ s) f.waits;
      provider = λ s l. waits_provider (is_positive f.kind) wait other p.own (yours_toward g d p other wait f m.toward (forward_yours g d p other wait m.toward f (subst (λ x. Toward g d x m.toward) l t)) ∙ s) f.waits;
    }

pub polar : (c : Code) → DeedLaw c → (d : Link → Option View) (k : ℕ) (items : List Item) → AllFine c.program d items → IsConfig (link_at 0 0) items → ArePolar c k items
polar c law d k items w g = record { two = two_links c k items g; one = one_end c law d k items w }
