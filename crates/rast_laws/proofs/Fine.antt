-- What is known of each item of a configuration, with all that the proofs need beside what is promised.
use Rattle.std.proofs.Common.{◌≡◌, ℕ, pos, true, ◌≤◌, ◌+◌, List, [], ◌∷◌, ◌++◌, ◌⊎◌, inl, inr, length, Option, Some, refl, sym, ap, ◌∙◌, subst, subst₂, arith}
use Rattle.std.proofs.lemmas.List.Elements.{All-nil, All-cons}
use Rattle.std.specs.List.{list_all, All}
use Rattle.rast_index.specs.Linear.{value, whole}
use Rattle.rast_index.specs.Truth.{truth}
use Rattle.rast_types.specs.declared.ty.Ty.{Ty}
use Rattle.rast_types.specs.Closed.{Closed, closed, Table, Way, Label as ByLabel, First, Second, Inner, At, part_of, kind_of, figure_of, View, view, head, Serves, Suits}
use Rattle.rast_terms.specs.declared.program.Program.{Program}
use Rattle.rast_rules.specs.declared.judgement.Judgement.{Judgement}
use Rattle.rast_rules.specs.Rules.{IsJudgement, defs}
use Rattle.rast_items.specs.Items.{provides, uses, carried, hit, times, provided, used}
use Rattle.rast_laws.specs.Typed.{view_some, next_view, ServesView, Mutual, FitsKind, IsToward, FitsCarried, HasPart, Fits, FitsNext, FitsMsg, own_view, AreServed, IsTyped, IsItemTyped}
use Rattle.rast_order.proofs.Words.{Link, Item, P, M, Proc, Msg, Side, Client, Provider, Body, Label, End, Chan, Nat, Assert, Pay}
use Rattle.rast_order.proofs.Counts.{hit_self, hit_of}
use Rattle.rast_order.proofs.Keeps.{uses_client, uses_provider, gives_client, gives_provider}
use Rattle.rast_order.proofs.Sound.{continued_some}
use Rattle.rast_equal.proofs.Equals.{some_same}
use Rattle.rast_order.proofs.Keys.{held_by}
use Rattle.rast_equal.proofs.Proper.{Proper}
use Rattle.rast_laws.proofs.Channels.{SeenAt, seen_due, AreSeen, seen_dues}

-- ---- processes

-- a process that meets a judgement of its node
pub record Stands (g : Program) (d : Link → Option View) (p : Proc) (j : Judgement) : Type 0 where
  pub vars : length p.values ≡ j.ctx.vars
  pub premises : list_all (λ f. truth f (whole p.values)) j.ctx.premises ≡ true
  pub potential : value j.potential (whole p.values) ≡ pos p.potential
  pub fresh : p.fresh ≡ j.fresh
  pub provided : j.gives.0 ≡ 0
  pub gives : SeenAt (defs g) d p.moment Provider p.own (closed j.gives.1 (whole p.values))
  pub uses : AreSeen (defs g) d p.moment (whole p.values) p.uses j.uses

abbrev pub ProcFine : Program → (Link → Option View) → Proc → Type 0
ProcFine g d p = (j : Judgement) × IsJudgement g p.node j × Stands g d p j

-- ---- messages

-- the link after a message is at the part that its body selects, for both ends
pub record GoesAt (t : Table) (d : Link → Option View) (due : View) (moment : ℕ) (next : Link) (w : Way) : Type 0 where
  pub part : Closed
  pub is : part_of (head t due) w ≡ Some part
  pub up : SeenAt t d moment Provider next part
  pub down : SeenAt t d moment Client next part

-- the link that a message carries is at the first part
pub record CarriesAt (t : Table) (d : Link → Option View) (due : View) (moment : ℕ) (link : Link) : Type 0 where
  pub part : Closed
  pub is : part_of (head t due) First ≡ Some part
  pub seen : SeenAt t d moment Client link part

abbrev pub Goes : Table → (Link → Option View) → View → ℕ → Link → Link → Body → Type 0
Goes t d due m link next (Label l) = GoesAt t d due m next (ByLabel l)
Goes t d due m link next End = next ≡ link
Goes t d due m link next (Chan c) = GoesAt t d due m next Second × CarriesAt t d due m c
Goes t d due m link next (Nat n) = GoesAt t d due m next (At n)
Goes t d due m link next Assert = GoesAt t d due m next Inner
Goes t d due m link next Pay = GoesAt t d due m next Inner

pub record MsgFine (t : Table) (d : Link → Option View) (m : Msg) : Type 0 where
  pub due : View
  pub is : d m.link ≡ Some due
  pub proper : Proper t due.type
  pub toward : IsToward (kind_of (head t due).ty) m.toward
  pub body : FitsKind (kind_of (head t due).ty) (figure_of (head t due)) m.body m.potential
  pub moment : Suits t due m.moment
  pub goes : Goes t d due m.moment m.link m.next m.body

abbrev pub ItemFine : Program → (Link → Option View) → Item → Type 0
ItemFine g d (P p) = ProcFine g d p
ItemFine g d (M m) = MsgFine (defs g) d m

abbrev pub AllFine : Program → (Link → Option View) → List Item → Type 0
AllFine g d [] = Unit {0}
AllFine g d (i ∷ is) = ItemFine g d i × AllFine g d is

pub fine_left : (g : Program) (d : Link → Option View) (xs ys : List Item) → AllFine g d (xs ++ ys) → AllFine g d xs
fine_left g d [] ys h = tt
fine_left g d (x ∷ xs) ys h = (h.0, fine_left g d xs ys h.1)

pub fine_right : (g : Program) (d : Link → Option View) (xs ys : List Item) → AllFine g d (xs ++ ys) → AllFine g d ys
fine_right g d [] ys h = h
fine_right g d (x ∷ xs) ys h = fine_right g d xs ys h.1

pub fine_append : (g : Program) (d : Link → Option View) (xs ys : List Item) → AllFine g d xs → AllFine g d ys → AllFine g d (xs ++ ys)
fine_append g d [] ys h k = k
fine_append g d (x ∷ xs) ys h k = (h.0, fine_append g d xs ys h.1 k)

-- ---- only the links of an item matter

stands_due : (g : Program) (d e : Link → Option View) (p : Proc) (j : Judgement) → e p.own ≡ d p.own → ((l : Link) → 1 ≤ held_by l p.uses → e l ≡ d l) → Stands g d p j → Stands g e p j
stands_due g d e p j o u s = record {
  vars = s.vars;
  premises = s.premises;
  potential = s.potential;
  fresh = s.fresh;
  provided = s.provided;
  gives = seen_due (defs g) d e p.moment Provider p.own (closed j.gives.1 (whole p.values)) o s.gives;
  uses = seen_dues (defs g) d e p.moment (whole p.values) p.uses j.uses u s.uses;
}

goes_at_due : (t : Table) (d e : Link → Option View) (due : View) (m : ℕ) (next : Link) (w : Way) → e next ≡ d next → GoesAt t d due m next w → GoesAt t e due m next w
goes_at_due t d e due m next w q h = record { part = h.part; is = h.is; up = seen_due t d e m Provider next h.part q h.up; down = seen_due t d e m Client next h.part q h.down }

-- which links a message's continuation speaks of
goes_due : (t : Table) (d e : Link → Option View) (due : View) (m : ℕ) (link next : Link) (b : Body) → ((b ≡ End → ⊥) → e next ≡ d next) → ((c : Link) → b ≡ Chan c → e c ≡ d c) → Goes t d due m link next b → Goes t e due m link next b
goes_due t d e due m link next (Label l) q r h = goes_at_due t d e due m next (ByLabel l) (q (λ x. cc)) h
goes_due t d e due m link next End q r h = h
goes_due t d e due m link next (Chan c) q r h = (goes_at_due t d e due m next Second (q (λ x. cc)) h.0, record { part = h.1.part; is = h.1.is; seen = seen_due t d e m Client c h.1.part (r c refl) h.1.seen })
goes_due t d e due m link next (Nat n) q r h = goes_at_due t d e due m next (At n) (q (λ x. cc)) h
goes_due t d e due m link next Assert q r h = goes_at_due t d e due m next Inner (q (λ x. cc)) h
goes_due t d e due m link next Pay q r h = goes_at_due t d e due m next Inner (q (λ x. cc)) h

pub msg_due : (t : Table) (d e : Link → Option View) (m : Msg) → e m.link ≡ d m.link → ((m.body ≡ End → ⊥) → e m.next ≡ d m.next) → ((c : Link) → m.body ≡ Chan c → e c ≡ d c) → MsgFine t d m → MsgFine t e m
msg_due t d e m q r s f = record { due = f.due; is = q ∙ f.is; proper = f.proper; toward = f.toward; body = f.body; moment = f.moment; goes = goes_due t d e f.due m.moment m.link m.next m.body r s f.goes }

-- ---- lists of items

msg_touches : (l : Link) (m : Msg) (s : Side) → m.toward ≡ s → (m.link ≡ l) ⊎ ((m.body ≡ End → ⊥) × (m.next ≡ l)) ⊎ (m.body ≡ Chan l) → 1 ≤ times l (uses (M m)) + hit l (provides (M m))
msg_touches l m Client e (inl x) = omega (arith, gives_client m e l, hit_of l m.link x)
msg_touches l m Provider e (inl x) = omega (arith, uses_provider m e l, hit_of l m.link x)
msg_touches l m Client e (inr (inl x)) = omega (arith, uses_client m e l, continued_some m.body m.next l x.0, hit_of l m.next x.1)
msg_touches l m Provider e (inr (inl x)) = omega (arith, gives_provider m e l, hit_of l m.next x.1)
msg_touches l m Client e (inr (inr x)) = omega (arith, uses_client m e l, ap (λ b. times l (carried b)) x, hit_self l)
msg_touches l m Provider e (inr (inr x)) = omega (arith, uses_provider m e l, ap (λ b. times l (carried b)) x, hit_self l)

item_dues : (g : Program) (d e : Link → Option View) (i : Item) → ((l : Link) → 1 ≤ times l (uses i) + hit l (provides i) → e l ≡ d l) → ItemFine g d i → ItemFine g e i
item_dues g d e (P p) q h = (h.0, h.1, stands_due g d e p h.0 (q p.own (omega (arith, hit_self p.own))) (λ l o. q l (omega (arith, o))) h.2)
item_dues g d e (M m) q h = msg_due (defs g) d e m (q m.link (msg_touches m.link m m.toward refl (inl refl))) (λ n. q m.next (msg_touches m.next m m.toward refl (inr (inl (n, refl))))) (λ c b. q c (msg_touches c m m.toward refl (inr (inr b)))) h

-- where what is due stays the same on each link that is used or provided
pub fine_dues : (g : Program) (d e : Link → Option View) (items : List Item) → ((l : Link) → 1 ≤ used l items + provided l items → e l ≡ d l) → AllFine g d items → AllFine g e items
fine_dues g d e [] q h = tt
fine_dues g d e (i ∷ is) q h = (item_dues g d e i (λ l o. q l (omega (arith, o))) h.0, fine_dues g d e is (λ l o. q l (omega (arith, o))) h.1)

-- ---- what is promised of an item

served : (g : Program) (d : Link → Option View) (p : Proc) (us : List (ℕ × Link)) (as' : List (ℕ × Ty)) → AreSeen (defs g) d p.moment (whole p.values) us as' → AreServed (defs g) d p us as'
served g d p [] [] h = tt
served g d p [] (a ∷ as') h = absurd h
served g d p (u ∷ us) [] h = absurd h
served g d p (u ∷ us) (a ∷ as') h =
    (h.0, subst (λ v. ServesView (defs g) v (Some (view p.moment (closed a.1 (whole p.values))))) (sym h.1.is) h.1.ties, served g d p us as' h.2)

stands_typed : (g : Program) (d : Link → Option View) (p : Proc) (j : Judgement) → Stands g d p j → IsTyped g d p j
stands_typed g d p j s = record {
  vars = s.vars;
  premises = s.premises;
  potential = s.potential;
  fresh = s.fresh;
  provided = s.provided;
  gives = subst (ServesView (defs g) (own_view p j)) (sym s.gives.is) s.gives.ties;
  uses = served g d p p.uses j.uses s.uses;
}

mutual_at : (t : Table) (d : Link → Option View) (due : View) (m : ℕ) (next : Link) (w : Way) → GoesAt t d due m next w → Mutual t (d next) (view_some m (part_of (head t due) w))
mutual_at t d due m next w h =
    subst₂ (Mutual t) (sym h.down.is) (ap (view_some m) (sym h.is)) (h.down.ties, subst (λ x. Serves t (view m h.part) x) (some_same (d next) h.up.is h.down.is) h.up.ties)

carried_at : (t : Table) (d : Link → Option View) (due : View) (m : ℕ) (c : Link) → CarriesAt t d due m c → ServesView t (d c) (view_some m (part_of (head t due) First))
carried_at t d due m c h = subst₂ (ServesView t) (sym h.seen.is) (ap (view_some m) (sym h.is)) h.seen.ties

goes_part : (t : Table) (d : Link → Option View) (due : View) (m : ℕ) (link next : Link) (b : Body) → Goes t d due m link next b → HasPart (head t due) b
goes_part t d due m link next (Label l) h = (h.part, h.is)
goes_part t d due m link next End h = tt
goes_part t d due m link next (Chan c) h = (h.0.part, h.0.is)
goes_part t d due m link next (Nat n) h = (h.part, h.is)
goes_part t d due m link next Assert h = (h.part, h.is)
goes_part t d due m link next Pay h = (h.part, h.is)

goes_carried : (t : Table) (d : Link → Option View) (due : View) (m : ℕ) (link next : Link) (b : Body) → Goes t d due m link next b → FitsCarried t d (head t due) m b
goes_carried t d due m link next (Label l) h = tt
goes_carried t d due m link next End h = tt
goes_carried t d due m link next (Chan c) h = carried_at t d due m c h.1
goes_carried t d due m link next (Nat n) h = tt
goes_carried t d due m link next Assert h = tt
goes_carried t d due m link next Pay h = tt

pub msg_fits : (t : Table) (d : Link → Option View) (m : Msg) (f : MsgFine t d m) → Fits t d f.due m.body m.toward m.moment m.potential
msg_fits t d m f = record { toward = f.toward; body = f.body; part = goes_part t d f.due m.moment m.link m.next m.body f.goes; carried = goes_carried t d f.due m.moment m.link m.next m.body f.goes; moment = f.moment }

goes_next : (t : Table) (d : Link → Option View) (due : View) (m : Msg) (b : Body) → m.body ≡ b → Goes t d due m.moment m.link m.next b → FitsNext t d due m b
goes_next t d due m (Label l) e h = subst (λ x. Mutual t (d m.next) (next_view t (Some due) x m.moment)) (sym e) (mutual_at t d due m.moment m.next (ByLabel l) h)
goes_next t d due m End e h = h
goes_next t d due m (Chan c) e h = subst (λ x. Mutual t (d m.next) (next_view t (Some due) x m.moment)) (sym e) (mutual_at t d due m.moment m.next Second h.0)
goes_next t d due m (Nat n) e h = subst (λ x. Mutual t (d m.next) (next_view t (Some due) x m.moment)) (sym e) (mutual_at t d due m.moment m.next (At n) h)
goes_next t d due m Assert e h = subst (λ x. Mutual t (d m.next) (next_view t (Some due) x m.moment)) (sym e) (mutual_at t d due m.moment m.next Inner h)
goes_next t d due m Pay e h = subst (λ x. Mutual t (d m.next) (next_view t (Some due) x m.moment)) (sym e) (mutual_at t d due m.moment m.next Inner h)

item_typed : (g : Program) (d : Link → Option View) (i : Item) → ItemFine g d i → IsItemTyped g d i
item_typed g d (P p) h = (h.0, h.1, stands_typed g d p h.0 h.2)
item_typed g d (M m) h = subst (λ v. FitsMsg (defs g) d v m) (sym h.is) (msg_fits (defs g) d m h, goes_next (defs g) d h.due m m.body refl h.goes)

pub all_typed : (g : Program) (d : Link → Option View) (items : List Item) → AllFine g d items → All (IsItemTyped g d) items
all_typed g d [] h = All-nil (IsItemTyped g d)
all_typed g d (i ∷ is) h = All-cons (IsItemTyped g d) i is (item_typed g d i h.0) (all_typed g d is h.1)
