-- Each message that was sent fits what was due, and that stays so.
use Rattle.std.proofs.Common.{◌≡◌, ℕ, ◌≤◌, ◌+◌, List, [], ◌∷◌, ◌++◌, Option, Some, None, refl, sym, ap, ◌∙◌, subst, arith, append_assoc}
use Rattle.std.specs.List.{All}
use Rattle.std.proofs.lemmas.List.Elements.{All-nil, All-cons}
use Rattle.rast_types.specs.Closed.{View, head, part_of, First, Closed}
use Rattle.rast_terms.specs.declared.program.Program.{Program}
use Rattle.rast_rules.specs.Rules.{defs}
use Rattle.rast_items.specs.Items.{provides, uses, carried, msg_gives, hit, times, provided, used}
use Rattle.rast_items.specs.Deeds.{Code}
use Rattle.rast_items.specs.Step.{rest_items, put_beside, moved}
use Rattle.rast_items.specs.Run.{Birth}
use Rattle.rast_laws.specs.Typed.{due, Fits, FitsCarried, ServesView, view_some, IsSendTyped}
use Rattle.rast_order.proofs.Words.{Link, Pid, Item, P, M, Proc, Msg, Side, Client, Provider, Body, Label, End, Chan, Nat, Assert, Pay, Event, Send, Take, Move, Spawn, Call, Work, Delay}
use Rattle.rast_order.proofs.Counts.{provided-append, used-append, hit_self}
use Rattle.rast_order.proofs.Keeps.{uses_client, uses_provider}
use Rattle.rast_order.proofs.View.{StepView, puts, takes_client, takes_provider, moves_client, moves_provider, makes, stays, Alone, Turning, Working, Delaying, alone_event}
use Rattle.rast_laws.proofs.Fine.{MsgFine, fine_right, msg_fits}
use Rattle.rast_laws.proofs.Dues.{Settled, settled_more, due_stays}
use Rattle.rast_laws.proofs.Whole.{Whole, touched_settled}

-- the link of a message and the link that it carries are settled
pub record SentFine (g : Program) (es : List Event) (births : List Birth) (link : Link) (b : Body) (m q : ℕ) : Type 0 where
  pub due' : View
  pub is : due g es births link ≡ Some due'
  pub side : Side
  pub fits : Fits (defs g) (due g es births) due' b side m q
  pub settled : Settled es births link
  pub carried : (c : Link) → b ≡ Chan c → Settled es births c

abbrev pub SendFine : Program → List Event → List Birth → Event → Type 0
SendFine g es births (Send pid link body moment potential) = SentFine g es births link body moment potential
SendFine g es births (Move pid from to body moment) = (q : ℕ) × SentFine g es births to body moment q
SendFine g es births (Take pid link body moment) = Unit {0}
SendFine g es births (Spawn pid child decl moment) = Unit {0}
SendFine g es births (Call pid decl moment) = Unit {0}
SendFine g es births (Work pid amount moment) = Unit {0}
SendFine g es births (Delay pid ticks moment) = Unit {0}

abbrev pub AllSent : Program → List Event → List Birth → List Event → Type 0
AllSent g es births [] = Unit {0}
AllSent g es births (e ∷ past) = SendFine g es births e × AllSent g es births past

-- ---- it stays so

carried_stays : (g : Program) (d e : Link → Option View) (h : Closed) (m : ℕ) (b : Body) → ((c : Link) → b ≡ Chan c → e c ≡ d c) → FitsCarried (defs g) d h m b → FitsCarried (defs g) e h m b
carried_stays g d e h m (Label l) q f = tt
carried_stays g d e h m End q f = tt
carried_stays g d e h m (Chan c) q f = subst (λ v. ServesView (defs g) v (view_some m (part_of h First))) (sym (q c refl)) f
carried_stays g d e h m (Nat n) q f = tt
carried_stays g d e h m Assert q f = tt
carried_stays g d e h m Pay q f = tt

sent_stays : (g : Program) (es : List Event) (births more : List Birth) (e : Event) (link : Link) (b : Body) (m q : ℕ) → SentFine g es births link b m q → SentFine g (es ++ e ∷ []) (births ++ more) link b m q
sent_stays g es births more e link b m q s = record {
  due' = s.due';
  is = due_stays g es births more e link s.settled ∙ s.is;
  side = s.side;
  fits = record { toward = s.fits.toward; body = s.fits.body; part = s.fits.part; carried = carried_stays g (due g es births) (due g (es ++ e ∷ []) (births ++ more)) (head (defs g) s.due') m b (λ c x. due_stays g es births more e c (s.carried c x)) s.fits.carried; moment = s.fits.moment };
  settled = settled_more es births more e link s.settled;
  carried = λ c x. settled_more es births more e c (s.carried c x);
}

send_stays : (g : Program) (es : List Event) (births more : List Birth) (e x : Event) → SendFine g es births x → SendFine g (es ++ e ∷ []) (births ++ more) x
send_stays g es births more e (Send pid link body moment potential) s = sent_stays g es births more e link body moment potential s
send_stays g es births more e (Move pid from to body moment) s = (s.0, sent_stays g es births more e to body moment s.0 s.1)
send_stays g es births more e (Take pid link body moment) s = tt
send_stays g es births more e (Spawn pid child decl moment) s = tt
send_stays g es births more e (Call pid decl moment) s = tt
send_stays g es births more e (Work pid amount moment) s = tt
send_stays g es births more e (Delay pid ticks moment) s = tt

pub all_stay : (g : Program) (es : List Event) (births more : List Birth) (e : Event) (past : List Event) → AllSent g es births past → AllSent g (es ++ e ∷ []) (births ++ more) past
all_stay g es births more e [] h = tt
all_stay g es births more e (x ∷ past) h = (send_stays g es births more e x h.0, all_stay g es births more e past h.1)

pub all_more : (g : Program) (es : List Event) (births : List Birth) (past : List Event) (e : Event) → AllSent g es births past → SendFine g es births e → AllSent g es births (past ++ e ∷ [])
all_more g es births [] e h s = (s, tt)
all_more g es births (x ∷ past) e h s = (h.0, all_more g es births past e h.1 s)

-- ---- a message that was just put fits

carries_touched : (l : Link) (m : Msg) (s : Side) → m.toward ≡ s → m.body ≡ Chan l → 1 ≤ times l (uses (M m))
carries_touched l m Client e x = omega (arith, uses_client m e l, ap (λ b. times l (carried b)) x, hit_self l)
carries_touched l m Provider e x = omega (arith, uses_provider m e l, ap (λ b. times l (carried b)) x, hit_self l)

msg_sent : (c : Code) (es : List Event) (births : List Birth) (items : List Item) (m : Msg) → Whole c es births items → MsgFine (defs c.program) (due c.program es births) m → 1 ≤ used m.link items + provided m.link items → ((l : Link) → times l (uses (M m)) ≤ used l items) → SentFine c.program es births m.link m.body m.moment m.potential
msg_sent c es births items m w f t u = record {
  due' = f.due;
  is = f.is;
  side = m.toward;
  fits = msg_fits (defs c.program) (due c.program es births) m f;
  settled = touched_settled c es births items w m.link t;
  carried = λ l x. touched_settled c es births items w l (omega (arith, u l, carries_touched l m m.toward refl x));
}

msg_link : (m : Msg) (s : Side) → m.toward ≡ s → 1 ≤ times m.link (uses (M m)) + hit m.link (provides (M m))
msg_link m Client e = omega (arith, hit_self m.link, ap (λ s. hit m.link (msg_gives s m)) e)
msg_link m Provider e = omega (arith, uses_provider m e m.link, hit_self m.link)

-- a message in a list
msg_in : (c : Code) (es : List Event) (births : List Birth) (front back : List Item) (m : Msg) → Whole c es births (front ++ (M m ∷ back)) → SentFine c.program es births m.link m.body m.moment m.potential
msg_in c es births front back m w =
    msg_sent c es births (front ++ (M m ∷ back)) m w (fine_right c.program (due c.program es births) front (M m ∷ back) w.fine).0
    (omega (arith, msg_link m m.toward refl, used-append front (M m ∷ back) m.link, provided-append front (M m ∷ back) m.link))
    (λ l. omega (arith, used-append front (M m ∷ back) l))

put_in : (c : Code) (es : List Event) (births : List Birth) (before after : List Item) (m : Msg) (s : Side) (rest : Option Proc) → Whole c es births (before ++ (put_beside s m (rest_items rest) ++ after)) → SentFine c.program es births m.link m.body m.moment m.potential
put_in c es births before after m Client rest w = msg_in c es births before (rest_items rest ++ after) m w
put_in c es births before after m Provider None w = msg_in c es births before after m w
put_in c es births before after m Provider (Some q) w = msg_in c es births (before ++ P q ∷ []) after m (subst (Whole c es births) (sym (append_assoc before (P q ∷ []) (M m ∷ after))) w)

alone_sent : (g : Program) (es : List Event) (births : List Birth) (w : Alone) (p : Pid) (rest : Proc) → SendFine g es births (alone_event w p rest)
alone_sent g es births (Turning n) p rest = tt
alone_sent g es births (Working q) p rest = tt
alone_sent g es births (Delaying t) p rest = tt

-- what a step sent fits after it
pub step_sent : (c : Code) (k : ℕ) (pid : Pid) (items new : List Item) (e : Event) (es : List Event) (births : List Birth) → StepView c k pid items new e → Whole c es births new → SendFine c.program es births e
step_sent c k pid items new e es births (puts v) w = subst (SendFine c.program es births) (sym v.event) (put_in c es births v.before v.after v.m v.m.toward v.rest (subst (Whole c es births) v.now w))
step_sent c k pid items new e es births (takes_client v) w = subst (SendFine c.program es births) (sym v.event) tt
step_sent c k pid items new e es births (takes_provider v) w = subst (SendFine c.program es births) (sym v.event) tt
step_sent c k pid items new e es births (moves_client v) w =
    let x : Whole c es births ((v.before ++ v.between) ++ (M (moved v.m v.p.own) ∷ v.after)) = subst (Whole c es births) (v.now ∙ sym (append_assoc v.before v.between (M (moved v.m v.p.own) ∷ v.after))) w in
    subst (SendFine c.program es births) (sym v.event) (v.m.potential, msg_in c es births (v.before ++ v.between) v.after (moved v.m v.p.own) x)
step_sent c k pid items new e es births (moves_provider v) w =
    subst (SendFine c.program es births) (sym v.event) (v.m.potential, msg_in c es births v.before (v.between ++ v.after) (moved v.m v.other) (subst (Whole c es births) v.now w))
step_sent c k pid items new e es births (makes v) w = subst (SendFine c.program es births) (sym v.event) tt
step_sent c k pid items new e es births (stays v) w = subst (SendFine c.program es births) (sym v.event) (alone_sent c.program es births v.way v.p.pid v.rest)

-- ---- what is promised of the events

send_typed : (g : Program) (es : List Event) (births : List Birth) (e : Event) → SendFine g es births e → IsSendTyped g es births e
send_typed g es births (Send pid link body moment potential) s = (s.due', s.side, s.is, s.fits)
send_typed g es births (Move pid from to body moment) s = (s.1.due', s.1.side, s.0, s.1.is, s.1.fits)
send_typed g es births (Take pid link body moment) s = tt
send_typed g es births (Spawn pid child decl moment) s = tt
send_typed g es births (Call pid decl moment) s = tt
send_typed g es births (Work pid amount moment) s = tt
send_typed g es births (Delay pid ticks moment) s = tt

pub sends_typed : (g : Program) (es : List Event) (births : List Birth) (past : List Event) → AllSent g es births past → All (IsSendTyped g es births) past
sends_typed g es births [] h = All-nil (IsSendTyped g es births)
sends_typed g es births (e ∷ past) h = All-cons (IsSendTyped g es births) e past (send_typed g es births e h.0) (sends_typed g es births past h.1)
