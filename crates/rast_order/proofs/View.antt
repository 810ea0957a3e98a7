-- The step, by kinds, with the lists cut where they change.
use Rattle.std.proofs.Common.{◌≡◌, ℕ, Bool, true, false, List, [], ◌∷◌, ◌++◌, Option, Some, None, arith, refl, sym, ap, ◌∙◌, append_assoc, if◌then◌else◌}
use Rattle.rast_items.specs.Items.{same_link, same_side}
use Rattle.rast_items.specs.Deeds.{Code, Deed, Puts, Takes, Moves, Makes, Turns, Works, Delays, Halts, Breaks, deed, after_take}
use Rattle.rast_items.specs.Step.{Ready, Cut, cut, cut_more, is_proc, is_msg, rest_items, put_beside, take_it, take_from, move_it, moved, take_client, take_provider, take_side, move_provider, move_client, does, at_item, at_cut, step}
use Rattle.rast_order.proofs.Words.{Link, Pid, Proc, Msg, Item, P, M, Side, Client, Provider, Event, Send, Take, Move, Spawn, Call, Work, Delay}
use Rattle.rast_order.proofs.Counts.{and_left, same_link_is, same_pid_is}
use Rattle.rast_order.proofs.Received.{some_to, took_over}

pub record IsCut (test : Item → Bool) (items : List Item) (c : Cut) : Type 0 where
  pub is : items ≡ c.before ++ (c.item ∷ c.after)
  pub passes : test c.item ≡ true

cut_later : (test : Item → Bool) (i : Item) (is : List Item) (c : Cut) (o : Option Cut) → ((d : Cut) → o ≡ Some d → IsCut test is d) → cut_more i o ≡ Some c → IsCut test (i ∷ is) c
cut_later test i is c None h e = cc
cut_later test i is c (Some d) h e = let k : IsCut test is d = h d refl in record { is = grind (arith, k); passes = grind (arith, k) }

cut_first : (test : Item → Bool) (i : Item) (is : List Item) (c : Cut) (b : Bool) → test i ≡ b → ((d : Cut) → cut test is ≡ Some d → IsCut test is d) → (if b then Some (record { before = []; item = i; after = is }) else cut_more i (cut test is)) ≡ Some c → IsCut test (i ∷ is) c
cut_first test i is c true t h e = some_to (IsCut test (i ∷ is)) _ c e (record { is = refl; passes = t })
cut_first test i is c false t h e = cut_later test i is c (cut test is) h e

pub cut_is : (test : Item → Bool) (items : List Item) (c : Cut) → cut test items ≡ Some c → IsCut test items c
cut_is test [] c e = cc
cut_is test (i ∷ is) c e = cut_first test i is c (test i) refl (cut_is test is) e

-- ---- the ways in which a step changes the list

pub record PutStep (c : Code) (k : ℕ) (pid : Pid) (items new : List Item) (e : Event) : Type 0 where
  pub before : List Item
  pub after : List Item
  pub p : Proc
  pub m : Msg
  pub rest : Option Proc
  pub here : p.pid ≡ pid
  pub does : deed c k p ≡ Puts m rest
  pub was : items ≡ before ++ (P p ∷ after)
  pub now : new ≡ before ++ (put_beside m.toward m (rest_items rest) ++ after)
  pub event : e ≡ Send p.pid m.link m.body m.moment m.potential

pub record TakeClient (c : Code) (k : ℕ) (pid : Pid) (items new : List Item) (e : Event) : Type 0 where
  pub before : List Item
  pub between : List Item
  pub after : List Item
  pub p : Proc
  pub m : Msg
  pub q : Proc
  pub here : p.pid ≡ pid
  pub does : deed c k p ≡ Takes m.link Client
  pub toward : m.toward ≡ Client
  pub leaves : after_take c p m ≡ Some q
  pub was : items ≡ before ++ (P p ∷ (between ++ (M m ∷ after)))
  pub now : new ≡ before ++ (P q ∷ (between ++ after))
  pub event : e ≡ Take p.pid m.link m.body q.moment

pub record TakeProvider (c : Code) (k : ℕ) (pid : Pid) (items new : List Item) (e : Event) : Type 0 where
  pub before : List Item
  pub between : List Item
  pub after : List Item
  pub p : Proc
  pub m : Msg
  pub q : Proc
  pub here : p.pid ≡ pid
  pub does : deed c k p ≡ Takes m.link Provider
  pub toward : m.toward ≡ Provider
  pub leaves : after_take c p m ≡ Some q
  pub was : items ≡ before ++ (M m ∷ (between ++ (P p ∷ after)))
  pub now : new ≡ before ++ (P q ∷ (between ++ after))
  pub event : e ≡ Take p.pid m.link m.body q.moment

pub record MoveClient (c : Code) (k : ℕ) (pid : Pid) (items new : List Item) (e : Event) : Type 0 where
  pub before : List Item
  pub between : List Item
  pub after : List Item
  pub p : Proc
  pub m : Msg
  pub wait : Link
  pub here : p.pid ≡ pid
  pub does : deed c k p ≡ Moves m.link wait
  pub toward : m.toward ≡ Client
  pub was : items ≡ before ++ (P p ∷ (between ++ (M m ∷ after)))
  pub now : new ≡ before ++ (between ++ (M (moved m p.own) ∷ after))
  pub event : e ≡ Move p.pid m.link p.own m.body m.moment

pub record MoveProvider (c : Code) (k : ℕ) (pid : Pid) (items new : List Item) (e : Event) : Type 0 where
  pub before : List Item
  pub between : List Item
  pub after : List Item
  pub p : Proc
  pub m : Msg
  pub other : Link
  pub wait : Link
  pub here : p.pid ≡ pid
  pub does : deed c k p ≡ Moves other wait
  pub toward : m.toward ≡ Provider
  pub link : m.link ≡ p.own
  pub was : items ≡ before ++ (M m ∷ (between ++ (P p ∷ after)))
  pub now : new ≡ before ++ (M (moved m other) ∷ (between ++ after))
  pub event : e ≡ Move p.pid m.link other m.body m.moment

pub record MakeStep (c : Code) (k : ℕ) (pid : Pid) (items new : List Item) (e : Event) : Type 0 where
  pub before : List Item
  pub after : List Item
  pub p : Proc
  pub child : Proc
  pub rest : Proc
  pub decl : ℕ
  pub here : p.pid ≡ pid
  pub does : deed c k p ≡ Makes child rest decl
  pub was : items ≡ before ++ (P p ∷ after)
  pub now : new ≡ before ++ (P rest ∷ P child ∷ after)
  pub event : e ≡ Spawn p.pid child.pid decl rest.moment

-- what a process does that touches no channel and no other item
pub data Alone : Type 0 where
  Turning : (decl : ℕ) → Alone
  Working : (amount : ℕ) → Alone
  Delaying : (ticks : ℕ) → Alone

abbrev pub alone_deed : Alone → Proc → Deed
alone_deed (Turning d) rest = Turns rest d
alone_deed (Working q) rest = Works q rest
alone_deed (Delaying t) rest = Delays t rest

abbrev pub alone_event : Alone → Pid → Proc → Event
alone_event (Turning d) pid rest = Call pid d rest.moment
alone_event (Working q) pid rest = Work pid q rest.moment
alone_event (Delaying t) pid rest = Delay pid t rest.moment

pub record StayStep (c : Code) (k : ℕ) (pid : Pid) (items new : List Item) (e : Event) : Type 0 where
  pub before : List Item
  pub after : List Item
  pub p : Proc
  pub rest : Proc
  pub way : Alone
  pub here : p.pid ≡ pid
  pub does : deed c k p ≡ alone_deed way rest
  pub was : items ≡ before ++ (P p ∷ after)
  pub now : new ≡ before ++ (P rest ∷ after)
  pub event : e ≡ alone_event way p.pid rest

pub data StepView (c : Code) (k : ℕ) (pid : Pid) (items new : List Item) (e : Event) : Type 0 where
  puts : PutStep c k pid items new e → StepView c k pid items new e
  takes_client : TakeClient c k pid items new e → StepView c k pid items new e
  takes_provider : TakeProvider c k pid items new e → StepView c k pid items new e
  moves_client : MoveClient c k pid items new e → StepView c k pid items new e
  moves_provider : MoveProvider c k pid items new e → StepView c k pid items new e
  makes : MakeStep c k pid items new e → StepView c k pid items new e
  stays : StayStep c k pid items new e → StepView c k pid items new e

-- ---- a message that was looked for

pub same_side_is : (s t : Side) → same_side s t ≡ true → s ≡ t
same_side_is Client Client h = refl
same_side_is Client Provider h = cc
same_side_is Provider Client h = cc
same_side_is Provider Provider h = refl

-- a message on this link toward this side
pub record IsMsg (l : Link) (s : Side) (m : Msg) : Type 0 where
  pub link : m.link ≡ l
  pub toward : m.toward ≡ s

pub is_msg_is : (l : Link) (s : Side) (m : Msg) → is_msg l s (M m) ≡ true → IsMsg l s m
is_msg_is l s m h =
    let k = and_left (same_link m.link l) (same_side m.toward s) h in
    record { link = same_link_is m.link l k.0; toward = same_side_is m.toward s k.1 }

-- two answers that are the same event and list
ready : (e f : Event) (a b : List Item) → Ready e a ≡ Ready f b → (f ≡ e) × (b ≡ a)
ready e f a b h = ((cc), (cc))

-- ---- takes

-- what a take did
pub record TookIt (c : Code) (p : Proc) (m : Msg) (f : Proc → List Item) (e : Event) (new : List Item) : Type 0 where
  pub q : Proc
  pub leaves : after_take c p m ≡ Some q
  pub now : new ≡ f q
  pub event : e ≡ Take p.pid m.link m.body q.moment

took_it : (c : Code) (p : Proc) (m : Msg) (f : Proc → List Item) (e : Event) (new : List Item) (o : Option Proc) → after_take c p m ≡ o → take_it f m o ≡ Ready e new → TookIt c p m f e new
took_it c p m f e new None a r = cc
took_it c p m f e new (Some q) a r =
    let k = ready _ e _ new r in
    record { q = q; leaves = a; now = k.1; event = k.0 ∙ ap (λ (x : Pid). Take x m.link m.body q.moment) (took_over c p q m a).pid }

view_client : (c : Code) (k : ℕ) (pid : Pid) (items new : List Item) (e : Event) (before : List Item) (p : Proc) (after : List Item) (l : Link) → deed c k p ≡ Takes l Client → p.pid ≡ pid → items ≡ before ++ (P p ∷ after) → (b : List Item) (i : Item) (a : List Item) → after ≡ b ++ (i ∷ a) → is_msg l Client i ≡ true → take_from c p (λ q. before ++ (P q ∷ (b ++ a))) i ≡ Ready e new → StepView c k pid items new e
view_client c k pid items new e before p after l d h was b (P q) a ct t r = cc
view_client c k pid items new e before p after l d h was b (M m) a ct t r =
    let i = is_msg_is l Client m t in
    let tk = took_it c p m (λ q. before ++ (P q ∷ (b ++ a))) e new (after_take c p m) refl r in
    takes_client (record { before = before; between = b; after = a; p = p; m = m; q = tk.q; here = h; does = d ∙ ap (λ x. Takes x Client) (sym i.link); toward = i.toward; leaves = tk.leaves; was = was ∙ ap (λ x. before ++ (P p ∷ x)) ct; now = tk.now; event = tk.event })

view_provider : (c : Code) (k : ℕ) (pid : Pid) (items new : List Item) (e : Event) (before : List Item) (p : Proc) (after : List Item) (l : Link) → deed c k p ≡ Takes l Provider → p.pid ≡ pid → items ≡ before ++ (P p ∷ after) → (b : List Item) (i : Item) (a : List Item) → before ≡ b ++ (i ∷ a) → is_msg l Provider i ≡ true → take_from c p (λ q. b ++ (P q ∷ (a ++ after))) i ≡ Ready e new → StepView c k pid items new e
view_provider c k pid items new e before p after l d h was b (P q) a ct t r = cc
view_provider c k pid items new e before p after l d h was b (M m) a ct t r =
    let i = is_msg_is l Provider m t in
    let tk = took_it c p m (λ q. b ++ (P q ∷ (a ++ after))) e new (after_take c p m) refl r in
    takes_provider (record { before = b; between = a; after = after; p = p; m = m; q = tk.q; here = h; does = d ∙ ap (λ x. Takes x Provider) (sym i.link); toward = i.toward; leaves = tk.leaves; was = was ∙ (ap (λ x. x ++ (P p ∷ after)) ct ∙ append_assoc b _ _); now = tk.now; event = tk.event })

view_takes : (c : Code) (k : ℕ) (pid : Pid) (items new : List Item) (e : Event) (before : List Item) (p : Proc) (after : List Item) (l : Link) (s : Side) → deed c k p ≡ Takes l s → p.pid ≡ pid → items ≡ before ++ (P p ∷ after) → take_side c before p after l s ≡ Ready e new → StepView c k pid items new e
view_takes c k pid items new e before p after l Client d h was r = found (cut (is_msg l Client) after) (cut_is (is_msg l Client) after) r
  where
    found : (o : Option Cut) → ((t : Cut) → o ≡ Some t → IsCut (is_msg l Client) after t) → take_client c before p l o ≡ Ready e new → StepView c k pid items new e
    found None f q = cc
    found (Some t) f q = view_client c k pid items new e before p after l d h was t.before t.item t.after (f t refl).is (f t refl).passes q
view_takes c k pid items new e before p after l Provider d h was r = found (cut (is_msg l Provider) before) (cut_is (is_msg l Provider) before) r
  where
    found : (o : Option Cut) → ((t : Cut) → o ≡ Some t → IsCut (is_msg l Provider) before t) → take_provider c p l o after ≡ Ready e new → StepView c k pid items new e
    found None f q = cc
    found (Some t) f q = view_provider c k pid items new e before p after l d h was t.before t.item t.after (f t refl).is (f t refl).passes q

-- ---- moves

view_move_client : (c : Code) (k : ℕ) (pid : Pid) (items new : List Item) (e : Event) (before : List Item) (p : Proc) (after : List Item) (l w : Link) → deed c k p ≡ Moves l w → p.pid ≡ pid → items ≡ before ++ (P p ∷ after) → (b : List Item) (i : Item) (a : List Item) → after ≡ b ++ (i ∷ a) → is_msg l Client i ≡ true → move_it (λ m. before ++ (b ++ (M m ∷ a))) p.own p.pid i ≡ Ready e new → StepView c k pid items new e
view_move_client c k pid items new e before p after l w d h was b (P q) a ct t r = cc
view_move_client c k pid items new e before p after l w d h was b (M m) a ct t r =
    let i = is_msg_is l Client m t in
    let f = ready _ e _ new r in
    moves_client (record { before = before; between = b; after = a; p = p; m = m; wait = w; here = h; does = d ∙ ap (λ x. Moves x w) (sym i.link); toward = i.toward; was = was ∙ ap (λ x. before ++ (P p ∷ x)) ct; now = f.1; event = f.0 })

view_move_provider : (c : Code) (k : ℕ) (pid : Pid) (items new : List Item) (e : Event) (before : List Item) (p : Proc) (after : List Item) (other w : Link) → deed c k p ≡ Moves other w → p.pid ≡ pid → items ≡ before ++ (P p ∷ after) → (b : List Item) (i : Item) (a : List Item) → before ≡ b ++ (i ∷ a) → is_msg p.own Provider i ≡ true → move_it (λ m. b ++ (M m ∷ (a ++ after))) other p.pid i ≡ Ready e new → StepView c k pid items new e
view_move_provider c k pid items new e before p after other w d h was b (P q) a ct t r = cc
view_move_provider c k pid items new e before p after other w d h was b (M m) a ct t r =
    let i = is_msg_is p.own Provider m t in
    let f = ready _ e _ new r in
    moves_provider (record { before = b; between = a; after = after; p = p; m = m; other = other; wait = w; here = h; does = d; toward = i.toward; link = i.link; was = was ∙ (ap (λ x. x ++ (P p ∷ after)) ct ∙ append_assoc b _ _); now = f.1; event = f.0 })

view_moves : (c : Code) (k : ℕ) (pid : Pid) (items new : List Item) (e : Event) (before : List Item) (p : Proc) (after : List Item) (l w : Link) → deed c k p ≡ Moves l w → p.pid ≡ pid → items ≡ before ++ (P p ∷ after) → move_client before p l w (cut (is_msg l Client) after) after ≡ Ready e new → StepView c k pid items new e
view_moves c k pid items new e before p after l w d h was r = found (cut (is_msg l Client) after) (cut_is (is_msg l Client) after) r
  where
    beyond : (o : Option Cut) → ((t : Cut) → o ≡ Some t → IsCut (is_msg p.own Provider) before t) → move_provider p l w o after ≡ Ready e new → StepView c k pid items new e
    beyond None f q = cc
    beyond (Some t) f q = view_move_provider c k pid items new e before p after l w d h was t.before t.item t.after (f t refl).is (f t refl).passes q

    found : (o : Option Cut) → ((t : Cut) → o ≡ Some t → IsCut (is_msg l Client) after t) → move_client before p l w o after ≡ Ready e new → StepView c k pid items new e
    found None f q = beyond (cut (is_msg p.own Provider) before) (cut_is (is_msg p.own Provider) before) q
    found (Some t) f q = view_move_client c k pid items new e before p after l w d h was t.before t.item t.after (f t refl).is (f t refl).passes q

-- ---- each step

view_stays : (c : Code) (k : ℕ) (pid : Pid) (items new : List Item) (e : Event) (before : List Item) (p : Proc) (after : List Item) (w : Alone) (rest : Proc) → deed c k p ≡ alone_deed w rest → p.pid ≡ pid → items ≡ before ++ (P p ∷ after) → Ready (alone_event w p.pid rest) (before ++ (P rest ∷ after)) ≡ Ready e new → StepView c k pid items new e
view_stays c k pid items new e before p after w rest d h was r =
    let f = ready _ e _ new r in stays (record { before = before; after = after; p = p; rest = rest; way = w; here = h; does = d; was = was; now = f.1; event = f.0 })

view : (c : Code) (k : ℕ) (pid : Pid) (items new : List Item) (e : Event) (before : List Item) (p : Proc) (after : List Item) (d : Deed) → deed c k p ≡ d → p.pid ≡ pid → items ≡ before ++ (P p ∷ after) → does c before p after d ≡ Ready e new → StepView c k pid items new e
view c k pid items new e before p after (Puts m rest) d h was r =
    let f = ready _ e _ new r in puts (record { before = before; after = after; p = p; m = m; rest = rest; here = h; does = d; was = was; now = f.1; event = f.0 })
view c k pid items new e before p after (Takes l s) d h was r = view_takes c k pid items new e before p after l s d h was r
view c k pid items new e before p after (Moves other w) d h was r = view_moves c k pid items new e before p after other w d h was r
view c k pid items new e before p after (Makes child rest decl) d h was r =
    let f = ready _ e _ new r in makes (record { before = before; after = after; p = p; child = child; rest = rest; decl = decl; here = h; does = d; was = was; now = f.1; event = f.0 })
view c k pid items new e before p after (Turns rest decl) d h was r = view_stays c k pid items new e before p after (Turning decl) rest d h was r
view c k pid items new e before p after (Works q rest) d h was r = view_stays c k pid items new e before p after (Working q) rest d h was r
view c k pid items new e before p after (Delays t rest) d h was r = view_stays c k pid items new e before p after (Delaying t) rest d h was r
view c k pid items new e before p after (Halts v) d h was r = cc
view c k pid items new e before p after Breaks d h was r = cc

view_item : (c : Code) (k : ℕ) (pid : Pid) (items new : List Item) (e : Event) (b : List Item) (i : Item) (a : List Item) → items ≡ b ++ (i ∷ a) → is_proc pid i ≡ true → at_item c k b i a ≡ Ready e new → StepView c k pid items new e
view_item c k pid items new e b (M m) a was t r = cc
view_item c k pid items new e b (P p) a was t r = view c k pid items new e b p a (deed c k p) refl (same_pid_is p.pid pid t) was r

view_cut : (c : Code) (k : ℕ) (pid : Pid) (items new : List Item) (e : Event) (o : Option Cut) → ((t : Cut) → o ≡ Some t → IsCut (is_proc pid) items t) → at_cut c k o ≡ Ready e new → StepView c k pid items new e
view_cut c k pid items new e None f r = cc
view_cut c k pid items new e (Some t) f r = view_item c k pid items new e t.before t.item t.after (f t refl).is (f t refl).passes r

-- each step is one of these
pub step_view : (c : Code) (k : ℕ) (pid : Pid) (items new : List Item) (e : Event) → step c k pid items ≡ Ready e new → StepView c k pid items new e
step_view c k pid items new e r = view_cut c k pid items new e (cut (is_proc pid) items) (cut_is (is_proc pid) items) r
