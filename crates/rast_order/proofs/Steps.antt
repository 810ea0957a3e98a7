-- Each step keeps what is known of the items and of what was sent and taken.
use mathlib.Core.Path.{fun_ext}
use Rattle.std.proofs.Common.{◌≡◌, ℕ, ◌+◌, List, [], ◌∷◌, ◌++◌, Bool, true, false, if◌then◌else◌, refl, sym, ap, ◌∙◌, subst, subst₂, append-nil, length, length-append}
use Rattle.rast_items.specs.Items.{same_pid, hit}
use Rattle.rast_items.specs.Deeds.{Code, deed}
use Rattle.rast_items.specs.Step.{rest_items, put_beside}
use Rattle.rast_items.specs.Run.{State, Sent, AreApart, sent_by, taken_by, on_session, born, pid_of}
use Rattle.rast_order.proofs.Words.{Link, Pid, Item, P, M, Proc, Msg, Side, Client, Provider, Body, End, Event, Send, Take, Move, Spawn, Call, Work, Delay}
use Rattle.rast_order.proofs.Counts.{on}
use Rattle.rast_order.proofs.Keys.{held_by}
use Rattle.rast_order.proofs.Deeds.{PutSound, TakeSound, MakeSound, SameLinks, DeedSound, deed_sound}
use Rattle.rast_order.proofs.Received.{received}
use Rattle.rast_order.proofs.View.{StepView, puts, takes_client, takes_provider, moves_client, moves_provider, makes, stays, Alone, Turning, Working, Delaying, alone_deed, alone_event}
use Rattle.rast_order.proofs.Messages.{each_right}
use Rattle.rast_order.proofs.Queue.{mark, entries, EndsUp}
use Rattle.rast_order.proofs.Sound.{Sound, put_sound, put_free}
use Rattle.rast_order.proofs.Takes.{take_client_sound, take_provider_sound}
use Rattle.rast_order.proofs.Moves.{move_client_sound, move_provider_sound, move_client_free, move_provider_free}
use Rattle.rast_order.proofs.Makes.{make_sound, stay_sound}

-- how many processes there are after an event
abbrev pub many_after : ℕ → Event → ℕ
many_after k (Spawn pid child decl moment) = k + 1
many_after k e = k

pub born_many : (st : State) (e : Event) (items : List Item) → length (st.births ++ born e items) ≡ many_after (length st.births) e
born_many st (Send pid link body moment potential) items = ap length (append-nil st.births)
born_many st (Take pid link body moment) items = ap length (append-nil st.births)
born_many st (Move pid from to body moment) items = ap length (append-nil st.births)
born_many st (Spawn pid child decl moment) items = length-append st.births (born (Spawn pid child decl moment) items)
born_many st (Call pid decl moment) items = ap length (append-nil st.births)
born_many st (Work pid amount moment) items = ap length (append-nil st.births)
born_many st (Delay pid ticks moment) items = ap length (append-nil st.births)

-- the message that a step takes from a session
abbrev pub took_by : {c : Code} {k : ℕ} {pid : Pid} {items new : List Item} {e : Event} → StepView c k pid items new e → Pid → List Sent
took_by (puts v) s = []
took_by (takes_client v) s = mark s v.m
took_by (takes_provider v) s = mark s v.m
took_by (moves_client v) s = mark s v.m
took_by (moves_provider v) s = mark s v.m
took_by (makes v) s = []
took_by (stays v) s = []

-- what was sent before an event and by it
abbrev pub then_sent : (Pid → List Sent) → Event → Pid → List Sent
then_sent snt e s = snt s ++ sent_by s e

abbrev pub then_taken : (Pid → List Sent) → (Pid → List Sent) → Pid → List Sent
then_taken tkn more s = tkn s ++ more s

-- what holds after an event that took these
abbrev pub After : Link → ℕ → (Pid → List Sent) → (Pid → List Sent) → (Pid → List Sent) → List Item → Event → Type 0
After root many snt tkn more new e = Sound root (many_after many e) (then_sent snt e) (then_taken tkn more) new

pub none_more : (xs : Pid → List Sent) → xs ≡ (λ s. xs s ++ [])
none_more xs = fun_ext (λ s. sym (append-nil (xs s)))

-- from the cut lists to the lists themselves
lift : (root : Link) (many : ℕ) (snt tkn more : Pid → List Sent) (items new was now : List Item) (e f : Event) → items ≡ was → new ≡ now → e ≡ f → Sound root many snt tkn items → (Sound root many snt tkn was → After root many snt tkn more now f) → After root many snt tkn more new e
lift root many snt tkn more items new was now e f w n v s h =
    let r : After root many snt tkn more now f = h (subst (Sound root many snt tkn) w s) in
    subst (λ x. After root many snt tkn more new x) (sym v) (subst (λ x. After root many snt tkn more x f) (sym n) r)

pub alone_links : (c : Code) (k : ℕ) (p rest : Proc) (w : Alone) → deed c k p ≡ alone_deed w rest → SameLinks p rest
alone_links c k p rest (Turning d) e = subst (DeedSound k p) e (deed_sound c k p)
alone_links c k p rest (Working q) e = subst (DeedSound k p) e (deed_sound c k p)
alone_links c k p rest (Delaying t) e = subst (DeedSound k p) e (deed_sound c k p)

-- a step of a process alone sends nothing, and makes nothing
alone_after : (root : Link) (many : ℕ) (snt tkn : Pid → List Sent) (new : List Item) (w : Alone) (pid : Pid) (rest : Proc) → Sound root many snt tkn new → After root many snt tkn (λ s. []) new (alone_event w pid rest)
alone_after root many snt tkn new (Turning d) pid rest s = subst₂ (λ x y. Sound root many x y new) (none_more snt) (none_more tkn) s
alone_after root many snt tkn new (Working q) pid rest s = subst₂ (λ x y. Sound root many x y new) (none_more snt) (none_more tkn) s
alone_after root many snt tkn new (Delaying t) pid rest s = subst₂ (λ x y. Sound root many x y new) (none_more snt) (none_more tkn) s

not_both : (s : Side) → s ≡ Provider → s ≡ Client → ⊥
not_both Client x y = cc
not_both Provider x y = cc

-- a message toward the provider isn't the end
pub no_end : (root : Link) (many : ℕ) (snt tkn : Pid → List Sent) (before rest : List Item) (m : Msg) → m.toward ≡ Provider → Sound root many snt tkn (before ++ (M m ∷ rest)) → m.body ≡ End → ⊥
no_end root many snt tkn before rest m t s b =
    let ends : EndsUp m = (each_right EndsUp before (M m ∷ rest) s.queue.ends).0 in not_both m.toward t (ends b).0

-- no other message is on the link on which a step puts one
abbrev pub FreeAt : {c : Code} {k : ℕ} {pid : Pid} {items new : List Item} {e : Event} → StepView c k pid items new e → Type 0
FreeAt (puts v) = on v.m.link (v.before ++ (P v.p ∷ v.after)) ≡ 0
FreeAt (takes_client v) = Unit {0}
FreeAt (takes_provider v) = Unit {0}
FreeAt (moves_client v) = on v.p.own (v.before ++ (P v.p ∷ (v.between ++ v.after))) ≡ 0
FreeAt (moves_provider v) = on v.other (v.before ++ (P (record v.p { own = v.m.next }) ∷ (v.between ++ v.after))) ≡ 0
FreeAt (makes v) = Unit {0}
FreeAt (stays v) = Unit {0}

-- it is so where no two messages have the same link after the step
pub free_apart : (c : Code) (many : ℕ) (pid : Pid) (items new : List Item) (e : Event) (v : StepView c many pid items new e) → AreApart new → FreeAt v
free_apart c many pid items new e (puts v) b = put_free v.before v.after v.p v.m v.m.toward v.rest (subst AreApart v.now b)
free_apart c many pid items new e (takes_client v) b = tt
free_apart c many pid items new e (takes_provider v) b = tt
free_apart c many pid items new e (moves_client v) b = move_client_free v.before v.between v.after v.p v.m (subst AreApart v.now b)
free_apart c many pid items new e (moves_provider v) b = move_provider_free v.before v.between v.after (record v.p { own = v.m.next }) v.m v.other (subst AreApart v.now b)
free_apart c many pid items new e (makes v) b = tt
free_apart c many pid items new e (stays v) b = tt

-- where no two messages have the same link before it, and the step's link is free
pub step_sound : (c : Code) (root : Link) (many : ℕ) (pid : Pid) (snt tkn : Pid → List Sent) (items new : List Item) (e : Event) (v : StepView c many pid items new e) → AreApart items → FreeAt v → Sound root many snt tkn items → After root many snt tkn (took_by v) new e
step_sound c root many pid snt tkn items new e (puts v) a b s =
    let d : PutSound v.p v.m v.m.toward v.rest = subst (DeedSound many v.p) v.does (deed_sound c many v.p) in
    lift root many snt tkn (λ s. []) items new _ _ e _ v.was v.now v.event s (λ w. subst (λ t. Sound root many (λ s. snt s ++ mark s v.m) t (v.before ++ (put_beside v.m.toward v.m (rest_items v.rest) ++ v.after))) (none_more tkn) (put_sound root many snt tkn v.before v.after v.p v.m v.m.toward v.rest refl d w b))
step_sound c root many pid snt tkn items new e (takes_client v) a b s =
    let d : TakeSound v.p v.m.link Client = subst (DeedSound many v.p) v.does (deed_sound c many v.p) in
    let r = received c many v.p v.q v.m v.m.link Client v.does v.leaves in
    lift root many snt tkn (λ s. mark s v.m) items new _ _ e _ v.was v.now v.event s (λ w. subst (λ t. Sound root many t (λ s. tkn s ++ mark s v.m) (v.before ++ (P v.q ∷ (v.between ++ v.after)))) (none_more snt) (take_client_sound root many snt tkn v.before v.between v.after v.p v.q v.m v.toward d r w (subst AreApart v.was a)))
step_sound c root many pid snt tkn items new e (takes_provider v) a b s =
    let d : TakeSound v.p v.m.link Provider = subst (DeedSound many v.p) v.does (deed_sound c many v.p) in
    let r = received c many v.p v.q v.m v.m.link Provider v.does v.leaves in
    lift root many snt tkn (λ s. mark s v.m) items new _ _ e _ v.was v.now v.event s (λ w. subst (λ t. Sound root many t (λ s. tkn s ++ mark s v.m) (v.before ++ (P v.q ∷ (v.between ++ v.after)))) (none_more snt) (take_provider_sound root many snt tkn v.before v.between v.after v.p v.q v.m v.toward d (r (no_end root many snt tkn v.before (v.between ++ (P v.p ∷ v.after)) v.m v.toward w)) w (subst AreApart v.was a)))
step_sound c root many pid snt tkn items new e (moves_client v) a b s =
    let d : (x : Link) → held_by x v.p.uses ≡ hit x v.m.link = subst (DeedSound many v.p) v.does (deed_sound c many v.p) in
    lift root many snt tkn (λ s. mark s v.m) items new _ _ e _ v.was v.now v.event s (λ w. move_client_sound root many snt tkn v.before v.between v.after v.p v.m v.toward d w (subst AreApart v.was a) b)
step_sound c root many pid snt tkn items new e (moves_provider v) a b s =
    let d : (x : Link) → held_by x v.p.uses ≡ hit x v.other = subst (DeedSound many v.p) v.does (deed_sound c many v.p) in
    lift root many snt tkn (λ s. mark s v.m) items new _ _ e _ v.was v.now v.event s (λ w. move_provider_sound root many snt tkn v.before v.between v.after v.p v.m v.other v.toward v.link d w (subst AreApart v.was a) b)
step_sound c root many pid snt tkn items new e (makes v) a b s =
    let d : MakeSound many v.p v.child v.rest = subst (DeedSound many v.p) v.does (deed_sound c many v.p) in
    lift root many snt tkn (λ s. []) items new _ _ e _ v.was v.now v.event s (λ w. subst₂ (λ x y. Sound root (many + 1) x y (v.before ++ (P v.rest ∷ P v.child ∷ v.after))) (none_more snt) (none_more tkn) (make_sound root many snt tkn v.before v.after v.p v.child v.rest d w))
step_sound c root many pid snt tkn items new e (stays v) a b s =
    lift root many snt tkn (λ s. []) items new _ _ e _ v.was v.now v.event s (λ w. alone_after root many snt tkn _ v.way v.p.pid v.rest (stay_sound root many snt tkn v.before v.after v.p v.rest (alone_links c many v.p v.rest v.way v.does) w))

-- ---- the number of the process, and what was taken

pub view_pid : (c : Code) (k : ℕ) (pid : Pid) (items new : List Item) (e : Event) → StepView c k pid items new e → pid_of e ≡ pid
view_pid c k pid items new e (puts v) = ap pid_of v.event ∙ v.here
view_pid c k pid items new e (takes_client v) = ap pid_of v.event ∙ v.here
view_pid c k pid items new e (takes_provider v) = ap pid_of v.event ∙ v.here
view_pid c k pid items new e (moves_client v) = ap pid_of v.event ∙ v.here
view_pid c k pid items new e (moves_provider v) = ap pid_of v.event ∙ v.here
view_pid c k pid items new e (makes v) = ap pid_of v.event ∙ v.here
view_pid c k pid items new e (stays v) = ap pid_of v.event ∙ alone_pid v.way v.p.pid v.rest ∙ v.here
  where
    alone_pid : (w : Alone) (p : Pid) (rest : Proc) → pid_of (alone_event w p rest) ≡ p
    alone_pid (Turning d) p rest = refl
    alone_pid (Working q) p rest = refl
    alone_pid (Delaying t) p rest = refl

-- the moment of an entry doesn't matter to its link and body
entries_at : (s : Pid) (l : Link) (b : Body) (m n : ℕ) → entries (on_session s l b m) ≡ entries (on_session s l b n)
entries_at s l b m n = pick (same_pid l.session s)
  where
    pick : (y : Bool) → entries (if y then record { entry = record { link = l; body = b }; moment = m } ∷ [] else []) ≡ entries (if y then record { entry = record { link = l; body = b }; moment = n } ∷ [] else [])
    pick true = refl
    pick false = refl

pub took_entries : (c : Code) (k : ℕ) (pid : Pid) (items new : List Item) (e : Event) (v : StepView c k pid items new e) (s : Pid) → entries (took_by v s) ≡ entries (taken_by s e)
took_entries c k pid items new e (puts v) s = ap (λ x. entries (taken_by s x)) (sym v.event)
took_entries c k pid items new e (takes_client v) s = entries_at s v.m.link v.m.body v.m.moment v.q.moment ∙ ap (λ x. entries (taken_by s x)) (sym v.event)
took_entries c k pid items new e (takes_provider v) s = entries_at s v.m.link v.m.body v.m.moment v.q.moment ∙ ap (λ x. entries (taken_by s x)) (sym v.event)
took_entries c k pid items new e (moves_client v) s = ap (λ x. entries (taken_by s x)) (sym v.event)
took_entries c k pid items new e (moves_provider v) s = ap (λ x. entries (taken_by s x)) (sym v.event)
took_entries c k pid items new e (makes v) s = ap (λ x. entries (taken_by s x)) (sym v.event)
took_entries c k pid items new e (stays v) s = alone_entries v.way v.p.pid v.rest ∙ ap (λ x. entries (taken_by s x)) (sym v.event)
  where
    alone_entries : (w : Alone) (p : Pid) (rest : Proc) → [] ≡ entries (taken_by s (alone_event w p rest))
    alone_entries (Turning d) p rest = refl
    alone_entries (Working q) p rest = refl
    alone_entries (Delaying t) p rest = refl
