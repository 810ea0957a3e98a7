-- Runs, and what was sent and taken on each session.
use Rattle.std.specs.Prelude.{◌≡◌, ℕ, zero, suc, ℤ, pos, negsuc, max, cond, ◌+◌, ◌≤◌, List, [], ◌∷◌, ◌++◌, map, length, flat_map, sum_by, if◌then◌else◌, Option, Some, None, slice_get}
use Rattle.rast_index.specs.Linear.{value}
use Rattle.rast_items.specs.Items.{Link, Pid, Body, Item, P, M, pid_at, hit, total, same_pid}
use Rattle.rast_terms.specs.declared.program.Program.{Program}
use Rattle.rast_terms.specs.declared.program.Decl.{Decl}
use Rattle.rast_items.specs.Deeds.{Code, process_at}
use Rattle.rast_items.specs.Step.{Event, Send, Take, Move, Spawn, Call, Work, Delay, Next, Ready, step, is_proc, cut, Cut}

-- how a process came to be
pub record Birth : Type 0 where
  pub parent : Pid
  -- among the children of its parent, from 1 on; 0 for main
  pub ordinal : ℕ
  pub decl : ℕ
  pub values : List ℕ
  pub moment : ℕ

-- the items, and how each process came to be, by its number
pub record State : Type 0 where
  pub items : List Item
  pub births : List Birth

abbrev pub pid_of : Event → Pid
pid_of (Send pid link body moment potential) = pid
pid_of (Take pid link body moment) = pid
pid_of (Move pid from to body moment) = pid
pid_of (Spawn pid child decl moment) = pid
pid_of (Call pid decl moment) = pid
pid_of (Work pid amount moment) = pid
pid_of (Delay pid ticks moment) = pid

abbrev pub moment_of : Event → ℕ
moment_of (Send pid link body moment potential) = moment
moment_of (Take pid link body moment) = moment
moment_of (Move pid from to body moment) = moment
moment_of (Spawn pid child decl moment) = moment
moment_of (Call pid decl moment) = moment
moment_of (Work pid amount moment) = moment
moment_of (Delay pid ticks moment) = moment

abbrev pub values_in : Option Cut → List ℕ
values_in None = []
values_in (Some c) = values_of c.item
  where
    values_of : Item → List ℕ
    values_of (P p) = p.values
    values_of (M m) = []

abbrev pub ordinal_in : Option Cut → ℕ
ordinal_in None = 0
ordinal_in (Some c) = spawned_of c.item
  where
    spawned_of : Item → ℕ
    spawned_of (P p) = p.spawned
    spawned_of (M m) = 0

-- the process that an event made, as it stands in the new list
abbrev pub born : Event → List Item → List Birth
born (Spawn pid child decl moment) items = record { parent = pid; ordinal = ordinal_in (cut (is_proc pid) items); decl = decl; values = values_in (cut (is_proc child) items); moment = moment } ∷ []
born e items = []

abbrev pub state_after : State → Event → List Item → State
state_after st e items = record { items = items; births = st.births ++ born e items }

-- the step of a process of a state
abbrev pub step_of : Code → State → Pid → Next
step_of c st pid = step c (length st.births) pid st.items

-- the events are steps, one after another, from this state to that one
abbrev pub IsRunFrom : Code → State → List Event → State → Type 0
IsRunFrom c st [] end' = end' ≡ st
IsRunFrom c st (e ∷ es) end' = (items : List Item) × (step_of c st (pid_of e) ≡ Ready e items) × IsRunFrom c (state_after st e items) es end'

-- main's one process, at its declared potential
abbrev pub start : ℕ → Decl → ℤ → Option State
start k d (pos q) = Some (record { items = P (process_at 0 d [] [] 0 q) ∷ []; births = record { parent = pid_at 0; ordinal = 0; decl = k; values = []; moment = 0 } ∷ [] })
start k d (negsuc q) = None

abbrev pub start_decl : ℕ → Option Decl → Option State
start_decl k None = None
start_decl k (Some d) = start k d (value d.potential [])

abbrev pub start_main : Program → Option ℕ → Option State
start_main g None = None
start_main g (Some k) = start_decl k (slice_get g.decls k)

abbrev pub start_of : Program → Option State
start_of g = start_main g g.main

-- a run of a program from its main, and what it comes to
abbrev pub IsRun : Code → List Event → State → Type 0
IsRun c es end' = (begin : State) × (start_of c.program ≡ Some begin) × IsRunFrom c begin es end'

abbrev pub run_on : Event → Option (List Event × State) → Option (List Event × State)
run_on e None = None
run_on e (Some r) = Some (e ∷ r.0, r.1)

abbrev pub more_run : Next → (Event → List Item → Option (List Event × State)) → Option (List Event × State)
more_run (Ready e items) go_on = run_on e (go_on e items)
more_run n go_on = None

-- the run of a list of picks
abbrev pub replay : Code → State → List Pid → Option (List Event × State)
replay c st [] = Some ([], st)
replay c st (pid ∷ pids) = more_run (step_of c st pid) (λ e items. replay c (state_after st e items) pids)

-- ---- sessions

-- a link and a body that was sent on it or taken from it
pub record Entry : Type 0 where
  pub link : Link
  pub body : Body

pub record Sent : Type 0 where
  pub entry : Entry
  pub moment : ℕ

-- those of them that are on a session
abbrev pub on_session : Pid → Link → Body → ℕ → List Sent
on_session s l b m = if same_pid l.session s then record { entry = record { link = l; body = b }; moment = m } ∷ [] else []

abbrev pub sent_by : Pid → Event → List Sent
sent_by s (Send pid link body moment potential) = on_session s link body moment
sent_by s (Move pid from to body moment) = on_session s to body moment
sent_by s e = []

abbrev pub taken_by : Pid → Event → List Sent
taken_by s (Take pid link body moment) = on_session s link body moment
taken_by s (Move pid from to body moment) = on_session s from body moment
taken_by s e = []

-- what was sent on a session, with the moments; and the links and bodies that were sent and taken
abbrev pub sent_at : Pid → List Event → List Sent
sent_at s es = flat_map (sent_by s) es

abbrev pub sent : Pid → List Event → List Entry
sent s es = map (λ x. x.entry) (sent_at s es)

abbrev pub taken_at : Pid → List Event → List Sent
taken_at s es = flat_map (taken_by s) es

abbrev pub taken : Pid → List Event → List Entry
taken s es = map (λ x. x.entry) (taken_at s es)

abbrev pub IsPrefix : List Entry → List Entry → Type 0
IsPrefix xs ys = (rest : List Entry) × (xs ++ rest ≡ ys)

-- the entries are on the links k, k + 1, .. of the session
abbrev pub AreNumbered : Pid → ℕ → List Entry → Type 0
AreNumbered s k [] = Unit {0}
AreNumbered s k (e ∷ es) = (e.link ≡ record { session = s; index = k }) × AreNumbered s (k + 1) es

-- what was taken is the beginning of what was sent, and entry k of what was sent is on link k
pub record IsOrdered (es : List Event) : Type 0 where
  pub prefix : (s : Pid) → IsPrefix (taken s es) (sent s es)
  pub numbered : (s : Pid) → AreNumbered s 0 (sent s es)

-- no two messages have the same link
abbrev pub messages_on : Link → Item → ℕ
messages_on l (P p) = 0
messages_on l (M m) = hit l m.link

abbrev pub AreApart : List Item → Type 0
AreApart items = (l : Link) → total (messages_on l) items ≤ 1

-- no two processes have the same number, and those that were made have lower ones than the next child
abbrev pub numbered_as : Pid → Item → ℕ
numbered_as k (P p) = cond (same_pid p.pid k) 1 0
numbered_as k (M m) = 0

pub record ArePidsApart (st : State) : Type 0 where
  pub once : (k : Pid) → total (numbered_as k) st.items ≤ 1
  pub made : (k : Pid) → length st.births ≤ k.0 → total (numbered_as k) st.items ≡ 0

-- the work of a run, and the greatest moment
abbrev pub work_by : Event → ℕ
work_by (Work pid amount moment) = amount
work_by e = 0

abbrev pub work : List Event → ℕ
work es = sum_by work_by es

abbrev pub time : List Event → ℕ
time [] = 0
time (e ∷ es) = max (moment_of e) (time es)

abbrev pub path_more : Option Birth → (ℕ → List ℕ) → List ℕ
path_more None go_on = []
path_more (Some b) go_on = go_on b.parent.0 ++ b.ordinal ∷ []

-- the ordinals on the way from main to a process, oldest first
abbrev pub path_from : ℕ → List Birth → ℕ → List ℕ
path_from zero bs k = []
path_from (suc n) bs zero = []
path_from (suc n) bs (suc k) = path_more (slice_get bs (suc k)) (λ p. path_from n bs p)
