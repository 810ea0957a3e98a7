-- What processes, messages, events and deeds are where the processes have other numbers.
use Rattle.std.specs.Prelude.{ℕ, List, map, Option, Some, None}
use Rattle.rast_items.specs.Items.{Link, Pid, Body, Label, End, Chan, Nat, Assert, Pay, Msg, Item, P, M, Proc, pid_at}
use Rattle.rast_items.specs.Deeds.{Deed, Puts, Takes, Moves, Makes, Turns, Works, Delays, Halts, Breaks}
use Rattle.rast_items.specs.Step.{Event, Send, Take, Move, Spawn, Call, Work, Delay}

abbrev pub as_pid : (ℕ → ℕ) → Pid → Pid
as_pid f p = pid_at (f p.0)

-- sessions have the numbers of their processes
abbrev pub as_link : (ℕ → ℕ) → Link → Link
as_link f l = record l { session = as_pid f l.session }

abbrev pub as_body : (ℕ → ℕ) → Body → Body
as_body f (Label l) = Label l
as_body f End = End
as_body f (Chan l) = Chan (as_link f l)
as_body f (Nat n) = Nat n
as_body f Assert = Assert
as_body f Pay = Pay

abbrev pub as_msg : (ℕ → ℕ) → Msg → Msg
as_msg f m = record m { link = as_link f m.link; next = as_link f m.next; body = as_body f m.body }

abbrev pub as_use : (ℕ → ℕ) → ℕ × Link → ℕ × Link
as_use f u = (u.0, as_link f u.1)

abbrev pub as_uses : (ℕ → ℕ) → List (ℕ × Link) → List (ℕ × Link)
as_uses f us = map (as_use f) us

abbrev pub as_proc : (ℕ → ℕ) → Proc → Proc
as_proc f p = record p { pid = as_pid f p.pid; own = as_link f p.own; uses = as_uses f p.uses }

-- the process that is left, if there is one
abbrev pub as_rest : (ℕ → ℕ) → Option Proc → Option Proc
as_rest f None = None
as_rest f (Some p) = Some (as_proc f p)

abbrev pub as_item : (ℕ → ℕ) → Item → Item
as_item f (P p) = P (as_proc f p)
as_item f (M m) = M (as_msg f m)

abbrev pub as_event : (ℕ → ℕ) → Event → Event
as_event f (Send pid link body moment q) =
    Send (as_pid f pid) (as_link f link) (as_body f body) moment q
as_event f (Take pid link body moment) = Take (as_pid f pid) (as_link f link) (as_body f body) moment
as_event f (Move pid from to body moment) =
    Move (as_pid f pid) (as_link f from) (as_link f to) (as_body f body) moment
as_event f (Spawn pid child d moment) = Spawn (as_pid f pid) (as_pid f child) d moment
as_event f (Call pid d moment) = Call (as_pid f pid) d moment
as_event f (Work pid q moment) = Work (as_pid f pid) q moment
as_event f (Delay pid t moment) = Delay (as_pid f pid) t moment

abbrev pub as_deed : (ℕ → ℕ) → Deed → Deed
as_deed f (Puts m rest) = Puts (as_msg f m) (as_rest f rest)
as_deed f (Takes l s) = Takes (as_link f l) s
as_deed f (Moves other wait) = Moves (as_link f other) (as_link f wait)
as_deed f (Makes child rest d) = Makes (as_proc f child) (as_proc f rest) d
as_deed f (Turns rest d) = Turns (as_proc f rest) d
as_deed f (Works q rest) = Works q (as_proc f rest)
as_deed f (Delays t rest) = Delays t (as_proc f rest)
as_deed f (Halts v) = Halts v
as_deed f Breaks = Breaks
