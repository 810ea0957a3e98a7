-- The events that one process can do alone.
use Rattle.std.specs.Prelude.{ℕ, zero, suc, ◌+◌, ◌-◌, ◌^◌, if◌then◌else◌, nat_lt, List, [], ◌∷◌, Option, Some, None}
use Rattle.rast_items.specs.Items.{Link, Pid, Body, Proc}
use Rattle.rast_items.specs.Deeds.{Code, Deed, Puts, Makes, Turns, Works, Delays, deed}
use Rattle.rast_items.specs.Step.{Event, Send, Spawn, Call, Work, Delay}
use Rattle.rast_items.specs.Renamed.{as_pid, as_link, as_body, as_proc}

-- one event, the process after it, and the child that it makes
pub record Done : Type 0 where
  pub event : Event
  pub after : Option Proc
  pub child : Option Proc

abbrev pub alone : Proc → Deed → Option Done
alone p (Puts m rest) = Some (record { event = Send p.pid m.link m.body m.moment m.potential; after = rest; child = None })
alone p (Makes child rest d) = Some (record { event = Spawn p.pid child.pid d rest.moment; after = Some rest; child = Some child })
alone p (Turns rest d) = Some (record { event = Call p.pid d rest.moment; after = Some rest; child = None })
alone p (Works q rest) = Some (record { event = Work p.pid q rest.moment; after = Some rest; child = None })
alone p (Delays t rest) = Some (record { event = Delay p.pid t rest.moment; after = Some rest; child = None })
alone p d = None

-- the k-th child of a burst, from 0 on, has this number
abbrev pub stand_in : ℕ → ℕ
stand_in k = 2 ^ 32 - 1 - k

abbrev pub more_children : Option Proc → ℕ → ℕ
more_children None k = k
more_children (Some p) k = suc k

abbrev pub go_on : Option Done → (Proc → ℕ → List Done) → ℕ → List Done
go_on None f k = []
go_on (Some x) f k = x ∷ from x.after
  where
    from : Option Proc → List Done
    from None = []
    from (Some p) = f p (more_children x.child k)

-- at most n next events of the process, k children of which were made before
abbrev pub burst_from : Code → ℕ → Proc → ℕ → List Done
burst_from c zero p k = []
burst_from c (suc n) p k = go_on (alone p (deed c (stand_in k) p)) (burst_from c n) k

abbrev pub burst : Code → Proc → List Done
burst c p = burst_from c 32 p 0

-- the real number in the place of a stand-in, where the next child would have the number made
abbrev pub real : ℕ → ℕ → ℕ
real made k = if nat_lt (stand_in 32) k then made + (2 ^ 32 - 1 - k) else k

-- a process and its links under the real numbers
abbrev pub real_pid : ℕ → Pid → Pid
real_pid made = as_pid (real made)

abbrev pub real_link : ℕ → Link → Link
real_link made = as_link (real made)

abbrev pub real_body : ℕ → Body → Body
real_body made = as_body (real made)

abbrev pub real_proc : ℕ → Proc → Proc
real_proc made = as_proc (real made)

-- an event of a process that has its real number
abbrev pub real_event : ℕ → Event → Event
real_event made (Send pid link body moment q) = Send pid (real_link made link) (real_body made body) moment q
real_event made (Spawn pid child d moment) = Spawn pid (real_pid made child) d moment
real_event made e = e
