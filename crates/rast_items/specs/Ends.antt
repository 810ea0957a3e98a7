-- The ends of a run: items that wait for a client, and states in which no process can do anything.
use Rattle.std.specs.Prelude.{◌≡◌, ℕ, length, All}
use Rattle.rast_items.specs.Items.{Pid, Client, Provider, Item, P, M, Proc}
use Rattle.rast_items.specs.Deeds.{Code, Deed, Takes, Moves, deed}
use Rattle.rast_items.specs.Step.{Next, Waits, Ended}
use Rattle.rast_items.specs.Run.{State, step_of}

-- waits for a message from its client
abbrev pub WaitsForClient : Proc → Deed → Type 0
WaitsForClient p (Takes l s) = (l ≡ p.own) × (s ≡ Provider)
WaitsForClient p (Moves other wait) = wait ≡ p.own
WaitsForClient p d = ⊥

abbrev pub IsPoised : Code → ℕ → Item → Type 0
IsPoised c k (P p) = WaitsForClient p (deed c k p)
IsPoised c k (M m) = m.toward ≡ Client

abbrev pub IsIdle : Next → Type 0
IsIdle (Waits l) = Unit {0}
IsIdle Ended = Unit {0}
IsIdle n = ⊥

-- no process has an event and none is halted or stuck
abbrev pub AreIdle : Code → State → Type 0
AreIdle c st = (pid : Pid) → IsIdle (step_of c st pid)

pub record IsFinished (c : Code) (st : State) : Type 0 where
  pub idle : AreIdle c st
  pub poised : All (IsPoised c (length st.births)) st.items
