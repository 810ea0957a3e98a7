-- What holds after every run of an accepted program.
use Rattle.std.specs.Prelude.{◌≡◌, ℕ, ◌+◌, ◌^◌, ◌<◌, ◌≤◌, List, [], ◌∷◌, ◌++◌, length, Some, IsSome, All}
use Rattle.rast_rules.specs.Rules.{IsAccepted, IsPlan}
use Rattle.rast_made.specs.WellMade.{IsWellMade}
use Rattle.rast_items.specs.declared.event.Event.{Event}
use Rattle.rast_items.specs.declared.link.Link.{Link}
use Rattle.rast_items.specs.declared.link.Pid.{Pid}
use Rattle.rast_items.specs.declared.link.Side.TheVariants.{Client, Provider}
use Rattle.rast_items.specs.declared.message.Msg.{Msg}
use Rattle.rast_items.specs.declared.item.Item.{Item}
use Rattle.rast_items.specs.declared.item.Item.TheVariants.{Proc as P, Msg as M}
use Rattle.rast_items.specs.Process.{Process as Proc}
use Rattle.rast_items.specs.Items.{IsConfig, link_at, provided, held}
use Rattle.rast_items.specs.Deeds.{Code, Moves, deed}
use Rattle.rast_items.specs.Step.{Halted, Stuck}
use Rattle.rast_items.specs.Run.{State, Sent, start_of, step_of, IsOrdered, AreApart, ArePidsApart, work, sent_at, taken_at}
use Rattle.rast_laws.specs.Typed.{IsWellTyped, IsSendTyped}
use Rattle.rast_items.specs.Ends.{AreIdle, IsFinished}

-- a program that may be run: well made and accepted, with a main, and with the plan of its run
pub record IsReady (c : Code) : Type 0 where
  pub made : IsWellMade c.program
  pub accepted : IsAccepted c.program
  pub plan : IsPlan c.program (record { positive = c.positive; paid = c.paid })
  pub main : IsSome c.program.main

-- an item stands in a list
pub record Has (i : Item) (items : List Item) : Type 0 where
  pub before : List Item
  pub after : List Item
  pub is : items ≡ before ++ (i ∷ after)

-- what a process that forwards a link to its own can meet: a message toward the client on the former,
-- where it waits for one there, or one toward the provider on the latter, where it waits there
pub record IsPolar (p : Proc) (other wait : Link) (m : Msg) : Type 0 where
  pub client : m.toward ≡ Client → m.link ≡ other → wait ≡ other
  pub provider : m.toward ≡ Provider → m.link ≡ p.own → wait ≡ p.own

-- each process that forwards has two links, and can meet messages from one of them alone
pub record ArePolar (c : Code) (k : ℕ) (items : List Item) : Type 0 where
  pub two : (p : Proc) (other wait : Link) → Has (P p) items → deed c k p ≡ Moves other wait → other ≡ p.own → ⊥
  pub one : (p : Proc) (other wait : Link) (m : Msg) → Has (P p) items → Has (M m) items → deed c k p ≡ Moves other wait → IsPolar p other wait m

-- what holds after every run of such a program
pub record IsSound (c : Code) (es : List Event) (st : State) : Type 0 where
  -- each link that is provided is provided once, and used links are provided later
  pub links : IsConfig (link_at 0 0) st.items
  -- each process has a number of its own
  pub numbers : ArePidsApart st
  -- a link that is provided is of a session whose process was made
  pub made : (l : Link) → 1 ≤ provided l st.items → l.session.0 < length st.births
  -- it stands behind all messages of its session that were taken, and at most behind the last sent
  pub reached : (l : Link) → 1 ≤ provided l st.items → (length (taken_at l.session es) ≤ l.index) × (l.index ≤ length (sent_at l.session es))
  -- nothing was sent on the session of a process that wasn't made
  pub unmade : (s : Pid) → length st.births ≤ s.0 → sent_at s es ≡ []
  -- no two messages have the same link
  pub apart : AreApart st.items
  -- each process that forwards can meet messages from one end alone
  pub forwards : ArePolar c (length st.births) st.items
  -- processes meet judgements of their nodes, and messages fit the types due on their links
  pub typed : IsWellTyped c.program es st
  -- each message that was sent fits what was due, at its time
  pub sent : All (IsSendTyped c.program es st.births) es
  -- on each session what was taken is the beginning of what was sent
  pub ordered : IsOrdered es
  -- and each message is taken with the moment with which it was sent or moved
  pub moments : (s : Pid) → (rest : List Sent) × (taken_at s es ++ rest ≡ sent_at s es)
  -- work and held potential together are main's
  pub potential : (begin : State) → start_of c.program ≡ Some begin → work es + held st.items ≡ held begin.items
  -- no process is without a rule
  pub unstuck : (pid : Pid) → step_of c st pid ≡ Stuck → ⊥
  -- a process is halted at an index of 2 ^ 64 or more alone
  pub halted : (pid : Pid) (value : ℕ) → step_of c st pid ≡ Halted value → 2 ^ 64 ≤ value
  -- where no process has an event and none is halted, every item waits for its client
  pub progress : AreIdle c st → IsFinished c st
