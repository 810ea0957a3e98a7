-- What the calls promise that begin, look at and change configurations.
use Rattle.std.specs.Prelude.{◌≡◌, true, false, ℕ, ℤ, pos, ◌+◌, ◌≤◌, ◌<◌, ◌^◌, List, [], ◌∷◌, ◌++◌, map, length, take, Option, Some, None, slice_get, IsSome}
use Rattle.rast_terms.specs.declared.program.Program.{Program}
use Rattle.rast_rules.specs.declared.judgement.Plan.{Plan}
use Rattle.rast_core.specs.Words.{Pid, Item, P, Proc, Event}
use Rattle.rast_items.specs.Items.{held}
use Rattle.rast_items.specs.Deeds.{Code}
use Rattle.rast_items.specs.Step.{Next as Does, Ready as DReady, Waits as DWaits, Halted as DHalted, Ended as DEnded, Stuck as DStuck, Cut, cut, is_proc}
use Rattle.rast_items.specs.Run.{State, start_of, replay, step_of, pid_of, born, work, work_by}
use Rattle.rast_items.specs.Ends.{IsFinished}
use Rattle.rast_laws.specs.Sound.{IsReady, IsSound}
use Rattle.rast_core.specs.Shown.{Shown, IsReplay, origin, run_code, code_of, next_of, is_ready, some_ready, first_ready, first_halted, outcome}
use Rattle.rast_core.specs.declared.answer.Next.{Next}
use Rattle.rast_core.specs.declared.answer.Next.TheVariants.{Ready, Waits, Halted, Ended}
use Rattle.rast_core.specs.declared.decision.Decision.{Decision}
use Rattle.rast_core.specs.declared.decision.Decision.TheVariants.{Does as Do, Waits as Waiting, Halted as Halting}
use Rattle.rast_core.specs.declared.answer.ReplayErr.{ReplayErr}
use Rattle.rast_core.specs.declared.answer.ReplayErr.TheVariants.{At, Memory}
use Rattle.rast_core.specs.declared.answer.Outcome.{Outcome}
use Rattle.rast_core.specs.declared.answer.Outcome.TheVariants.{Running, Finished, IndexLimit}
use Rattle.rast_core.specs.declared.answer.Ahead.{Ahead}
use Rattle.rast_core.specs.declared.answer.Ahead.TheVariants.{Event as AnEvent, Limit as ALimit, Nothing}
use Rattle.rast_core.specs.declared.runs.Turn.{Turn}
use Rattle.rast_core.specs.declared.runs.Turn.TheVariants.{Did, Over}

-- a program that has a main with which a run begins
abbrev pub CanStart : Program → Type 0
CanStart g = IsSome (start_of g)

abbrev pub IsNatural : ℤ → Type 0
IsNatural z = (q : ℕ) × (z ≡ pos q)

-- the process with which it begins
abbrev pub BeginsWith : Program → Proc → Type 0
BeginsWith g p = (state : State) × (start_of g ≡ Some state) × (state.items ≡ P p ∷ [])

-- the configuration is the replay of a run of a program that may be run
pub record IsGoing (g : Program) (v : Shown) : Type 0 where
  pub events : List Event
  pub state : State
  pub replayed : IsReplay g v events state
  pub ready : IsReady (code_of g v)

-- the configuration is the replay of this run, and after it holds what holds after every run of a program that may be run
pub record IsSoundReplay (g : Program) (v : Shown) (es : List Event) : Type 0 where
  pub state : State
  pub replayed : IsReplay g v es state
  pub sound : IsSound (code_of g v) es state

-- the configuration with which a run begins, which keeps the plan and has room for so many events
pub record IsStart (g : Program) (plan : Plan) (room : ℕ) (v : Shown) : Type 0 where
  pub state : State
  pub replayed : IsReplay g v [] state
  pub plan_is : v.plan ≡ plan
  pub room_is : v.spare ≡ room

-- what a decision says to those who asked
abbrev pub IsTold : Decision → Next → Type 0
IsTold (Do event edit child) r = r ≡ Ready event
IsTold (Waiting l) r = r ≡ Waits l
IsTold (Halting v) r = r ≡ Halted v

-- the process with this number, which is the first in the list that has it
pub record IsProcess (v : Shown) (pid : Pid) (p : Proc) : Type 0 where
  pub place : Cut
  pub found : cut (is_proc pid) v.items ≡ Some place
  pub is : place.item ≡ P p

-- what is answered where a process is looked for
abbrev pub ProcessIs : Shown → Pid → Option Proc → Type 0
ProcessIs v pid None = cut (is_proc pid) v.items ≡ None
ProcessIs v pid (Some p) = IsProcess v pid p

-- what is answered of a process that does this next
abbrev pub Tells : Does → Next → Type 0
Tells (DReady e items) r = r ≡ Ready e
Tells (DWaits l) r = r ≡ Waits l
Tells (DHalted v) r = r ≡ Halted v
Tells DEnded r = r ≡ Ended
Tells DStuck r = ⊥

abbrev pub EnabledIs : Program → Shown → Pid → Next → Type 0
EnabledIs g v pid r = Tells (next_of g v pid) r

-- what a step answers and leaves: where it isn't ready, nothing changes
abbrev pub Leaves : Does → Shown → Next → Shown → Type 0
Leaves (DReady e items) old r new = (r ≡ Ready e) × (new.items ≡ items) × (new.origins ≡ old.origins ++ map origin (born e items)) × (new.plan ≡ old.plan) × (new.spare + 1 ≡ old.spare)
Leaves (DWaits l) old r new = (r ≡ Waits l) × (new ≡ old)
Leaves (DHalted v) old r new = (r ≡ Halted v) × (new ≡ old)
Leaves DEnded old r new = (r ≡ Ended) × (new ≡ old)
Leaves DStuck old r new = ⊥

abbrev pub StepIs : Program → Shown → Pid → Next → Shown → Type 0
StepIs g old pid r new = Leaves (next_of g old pid) old r new

-- said of every run of which the configuration was the replay before the step
abbrev pub StepIsSound : Program → Shown → Next → Shown → Type 0
StepIsSound g old r new = (es : List Event) (st : State) (e : Event) → IsReplay g old es st → r ≡ Ready e → IsSoundReplay g new (es ++ e ∷ [])

-- where the outcome is finished, no process has an event, none is halted, and each item waits for its client
abbrev pub Finishes : Program → Shown → Outcome → Type 0
Finishes g v o = (es : List Event) (st : State) → IsReplay g v es st → o ≡ Finished → IsFinished (code_of g v) st

-- the first process that has an event; else none has, and the first that is halted, if one is
abbrev pub IsAhead : Program → Shown → Ahead → Type 0
IsAhead g v (AnEvent pid) =
    (first_ready g v v.items ≡ Some pid) × (is_ready (next_of g v pid) ≡ true)
IsAhead g v (ALimit pid value) =
    (first_ready g v v.items ≡ None) × (first_halted g v v.items Finished ≡ IndexLimit pid value)
IsAhead g v Nothing =
    (first_ready g v v.items ≡ None) × (first_halted g v v.items Finished ≡ Finished)

-- one more event of some process; or nothing changed, no process has an event, and the run ends so
abbrev pub IsTurn : Program → Shown → Turn → Shown → Type 0
IsTurn g old (Over o) new =
    (new ≡ old) × (some_ready g old old.items ≡ false) × (o ≡ first_halted g old old.items Finished)
IsTurn g old (Did e) new =
    (pid : Pid) × StepIs g old pid (Ready e) new × (work_by e + held new.items ≤ held old.items)

-- a run to its end, or to its budget
pub record IsFullRun (g : Program) (plan : Plan) (budget : ℕ) (v : Shown) (es : List Event) : Type 0 where
  pub state : State
  pub replayed : IsReplay g v es state
  pub plan_is : v.plan ≡ plan
  pub few : length es ≤ budget
  -- with room for the rest of the budget
  pub room : v.spare + length es ≡ budget
  pub potential : work es + held v.items < 2 ^ 32
  pub sound : IsSound (run_code g plan) es state
  pub decided : outcome g v (length es) budget ≡ Running → ⊥
  pub finished : outcome g v (length es) budget ≡ Finished → IsFinished (run_code g plan) state

-- how far a run under a budget came
abbrev pub CameTo : Program → ℕ → Shown → List Event → Outcome → Type 0
CameTo g budget v es o = o ≡ outcome g v (length es) budget

-- the run of a list of picks
pub record Replayed (g : Program) (plan : Plan) (picks : List Pid) (v : Shown) (es : List Event) : Type 0 where
  pub state : State
  pub replayed : IsReplay g v es state
  pub plan_is : v.plan ≡ plan
  pub picks_are : map pid_of es ≡ picks
  -- with room for no event more
  pub room : v.spare ≡ 0
  pub potential : work es + held v.items < 2 ^ 32
  pub sound : IsSound (run_code g plan) es state

-- the picks before number k are a run, and the process of pick k has no event after it
pub record StopsAtPick (c : Code) (picks : List Pid) (k : ℕ) : Type 0 where
  pub begin : State
  pub is_begin : start_of c.program ≡ Some begin
  pub state : State
  pub events : List Event
  pub before : replay c begin (take k picks) ≡ Some (events, state)
  pub pick : Pid
  pub at : slice_get picks k ≡ Some pick
  pub stops : (e : Event) (items : List Item) → step_of c state pick ≡ DReady e items → ⊥

abbrev pub IsRefusedAt : Program → Plan → List Pid → ReplayErr → Type 0
IsRefusedAt g plan picks (At k) = StopsAtPick (run_code g plan) picks k
IsRefusedAt g plan picks Memory = Unit {0}
