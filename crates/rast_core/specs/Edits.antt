-- What a step does to the list of items, by places.
use Rattle.std.specs.Prelude.{◌≡◌, ℕ, ◌+◌, ◌<◌, Bool, true, List, ◌++◌, Option, Some, None, slice_get, take, drop, length, map, insert, remove, slice_set, option_to_list}
use Rattle.rast_terms.specs.declared.program.Program.{Program}
use Rattle.rast_rules.specs.declared.judgement.Plan.{Plan}
use Rattle.rast_core.specs.Words.{Event, Item, P, M, Pid, Link, Msg, Proc, Move}
use Rattle.rast_items.specs.Step.{cut, put_beside, rest_items, moved, does, step, Next as Does, Ready as DReady, Waits as DWaits, Halted as DHalted, Stuck as DStuck}
use Rattle.rast_items.specs.Run.{born}
use Rattle.rast_items.specs.declared.action.Action.{Action}
use Rattle.rast_items.specs.declared.action.Action.TheVariants.{Make}
use Rattle.rast_items.specs.Deeds.{Code, Deed}
use Rattle.rast_items.specs.Actions.{action_of}
use Rattle.rast_core.specs.Shown.{Shown, origin, run_code}
use Rattle.rast_core.specs.declared.origin.Origin.{Origin}
use Rattle.rast_core.specs.declared.decision.Edit.{Edit}
use Rattle.rast_core.specs.declared.decision.Edit.TheVariants.{Replace, Two, Merge}
use Rattle.rast_core.specs.declared.decision.Decision.{Decision}
use Rattle.rast_core.specs.declared.decision.Decision.TheVariants.{Does as Do, Waits, Halted}

-- the list is cut at place i
pub record IsCutAt (test : Item → Bool) (items : List Item) (i : ℕ) : Type 0 where
  pub item : Item
  pub get : slice_get items i ≡ Some item
  pub is : cut test items ≡ Some (record { before = take i items; item = item; after = drop (i + 1) items })

-- an item that passes the test stands at place i
pub record StandsAt (test : Item → Bool) (items : List Item) (i : ℕ) : Type 0 where
  pub item : Item
  pub get : slice_get items i ≡ Some item
  pub is : test item ≡ true

-- the list after an edit for the process at place i
abbrev pub edited : Edit → List Item → ℕ → List Item
edited (Replace x) items i = slice_set items i x
edited (Two x y) items i = insert (slice_set items i x) (i + 1) y
edited (Merge j x gone) items i = remove (slice_set items j x) gone

-- its places are those of items
abbrev pub IsApt : Edit → List Item → Type 0
IsApt (Replace x) items = Unit {0}
IsApt (Two x y) items = Unit {0}
IsApt (Merge j x gone) items = (j < length items) × (gone < length items)

-- what is decided for the process at place i that does this next
abbrev pub Decides : Does → List Item → ℕ → Decision → Type 0
Decides (DReady e new) items i (Do event edit child) = (event ≡ e) × (edited edit items i ≡ new) × IsApt edit items × (option_to_list child ≡ map origin (born e new))
Decides (DWaits l) items i (Waits link) = link ≡ l
Decides (DHalted v) items i (Halted value) = value ≡ v
Decides n items i d = ⊥

-- a process that makes another stays the same process
abbrev pub KeepsPid : Pid → Action → Type 0
KeepsPid pid (Make child rest decl) = rest.pid ≡ pid
KeepsPid pid action = Unit {0}

-- the process at place i has a rule for an action: under some plan it is the action of a deed with which it isn't stuck
pub record HasRule (g : Program) (items : List Item) (i : ℕ) (p : Proc) (action : Action) : Type 0 where
  pub plan : Plan
  pub deed : Deed
  pub is : action ≡ action_of deed
  pub unstuck : does (run_code g plan) (take i items) p (drop (i + 1) items) deed ≡ DStuck → ⊥

-- the edit puts a message beside a process
abbrev pub IsPutEdit : Msg → Option Proc → Edit → Type 0
IsPutEdit m rest edit = (items : List Item) (i : ℕ) → i < length items → (edited edit items i ≡ take i items ++ (put_beside m.toward m (rest_items rest) ++ drop (i + 1) items)) × IsApt edit items

-- a message at place j is handed on to a link by the process at place i
abbrev pub HandsOn : Item → ℕ → ℕ → Link → Pid → Decision → Type 0
HandsOn (P q) j i to pid d = ⊥
HandsOn (M m) j i to pid d = d ≡ Do (Move pid m.link to m.body m.moment) (Merge j (M (moved m to)) i) None

-- the edit and the child are those of some step of a process of the configuration
pub record IsStepEdit (v : Shown) (i : ℕ) (edit : Edit) (child : Option Origin) : Type 0 where
  pub code : Code
  pub pid : Pid
  pub event : Event
  pub decides : Decides (step code (length v.origins) pid v.items) v.items i (Do event edit child)
