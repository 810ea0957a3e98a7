-- The way from main to a process, by the spawns of a run.
use Rattle.std.specs.Prelude.{◌≡◌, ℕ, ◌≤◌, ◌<◌, List, length, Some, slice_get}
use Rattle.rast_terms.specs.declared.program.Program.{Program}
use Rattle.rast_core.specs.Words.{Pid, Event}
use Rattle.rast_items.specs.Run.{State, path_from}
use Rattle.rast_core.specs.Shown.{Shown, IsReplay}
use Rattle.rast_core.specs.declared.origin.Origin.{Origin}

-- each process but main was made by an earlier one
abbrev pub AreAfterParents : List Origin → Type 0
AreAfterParents os = (k : ℕ) (o : Origin) → 1 ≤ k → slice_get os k ≡ Some o → o.parent.0 < k

-- The ordinals on the way from main to a process, oldest first. A parent is earlier than its child, so there are fewer of them than processes.
abbrev pub path_of : State → Pid → List ℕ
path_of st pid = path_from (length st.births) st.births pid.0

-- the spawn path of a process in the run of which the configuration is the replay
abbrev pub IsPath : Shown → Pid → List ℕ → Type 0
IsPath v pid path = (g : Program) (es : List Event) (st : State) → IsReplay g v es st → path ≡ path_of st pid
