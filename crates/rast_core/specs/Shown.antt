-- A configuration as contracts see it, the runs of which it is the replay, and how a run of it came to its end.
use Rattle.std.specs.Prelude.{◌≡◌, ℕ, Bool, true, false, ◌||◌, ◌==◌, List, [], ◌∷◌, map, length, if◌then◌else◌, Option, Some, None}
use Rattle.rast_terms.specs.declared.program.Program.{Program}
use Rattle.rast_rules.specs.declared.judgement.Plan.{Plan}
use Rattle.rast_core.specs.Words.{Pid, Item, P, M, Event}
use Rattle.rast_items.specs.Deeds.{Code}
use Rattle.rast_items.specs.Step.{Next as Does, Ready, Halted, step}
use Rattle.rast_items.specs.Run.{State, Birth, IsRun}
use Rattle.rast_core.specs.declared.origin.Origin.{Origin}
use Rattle.rast_core.specs.declared.answer.Outcome.{Outcome}
use Rattle.rast_core.specs.declared.answer.Outcome.TheVariants.{Running, Finished, OutOfBudget, IndexLimit}

-- its items, where each process came from, the plan that it keeps, and for how many events it has room
pub record Shown : Type 0 where
  pub items : List Item
  pub origins : List Origin
  pub plan : Plan
  pub spare : ℕ

abbrev pub origin : Birth → Origin
origin b = record { parent = b.parent; ordinal = b.ordinal }

abbrev pub run_code : Program → Plan → Code
run_code g plan = record { program = g; positive = plan.positive; paid = plan.paid }

abbrev pub code_of : Program → Shown → Code
code_of g v = run_code g v.plan

-- the configuration is the replay of this run
pub record IsReplay (g : Program) (v : Shown) (es : List Event) (st : State) : Type 0 where
  pub run : IsRun (code_of g v) es st
  pub items : v.items ≡ st.items
  pub origins : v.origins ≡ map origin st.births

-- what a process does next in the configuration
abbrev pub next_of : Program → Shown → Pid → Does
next_of g v pid = step (code_of g v) (length v.origins) pid v.items

-- ---- the outcome

abbrev pub is_ready : Does → Bool
is_ready (Ready e items) = true
is_ready n = false

-- some process of these items has an event
abbrev pub some_ready : Program → Shown → List Item → Bool
some_ready g v [] = false
some_ready g v (P p ∷ is) = is_ready (next_of g v p.pid) || some_ready g v is
some_ready g v (M m ∷ is) = some_ready g v is

-- the first process of these items that has an event
abbrev pub first_ready : Program → Shown → List Item → Option Pid
first_ready g v [] = None
first_ready g v (P p ∷ is) = if is_ready (next_of g v p.pid) then Some p.pid else first_ready g v is
first_ready g v (M m ∷ is) = first_ready g v is

abbrev pub halt_of : Pid → Does → Outcome → Outcome
halt_of pid (Halted v) o = IndexLimit pid v
halt_of pid n o = o

-- the first of these items that is halted; else the outcome that is given
abbrev pub first_halted : Program → Shown → List Item → Outcome → Outcome
first_halted g v [] o = o
first_halted g v (P p ∷ is) o = halt_of p.pid (next_of g v p.pid) (first_halted g v is o)
first_halted g v (M m ∷ is) o = first_halted g v is o

-- the outcome of a configuration after so many events: where no process has an event and none is halted it is finished
abbrev pub outcome : Program → Shown → ℕ → ℕ → Outcome
outcome g v events budget =
    if some_ready g v v.items then (if events == budget then OutOfBudget else Running) else first_halted g v v.items Finished
