-- What is promised of every run that `rast run` makes.
use Rattle.std.specs.Prelude.{◌≡◌, ◌⊎◌, ℕ, Bool, true, ◌≤◌, ◌^◌, List, [], length}
use Rattle.std.specs.declared.option.Option.{Option}
use Rattle.rast_io.specs.Bytes.{Named}
use Rattle.rast_terms.specs.declared.program.Program.{Program}
use Rattle.rast_rules.specs.Rules.{IsPlan}
use Rattle.rast_rules.specs.declared.judgement.Plan.{Plan}
use Rattle.rast_items.specs.declared.event.Event.{Event}
use Rattle.rast_items.specs.declared.link.Pid.{Pid}
use Rattle.rast_items.specs.declared.item.Item.{Item}
use Rattle.rast_items.specs.Deeds.{Code}
use Rattle.rast_items.specs.Ends.{IsFinished}
use Rattle.rast_items.specs.Run.{State, IsRun, step_of}
use Rattle.rast_items.specs.Step.{Ready, Halted}
use Rattle.rast_laws.specs.Sound.{IsSound}
use Rattle.rast_core.specs.Shown.{Shown, IsReplay, run_code, outcome as outcome_of}
use Rattle.rast_core.specs.declared.answer.Outcome.{Outcome}
use Rattle.rast_core.specs.declared.answer.Outcome.TheVariants.{Running, Finished, OutOfBudget, IndexLimit}
use Rattle.rast_report.specs.Reports.{report}
use Rattle.rast_cli.specs.Held.{IsLoaded}

-- some process has an event
abbrev pub HasEvent : Code → State → Type 0
HasEvent c st = (pid : Pid) × (e : Event) × (items : List Item) × (step_of c st pid ≡ Ready e items)

-- How a run of these events ended under a budget: each item waits for its client; or the budget is used, and some process has an event;
-- or a process would need an index of 2 ^ 64 or more.
abbrev pub EndsAs : Outcome → Code → ℕ → List Event → State → Type 0
EndsAs Running c budget es st = ⊥
EndsAs Finished c budget es st = IsFinished c st
EndsAs OutOfBudget c budget es st = (length es ≡ budget) × HasEvent c st
EndsAs (IndexLimit pid value) c budget es st = (step_of c st pid ≡ Halted value) × (2 ^ 64 ≤ value)

-- The file of this name says an accepted program, and the history is a run of it, of at most so many events, that is sound and that
-- ended so; the text is the report of this history and of the configuration that it comes to, which keeps the plan.
pub record IsSoundRun (limit : ℕ) (held : Option Named) (name : List ℕ) (budget : ℕ) (trace : Bool) (outcome : Outcome) (text : List ℕ) (history : List Event) : Type 0 where
  pub program : Program
  pub loaded : IsLoaded limit held name program
  pub plan : Plan
  pub planned : IsPlan program plan
  pub state : State
  pub run : IsRun (run_code program plan) history state
  pub few : length history ≤ budget
  pub sound : IsSound (run_code program plan) history state
  pub ended : EndsAs outcome (run_code program plan) budget history state
  pub config : Shown
  pub plan_is : config.plan ≡ plan
  pub shows : IsReplay program config history state
  pub outcome_is : outcome ≡ outcome_of program config (length history) budget
  pub text_is : text ≡ report program outcome history config trace true

-- there was no run, or a sound one
abbrev pub IsNoneOrSound : ℕ → Option Named → List ℕ → ℕ → Bool → List Event → Type 0
IsNoneOrSound limit held name budget trace history = (history ≡ []) ⊎ ((outcome : Outcome) × (text : List ℕ) × IsSoundRun limit held name budget trace outcome text history)
