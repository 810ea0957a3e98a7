-- The report of a run.
use Rattle.std.specs.Prelude.{◌≡◌, ℕ, Bool, true, List, length}
use Rattle.rast_rules.specs.declared.judgement.Plan.{Plan}
use Rattle.rast_rules.specs.Rules.{IsPlan}
use Rattle.rast_terms.specs.declared.program.Program.{Program}
use Rattle.rast_items.specs.declared.event.Event.{Event}
use Rattle.rast_core.specs.declared.answer.Outcome.{Outcome}
use Rattle.rast_laws.specs.Sound.{IsReady}
use Rattle.rast_core.specs.Shown.{Shown, run_code, outcome}
use Rattle.rast_core.specs.Promises.{IsFullRun}
use Rattle.rast_report.specs.Reports.{report}

-- an accepted program may be run, with each plan that the rules give it
abbrev pub IsRunnable : Program → Type 0
IsRunnable g = (plan : Plan) → IsPlan g plan → IsReady (run_code g plan)

-- A run of the program to its end or to the budget, its outcome and its report, with a trace where one is asked for and with its
-- result. The plan is the one that the rules give.
pub record IsReport (budget : ℕ) (trace : Bool) (program : Program) (ended : Outcome) (text : List ℕ) (history : List Event) : Type 0 where
  pub plan : Plan
  pub planned : IsPlan program plan
  pub config : Shown
  pub run : IsFullRun program plan budget config history
  pub ended_is : ended ≡ outcome program config (length history) budget
  pub text_is : text ≡ report program ended history config trace true
