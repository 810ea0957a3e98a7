-- What the exit status says, for each command.
use Rattle.std.specs.Prelude.{◌≡◌, ◌⊎◌, ℕ, Bool, List, [], length, codes, Ok}
use Rattle.std.specs.declared.option.Option.{Option}
use Rattle.std.specs.Io.KnownBytes.{Appends}
use Rattle.rast_io.specs.Bytes.{Named}
use Rattle.rast_ast.specs.declared.form.Form.{Form}
use Rattle.rast_index.specs.Truth.{Follows}
use Rattle.rast_items.specs.declared.event.Event.{Event}
use Rattle.rast_items.specs.declared.link.Pid.{Pid}
use Rattle.rast_core.specs.declared.answer.Outcome.{Outcome}
use Rattle.rast_core.specs.declared.answer.Outcome.TheVariants.{Finished, OutOfBudget, IndexLimit}
use Rattle.rast_load.specs.declared.fault.TextFault.{TextFault}
use Rattle.rast_load.specs.Lines.{fault_line, fault_status}
use Rattle.rast_formula.specs.declared.numbered.Numbered.{Numbered}
use Rattle.rast_formula.specs.Variables.{numbered}
use Rattle.rast_decide.specs.declared.decision.Decision.{Decision}
use Rattle.rast_decide.specs.Decides.{Decides, IsForm}
use Rattle.rast_decide.specs.Lines.{status_of}
use Rattle.rast_accept.specs.declared.refusal.Refusal.{Refusal}
use Rattle.rast_accept.specs.Lines.{refusal_line, refusal_status}
use Rattle.rast_cli.specs.Held.{IsTooLong, IsRefusedFile, HasNoExec, IsFaulty}
use Rattle.rast_cli.specs.Answered.{AcceptsFile, ShowsFile}
use Rattle.rast_cli.specs.Headline.{IsSoundRun}

-- the file says no accepted program for a reason of this status, and the sink gained the reason's line
abbrev pub IsRefusedWith : ℕ → Option Named → Option (List ℕ) → Option (List ℕ) → List ℕ → ℕ → Type 0
IsRefusedWith limit held old new name status = (why : Refusal) × IsRefusedFile limit held name why × (refusal_status why ≡ status) × Appends old new (refusal_line why)

-- the file says an accepted program that executes nothing, and the sink gained the line of it
abbrev pub IsNoExec : ℕ → Option Named → Option (List ℕ) → Option (List ℕ) → List ℕ → Type 0
IsNoExec limit held old new name = HasNoExec limit held name × Appends old new (codes "refused: no exec\n")

-- a sound run of this outcome was made, and the sink gained its report
abbrev pub IsReported : ℕ → Option Named → Option (List ℕ) → Option (List ℕ) → List ℕ → ℕ → Bool → Outcome → List Event → Type 0
IsReported limit held old new name budget trace outcome history = (text : List ℕ) × IsSoundRun limit held name budget trace outcome text history × Appends old new text

-- `rast run`
pub record RunEnds (limit : ℕ) (held : Option Named) (old new : Option (List ℕ)) (name : List ℕ) (budget : ℕ) (trace : Bool) (history : List Event) (status : ℕ) : Type 0 where
  pub finished : status ≡ 0 → IsReported limit held old new name budget trace Finished history
  pub refused : status ≡ 1 → IsRefusedWith limit held old new name 1 ⊎ IsNoExec limit held old new name
  pub bound : status ≡ 5 → IsRefusedWith limit held old new name 5
  pub out_of_budget : status ≡ 6 → IsReported limit held old new name budget trace OutOfBudget history
  pub index_limit : status ≡ 7 → (pid : Pid) × (value : ℕ) × IsReported limit held old new name budget trace (IndexLimit pid value) history
  pub too_long : status ≡ 9 → IsTooLong limit held name

-- `rast check`
pub record CheckEnds (limit : ℕ) (held : Option Named) (old new : Option (List ℕ)) (name : List ℕ) (status : ℕ) : Type 0 where
  pub accepted : status ≡ 0 → AcceptsFile limit held name × Appends old new (codes "accepted\n")
  pub refused : status ≡ 1 → IsRefusedWith limit held old new name 1
  pub bound : status ≡ 5 → IsRefusedWith limit held old new name 5
  pub too_long : status ≡ 9 → IsTooLong limit held name

-- the sink gained the canonical text of the file
abbrev pub IsShown : ℕ → Option Named → Option (List ℕ) → Option (List ℕ) → List ℕ → Type 0
IsShown limit held old new name = (text : List ℕ) × ShowsFile limit held name text × Appends old new text

-- the file has a fault of this status, and the sink gained its line
abbrev pub IsRefused : ℕ → Option Named → Option (List ℕ) → Option (List ℕ) → List ℕ → ℕ → Type 0
IsRefused limit held old new name status = (fault : TextFault) × IsFaulty limit held name fault × (fault_status fault ≡ status) × Appends old new (fault_line fault)

-- `rast show`
pub record ShowEnds (limit : ℕ) (held : Option Named) (old new : Option (List ℕ)) (name : List ℕ) (status : ℕ) : Type 0 where
  pub shown : status ≡ 0 → IsShown limit held old new name
  pub refused : status ≡ 1 → IsRefused limit held old new name 1
  pub too_deep : status ≡ 5 → IsRefused limit held old new name 5
  pub too_long : status ≡ 9 → IsTooLong limit held name

-- the text is a formula that is true at all naturals, and the sink gained the line `holds`
pub record IsTrueFormula (text : List ℕ) (old new : Option (List ℕ)) : Type 0 where
  pub form : Form
  pub is : IsForm text form
  pub subject : Numbered
  pub stands : numbered form ≡ Ok subject
  pub follows : Follows (length subject.variables) [] subject.formula
  pub printed : Appends old new (codes "holds\n")

-- this came of the formula, and the sink gained its line
abbrev pub IsDecided : ℕ → Option (List ℕ) → Option (List ℕ) → List ℕ → ℕ → Type 0
IsDecided limit old new formula status = (d : Decision) × (line : List ℕ) × Decides limit formula d line × (status_of d ≡ status) × Appends old new line

-- `rast decide`
pub record DecideEnds (limit : ℕ) (old new : Option (List ℕ)) (formula : List ℕ) (status : ℕ) : Type 0 where
  pub holds : status ≡ 0 → IsTrueFormula formula old new
  pub refused : status ≡ 1 → IsDecided limit old new formula 1
  pub bound : status ≡ 5 → IsDecided limit old new formula 5
  pub too_long : status ≡ 9 → IsDecided limit old new formula 9

-- the status of a run that ended
abbrev pub IsRunStatus : ℕ → Type 0
IsRunStatus status = (status ≡ 0) ⊎ ((status ≡ 6) ⊎ (status ≡ 7))
