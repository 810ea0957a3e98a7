-- What comes of words, by the exit status that the answer has.
use Rattle.std.proofs.Common.{◌≡◌, ◌⊎◌, ℕ, Bool, List, refl, inl, inr, codes}
use Rattle.std.specs.declared.option.Option.{Option}
use Rattle.rast_io.specs.Bytes.{Named}
use Rattle.rast_items.specs.declared.event.Event.{Event}
use Rattle.rast_core.specs.declared.answer.Outcome.{Outcome}
use Rattle.rast_load.specs.declared.fault.TextFault.{TextFault}
use Rattle.rast_load.specs.Lines.{fault_line, fault_status}
use Rattle.rast_decide.specs.declared.decision.Decision.{Decision}
use Rattle.rast_decide.specs.Lines.{status_of}
use Rattle.rast_decide.specs.Decides.{Decides}
use Rattle.rast_cli.specs.declared.answer.Answer.{Answer}
use Rattle.rast_cli.specs.declared.answer.Answer.TheVariants.{Usage, ReadFault, TooLong, NoFile, Refused, NoExec, Ran, Accepted, Shown, Decided}
use Rattle.rast_cli.specs.Lines.{code_of}
use Rattle.rast_cli.specs.Held.{IsTooLong, HasNoExec, IsFaulty}
use Rattle.rast_cli.specs.Answered.{RefusesFile, RunsFile, AcceptsFile, ShowsFile, NoneComes, RunComes, CheckComes, ShowComes, DecideComes, UsageComes, IsUsage}

module _ (limit : ℕ) (held : Option Named) (rose quiet : Type 0) (name : List ℕ) where
  -- no accepted program
  abbrev pub NoneView : ℕ → List ℕ → Type 0
  NoneView code text = ((code ≡ 3) × rose) ⊎ (((code ≡ 9) × IsTooLong limit held name) ⊎ RefusesFile limit held name code text)

  pub none_view : (answer : Answer) (text : List ℕ) (history : List Event) → NoneComes limit held rose quiet name answer text history → NoneView (code_of answer) text
  none_view Usage text history comes = absurd comes
  none_view ReadFault text history comes = inl (refl, comes.0)
  none_view TooLong text history comes = inr (inl (refl, comes.0))
  none_view (NoFile fault) text history comes = absurd comes
  none_view (Refused status) text history comes = inr (inr comes.0)
  none_view NoExec text history comes = absurd comes
  none_view (Ran outcome) text history comes = absurd comes
  none_view Accepted text history comes = absurd comes
  none_view Shown text history comes = absurd comes
  none_view (Decided d) text history comes = absurd comes

  -- a run
  abbrev pub RunView : ℕ → Bool → ℕ → List ℕ → List Event → Type 0
  RunView budget trace code text history =
      NoneView code text ⊎ (((code ≡ 1) × HasNoExec limit held name × (text ≡ codes "refused: no exec\n"))
      ⊎ ((o : Outcome) × (code ≡ code_of (Ran o)) × RunsFile limit held name budget trace o text history))

  pub run_view : (budget : ℕ) (trace : Bool) (answer : Answer) (text : List ℕ) (history : List Event) → RunComes limit held rose quiet name budget trace answer text history
      → RunView budget trace (code_of answer) text history
  run_view budget trace Usage text history comes = absurd comes
  run_view budget trace ReadFault text history comes = inl (none_view ReadFault text history comes)
  run_view budget trace TooLong text history comes = inl (none_view TooLong text history comes)
  run_view budget trace (NoFile fault) text history comes = absurd comes
  run_view budget trace (Refused status) text history comes = inl (none_view (Refused status) text history comes)
  run_view budget trace NoExec text history comes = inr (inl (refl, comes.0, comes.2.0))
  run_view budget trace (Ran outcome) text history comes = inr (inr (outcome, refl, comes.0))
  run_view budget trace Accepted text history comes = absurd comes
  run_view budget trace Shown text history comes = absurd comes
  run_view budget trace (Decided d) text history comes = absurd comes

  -- a check
  abbrev pub CheckView : ℕ → List ℕ → Type 0
  CheckView code text = NoneView code text ⊎ ((code ≡ 0) × AcceptsFile limit held name × (text ≡ codes "accepted\n"))

  pub check_view : (answer : Answer) (text : List ℕ) (history : List Event) → CheckComes limit held rose quiet name answer text history → CheckView (code_of answer) text
  check_view Usage text history comes = absurd comes
  check_view ReadFault text history comes = inl (none_view ReadFault text history comes)
  check_view TooLong text history comes = inl (none_view TooLong text history comes)
  check_view (NoFile fault) text history comes = absurd comes
  check_view (Refused status) text history comes = inl (none_view (Refused status) text history comes)
  check_view NoExec text history comes = absurd comes
  check_view (Ran outcome) text history comes = absurd comes
  check_view Accepted text history comes = inr (refl, comes.0, comes.2.0)
  check_view Shown text history comes = absurd comes
  check_view (Decided d) text history comes = absurd comes

  -- a canonical text
  abbrev pub ShowView : ℕ → List ℕ → Type 0
  ShowView code text = ((code ≡ 3) × rose) ⊎ (((code ≡ 9) × IsTooLong limit held name)
      ⊎ (((fault : TextFault) × (code ≡ fault_status fault) × IsFaulty limit held name fault × (text ≡ fault_line fault)) ⊎ ((code ≡ 0) × ShowsFile limit held name text)))

  pub show_view : (answer : Answer) (text : List ℕ) (history : List Event) → ShowComes limit held rose quiet name answer text history → ShowView (code_of answer) text
  show_view Usage text history comes = absurd comes
  show_view ReadFault text history comes = inl (refl, comes.0)
  show_view TooLong text history comes = inr (inl (refl, comes.0))
  show_view (NoFile fault) text history comes = inr (inr (inl (fault, refl, comes.0, comes.2.0)))
  show_view (Refused status) text history comes = absurd comes
  show_view NoExec text history comes = absurd comes
  show_view (Ran outcome) text history comes = absurd comes
  show_view Accepted text history comes = absurd comes
  show_view Shown text history comes = inr (inr (inr (refl, comes.0)))
  show_view (Decided d) text history comes = absurd comes

-- a formula
pub decide_view : (limit : ℕ) (formula : List ℕ) (answer : Answer) (text : List ℕ) (history : List Event) → DecideComes limit formula answer text history
    → (d : Decision) × (code_of answer ≡ status_of d) × Decides limit formula d text
decide_view limit formula Usage text history comes = absurd comes
decide_view limit formula ReadFault text history comes = absurd comes
decide_view limit formula TooLong text history comes = absurd comes
decide_view limit formula (NoFile fault) text history comes = absurd comes
decide_view limit formula (Refused status) text history comes = absurd comes
decide_view limit formula NoExec text history comes = absurd comes
decide_view limit formula (Ran outcome) text history comes = absurd comes
decide_view limit formula Accepted text history comes = absurd comes
decide_view limit formula Shown text history comes = absurd comes
decide_view limit formula (Decided d) text history comes = (d, refl, comes.0)

-- words that aren't taken
pub usage_view : (words : List (List ℕ)) (answer : Answer) (text : List ℕ) (history : List Event) → UsageComes words answer text history → (code_of answer ≡ 2) × IsUsage words
usage_view words Usage text history comes = (refl, comes.0)
usage_view words ReadFault text history comes = absurd comes
usage_view words TooLong text history comes = absurd comes
usage_view words (NoFile fault) text history comes = absurd comes
usage_view words (Refused status) text history comes = absurd comes
usage_view words NoExec text history comes = absurd comes
usage_view words (Ran outcome) text history comes = absurd comes
usage_view words Accepted text history comes = absurd comes
usage_view words Shown text history comes = absurd comes
usage_view words (Decided d) text history comes = absurd comes
