-- What a command says is what its words call for.
use Rattle.std.proofs.Common.{◌≡◌, ◌<◌, ◌≤◌, refl, ℕ, Bool, List, [], length, IfOk, Result, Ok, Err, inl, inr}
use Rattle.std.specs.declared.option.Option.{Option}
use Rattle.std.specs.declared.alloc.AllocError.{AllocError}
use Rattle.rast_io.specs.Bytes.{Named, Holds}
use Rattle.rast_ast.specs.declared.file.File.{File}
use Rattle.rast_terms.specs.declared.program.Program.{Program}
use Rattle.rast_items.specs.declared.event.Event.{Event}
use Rattle.rast_load.specs.declared.fault.TextFault.{TextFault}
use Rattle.rast_load.specs.Reading.{IsFile, IsFault}
use Rattle.rast_accept.specs.declared.refusal.Refusal.{Refusal}
use Rattle.rast_accept.specs.Lines.{refusal_line, refusal_status}
use Rattle.rast_accept.specs.Loading.{Loads, IsReason, IsUnloaded}
use Rattle.rast_accept.specs.declared.refusal.LoadErr.{LoadErr}
use Rattle.rast_accept.specs.declared.refusal.LoadErr.TheVariants as unloaded
use Rattle.rast_words.specs.Asks.{AsksRun, AsksCheck, AsksShow, AsksWhether}
use Rattle.rast_cli.specs.declared.answer.Answer.{Answer}
use Rattle.rast_cli.specs.declared.answer.Answer.TheVariants.{Usage, ReadFault, TooLong, NoFile, Refused, NoExec, Ran, Accepted, Shown, Decided}
use Rattle.rast_cli.specs.declared.said.Said.{Said}
use Rattle.rast_cli.specs.declared.found.Found.{Found}
use Rattle.rast_cli.specs.declared.found.Found.TheVariants as place
use Rattle.rast_cli.specs.Held.{IsLoaded, HasNoExec}
use Rattle.rast_cli.specs.Answered.{HasLine, NoneComes, RunComes, CheckComes, ShowComes, DecideComes, Comes, IsUsage}
use Rattle.rast_cli.specs.Found.{IsFound, IsFoundIn, SaysRefusal, SaysUnloaded, RefusesText}

-- what is said of a text that isn't loaded
pub says_refusal : (r : Result Said AllocError) (why : Refusal) → IfOk r (λ said. said.answer ≡ Refused (refusal_status why)) → IfOk r (λ said. said.text.items ≡ refusal_line why)
    → IfOk r (λ said. said.history.items ≡ []) → IfOk r (SaysUnloaded (unloaded.Refused why))
says_refusal (Ok said) why p q r = (p, q, r)
says_refusal (Err e) why p q r = tt

pub refuses_text : (text : List ℕ) (why : LoadErr) (said : Said) → IsUnloaded text why → SaysUnloaded why said → RefusesText text said
refuses_text text (unloaded.Refused why) said reason says = record { why = why; reason = reason; says = says }
refuses_text text unloaded.Memory said reason says = absurd says

module _ (limit : ℕ) (words : List (List ℕ)) (held : Option Named) (rose quiet : Type 0) where
  pub by_run : (r : Result Said AllocError) (name : List ℕ) (budget : ℕ) (trace : Bool) → AsksRun words name budget trace
      → IfOk r (λ said. RunComes limit held rose quiet name budget trace said.answer said.text.items said.history.items)
      → IfOk r (λ said. Comes limit words held rose quiet said.answer said.text.items said.history.items)
  by_run (Ok said) name budget trace asks comes = inl (name, budget, trace, asks, comes)
  by_run (Err e) name budget trace asks comes = tt

  pub by_check : (r : Result Said AllocError) (name : List ℕ) → AsksCheck words name
      → IfOk r (λ said. CheckComes limit held rose quiet name said.answer said.text.items said.history.items)
      → IfOk r (λ said. Comes limit words held rose quiet said.answer said.text.items said.history.items)
  by_check (Ok said) name asks comes = inr (inl (name, asks, comes))
  by_check (Err e) name asks comes = tt

  pub by_show : (r : Result Said AllocError) (name : List ℕ) → AsksShow words name
      → IfOk r (λ said. ShowComes limit held rose quiet name said.answer said.text.items said.history.items)
      → IfOk r (λ said. Comes limit words held rose quiet said.answer said.text.items said.history.items)
  by_show (Ok said) name asks comes = inr (inr (inl (name, asks, comes)))
  by_show (Err e) name asks comes = tt

  pub by_decide : (r : Result Said AllocError) (formula : List ℕ) → AsksWhether words formula → quiet
      → IfOk r (λ said. DecideComes limit formula said.answer said.text.items said.history.items)
      → IfOk r (λ said. Comes limit words held rose quiet said.answer said.text.items said.history.items)
  by_decide (Ok said) formula asks still comes = inr (inr (inr (inl (formula, asks, still, comes))))
  by_decide (Err e) formula asks still comes = tt

  pub by_usage : (r : Result Said AllocError) → IsUsage words → quiet
      → IfOk r (λ said. said.answer ≡ Usage) → IfOk r (λ said. HasLine Usage said.text.items said.history.items)
      → IfOk r (λ said. Comes limit words held rose quiet said.answer said.text.items said.history.items)
  by_usage (Ok said) none still p q = rw p (inr (inr (inr (inr (still, (none, q))))))
  by_usage (Err e) none still p q = tt

module _ (limit : ℕ) (held : Option Named) (rose quiet : Type 0) (name : List ℕ) where
  pub refused_file : (r : Result Said AllocError) (bytes : List ℕ) (fault : TextFault) → Holds held name bytes → length bytes ≤ limit → IsFault bytes fault × ((file : File) → IsFile bytes file → ⊥) → quiet
      → IfOk r (λ said. said.answer ≡ NoFile fault) → IfOk r (λ said. HasLine (NoFile fault) said.text.items said.history.items)
      → IfOk r (λ said. ShowComes limit held rose quiet name said.answer said.text.items said.history.items)
  refused_file (Ok said) bytes fault has short none still p q = rw p ((bytes, record { has = has; short = short }, none.0, none.1), still, q)
  refused_file (Err e) bytes fault has short none still p q = tt

  -- a program that isn't there
  pub none_faulted : (said : Said) → rose → said.answer ≡ ReadFault → HasLine ReadFault said.text.items said.history.items
      → NoneComes limit held rose quiet name said.answer said.text.items said.history.items
  none_faulted said fault p q = rw p (fault, q)

  pub none_long : (said : Said) (bytes : List ℕ) → Holds held name bytes → limit < length bytes → quiet → said.answer ≡ TooLong → HasLine TooLong said.text.items said.history.items
      → NoneComes limit held rose quiet name said.answer said.text.items said.history.items
  none_long said bytes has over still p q = rw p ((bytes, has, over), still, q)

  none_refused : (said : Said) (bytes : List ℕ) (why : Refusal) → Holds held name bytes → length bytes ≤ limit → IsReason bytes why → quiet → SaysRefusal why said
      → NoneComes limit held rose quiet name said.answer said.text.items said.history.items
  none_refused said bytes why has short reason still says = rw says.0 ((why, (bytes, record { has = has; short = short }, reason), refl, says.1), still, says.2)

  found : (bytes : List ℕ) (program : Program) → Holds held name bytes → length bytes ≤ limit → Loads bytes program → IsLoaded limit held name program
  found bytes program has short loads = (bytes, record { has = has; short = short }, loads)

  found_here : (bytes : List ℕ) (it : Found) → Holds held name bytes → length bytes ≤ limit → quiet → IsFoundIn bytes it → IsFound limit held rose quiet name it
  found_here bytes (place.Program checked) has short still loads = (found bytes checked.program has short loads, still)
  found_here bytes (place.None said) has short still refuses = none_refused said bytes refuses.why has short refuses.reason still refuses.says

  -- what is found in the bytes of the file
  pub found_by : (r : Result Found AllocError) (bytes : List ℕ) → Holds held name bytes → length bytes ≤ limit → quiet → IfOk r (IsFoundIn bytes) → IfOk r (IsFound limit held rose quiet name)
  found_by (Ok it) bytes has short still is = found_here bytes it has short still is
  found_by (Err e) bytes has short still is = tt

  -- at a run and at a check what isn't there is said in the same way
  pub run_none : (budget : ℕ) (trace : Bool) (answer : Answer) (text : List ℕ) (history : List Event) → NoneComes limit held rose quiet name answer text history
      → RunComes limit held rose quiet name budget trace answer text history
  run_none budget trace Usage text history comes = absurd comes
  run_none budget trace ReadFault text history comes = comes
  run_none budget trace TooLong text history comes = comes
  run_none budget trace (NoFile fault) text history comes = absurd comes
  run_none budget trace (Refused status) text history comes = comes
  run_none budget trace NoExec text history comes = absurd comes
  run_none budget trace (Ran outcome) text history comes = absurd comes
  run_none budget trace Accepted text history comes = absurd comes
  run_none budget trace Shown text history comes = absurd comes
  run_none budget trace (Decided d) text history comes = absurd comes

  pub check_none : (answer : Answer) (text : List ℕ) (history : List Event) → NoneComes limit held rose quiet name answer text history
      → CheckComes limit held rose quiet name answer text history
  check_none Usage text history comes = absurd comes
  check_none ReadFault text history comes = comes
  check_none TooLong text history comes = comes
  check_none (NoFile fault) text history comes = absurd comes
  check_none (Refused status) text history comes = comes
  check_none NoExec text history comes = absurd comes
  check_none (Ran outcome) text history comes = absurd comes
  check_none Accepted text history comes = absurd comes
  check_none Shown text history comes = absurd comes
  check_none (Decided d) text history comes = absurd comes

  pub no_exec : (budget : ℕ) (trace : Bool) (r : Result Said AllocError) → HasNoExec limit held name → quiet → IfOk r (λ said. said.answer ≡ NoExec) → IfOk r (λ said. HasLine NoExec said.text.items said.history.items)
      → IfOk r (λ said. RunComes limit held rose quiet name budget trace said.answer said.text.items said.history.items)
  no_exec budget trace (Ok said) none still p q = rw p (none, still, q)
  no_exec budget trace (Err e) none still p q = tt

  pub accepts : (r : Result Said AllocError) (program : Program) → IsLoaded limit held name program → quiet → IfOk r (λ said. said.answer ≡ Accepted) → IfOk r (λ said. HasLine Accepted said.text.items said.history.items)
      → IfOk r (λ said. CheckComes limit held rose quiet name said.answer said.text.items said.history.items)
  accepts (Ok said) program loaded still p q = rw p ((program, loaded), still, q)
  accepts (Err e) program loaded still p q = tt
