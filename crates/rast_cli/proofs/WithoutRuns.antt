-- What comes of words where no run is made, and what an exit status says then.
use Rattle.std.proofs.Common.{◌≡◌, ◌⊎◌, ℕ, Bool, List, [], IfOk, Result, Ok, Err, inl, inr, ⊎_elim, arith}
use Rattle.std.specs.declared.option.Option.{Option}
use Rattle.std.specs.declared.alloc.AllocError.{AllocError}
use Rattle.rast_io.specs.Bytes.{Named}
use Rattle.rast_io.specs.Causes.{Rose}
use Rattle.rast_items.specs.declared.event.Event.{Event}
use Rattle.rast_words.specs.Asks.{AsksRun, AsksCheck, AsksShow, AsksWhether}
use Rattle.rast_cli.specs.declared.answer.Answer.{Answer}
use Rattle.rast_cli.specs.declared.answer.Answer.TheVariants.{Usage, ReadFault, TooLong, NoFile, Refused, NoExec, Ran, Accepted, Shown, Decided}
use Rattle.rast_cli.specs.declared.said.Said.{Said}
use Rattle.rast_cli.specs.Lines.{code_of, line_of}
use Rattle.rast_cli.specs.Answered.{HasLine, IsUsage, CheckComes, ShowComes, DecideComes, Comes, Ends}
use Rattle.rast_cli.specs.WithoutRuns.{IsUsageOrRun, ComesWithoutRun}
use Rattle.rast_cli.specs.Rows.{CheckEnds, ShowEnds, DecideEnds}
use Rattle.rast_cli.specs.Held.{AsksForCheck, AsksForFile}
use Rattle.rast_cli.proofs.Codes.{at_code}
use Rattle.rast_cli.proofs.AskLemmas.{run_or_check, run_or_show, run_or_decide}
use Rattle.rast_cli.proofs.TopRows.{check_of, show_of, decide_of, usage_of, fault_of, checks_of, shows_of}

-- what a command says where no run is made
module _ (limit : ℕ) (words : List (List ℕ)) (held : Option Named) (rose quiet : Type 0) where
  pub without_check : (r : Result Said AllocError) (name : List ℕ) → AsksCheck words name
      → IfOk r (λ said. CheckComes limit held rose quiet name said.answer said.text.items said.history.items)
      → IfOk r (λ said. ComesWithoutRun limit words held rose quiet said.answer said.text.items said.history.items)
  without_check (Ok said) name asks comes = inl (name, asks, comes)
  without_check (Err e) name asks comes = tt

  pub without_show : (r : Result Said AllocError) (name : List ℕ) → AsksShow words name
      → IfOk r (λ said. ShowComes limit held rose quiet name said.answer said.text.items said.history.items)
      → IfOk r (λ said. ComesWithoutRun limit words held rose quiet said.answer said.text.items said.history.items)
  without_show (Ok said) name asks comes = inr (inl (name, asks, comes))
  without_show (Err e) name asks comes = tt

  pub without_decide : (r : Result Said AllocError) (formula : List ℕ) → AsksWhether words formula → quiet
      → IfOk r (λ said. DecideComes limit formula said.answer said.text.items said.history.items)
      → IfOk r (λ said. ComesWithoutRun limit words held rose quiet said.answer said.text.items said.history.items)
  without_decide (Ok said) formula asks still comes = inr (inr (inl (formula, asks, still, comes)))
  without_decide (Err e) formula asks still comes = tt

  pub without_run : (r : Result Said AllocError) (name : List ℕ) (budget : ℕ) (trace : Bool) → AsksRun words name budget trace → quiet
      → IfOk r (λ said. said.answer ≡ Usage) → IfOk r (λ said. HasLine Usage said.text.items said.history.items)
      → IfOk r (λ said. ComesWithoutRun limit words held rose quiet said.answer said.text.items said.history.items)
  without_run (Ok said) name budget trace asks still p q = inr (inr (inr (still, record { cause = inr (name, budget, trace, asks); answer_is = p; line = q })))
  without_run (Err e) name budget trace asks still p q = tt

  pub without_usage : (r : Result Said AllocError) → IsUsage words → quiet
      → IfOk r (λ said. said.answer ≡ Usage) → IfOk r (λ said. HasLine Usage said.text.items said.history.items)
      → IfOk r (λ said. ComesWithoutRun limit words held rose quiet said.answer said.text.items said.history.items)
  without_usage (Ok said) none still p q = inr (inr (inr (still, record { cause = inl none; answer_is = p; line = q })))
  without_usage (Err e) none still p q = tt

module _ (limit : ℕ) (words : List (List ℕ)) (held : Option Named) (rose quiet : Type 0) (text : List ℕ) (history : List Event) where
  -- words that ask for a run, at which the usage line comes
  record RunIsUsage (answer : Answer) : Type 0 where
    pub name : List ℕ
    pub budget : ℕ
    pub trace : Bool
    pub asks : AsksRun words name budget trace
    pub answer_is : answer ≡ Usage
    pub line : HasLine Usage text history

  by_cause : (answer : Answer) → quiet → IsUsageOrRun words → answer ≡ Usage → HasLine Usage text history → Comes limit words held rose quiet answer text history ⊎ RunIsUsage answer
  by_cause answer still (inl none) p q = inl (rw p (inr (inr (inr (inr (still, (none, q)))))))
  by_cause answer still (inr run) p q = inr (record { name = run.0; budget = run.1; trace = run.2; asks = run.3; answer_is = p; line = q })

  -- all but the words of a run come as they do where runs are made
  all_but_run : (answer : Answer) → ComesWithoutRun limit words held rose quiet answer text history → Comes limit words held rose quiet answer text history ⊎ RunIsUsage answer
  all_but_run answer (inl check) = inl (inr (inl check))
  all_but_run answer (inr (inl show)) = inl (inr (inr (inl show)))
  all_but_run answer (inr (inr (inl decide))) = inl (inr (inr (inr (inl decide))))
  all_but_run answer (inr (inr (inr usage))) = by_cause answer usage.0 usage.1.cause usage.1.answer_is usage.1.line

  pub check_of_static : (old new : Option (List ℕ)) (before now status : ℕ) (name : List ℕ) → AsksCheck words name → (answer : Answer) → ComesWithoutRun limit words held rose quiet answer text history
      → Ends old new before now text (code_of answer) status → CheckEnds limit held old new name status
  check_of_static old new before now status name asks answer comes ends =
      ⊎_elim (λ c. check_of limit words held rose quiet text history old new before now status name asks answer c ends) (λ r. absurd (run_or_check words r.name r.budget r.trace name r.asks asks)) (all_but_run answer comes)

  pub show_of_static : (old new : Option (List ℕ)) (before now status : ℕ) (name : List ℕ) → AsksShow words name → (answer : Answer) → ComesWithoutRun limit words held rose quiet answer text history
      → Ends old new before now text (code_of answer) status → ShowEnds limit held old new name status
  show_of_static old new before now status name asks answer comes ends =
      ⊎_elim (λ c. show_of limit words held rose quiet text history old new before now status name asks answer c ends) (λ r. absurd (run_or_show words r.name r.budget r.trace name r.asks asks)) (all_but_run answer comes)

  pub decide_of_static : (old new : Option (List ℕ)) (before now status : ℕ) (formula : List ℕ) → AsksWhether words formula → (answer : Answer) → ComesWithoutRun limit words held rose quiet answer text history
      → Ends old new before now text (code_of answer) status → DecideEnds limit old new formula status
  decide_of_static old new before now status formula asks answer comes ends =
      ⊎_elim (λ c. decide_of limit words held rose quiet text history old new before now status formula asks answer c ends) (λ r. absurd (run_or_decide words r.name r.budget r.trace formula r.asks asks)) (all_but_run answer comes)

  pub run_of_static : (old new : Option (List ℕ)) (before now status : ℕ) (name : List ℕ) (budget : ℕ) (trace : Bool) → AsksRun words name budget trace → (answer : Answer)
      → ComesWithoutRun limit words held rose quiet answer text history → Ends old new before now text (code_of answer) status → Ends old new before now (line_of Usage) 2 status
  run_of_static old new before now status name budget trace asks answer (inl check) ends = absurd (run_or_check words name budget trace check.0 asks check.1)
  run_of_static old new before now status name budget trace asks answer (inr (inl show)) ends = absurd (run_or_show words name budget trace show.0 asks show.1)
  run_of_static old new before now status name budget trace asks answer (inr (inr (inl decide))) ends = absurd (run_or_decide words name budget trace decide.0 asks decide.1)
  run_of_static old new before now status name budget trace asks answer (inr (inr (inr usage))) ends = rw (usage.1.answer_is, usage.1.line.0) at ends

  pub usage_of_static : (old new : Option (List ℕ)) (before now status : ℕ) (answer : Answer) → ComesWithoutRun limit words held rose quiet answer text history
      → Ends old new before now text (code_of answer) status → status ≡ 2 → IsUsageOrRun words
  usage_of_static old new before now status answer comes ends is =
      ⊎_elim (λ c. inl (usage_of limit words held rose quiet text history old new before now status answer c ends is)) (λ r. inr (r.name, r.budget, r.trace, r.asks)) (all_but_run answer comes)

  no_fault : (old new : Option (List ℕ)) (before now status : ℕ) (answer : Answer) → answer ≡ Usage → Ends old new before now text (code_of answer) status → status ≡ 3 → ⊥
  no_fault old new before now status answer p ends is =
      let e : 3 ≡ code_of Usage = rw p at (at_code old new before now text (code_of answer) status 3 ends is (λ four. omega (arith, four))).0 in
      omega (arith, e)

  pub fault_of_static : (old new : Option (List ℕ)) (before now status : ℕ) (answer : Answer) → ComesWithoutRun limit words held rose quiet answer text history
      → Ends old new before now text (code_of answer) status → status ≡ 3 → rose
  fault_of_static old new before now status answer comes ends is =
      ⊎_elim (λ c. fault_of limit words held rose quiet text history old new before now status answer c ends is) (λ r. absurd (no_fault old new before now status answer r.answer_is ends is)) (all_but_run answer comes)

  pub checks_of_static : (rose → ⊥) → (p : AsksForCheck limit words held) (old new : Option (List ℕ)) (before now status : ℕ) (answer : Answer) → ComesWithoutRun limit words held rose quiet answer text history
      → Ends old new before now text (code_of answer) status → (Rose before now → ⊥) → status ≡ 0
  checks_of_static calm p old new before now status answer comes ends still =
      ⊎_elim (λ c. checks_of limit words held rose quiet text history calm p old new before now status answer c ends still) (λ r. absurd (run_or_check words r.name r.budget r.trace p.name r.asks p.asks)) (all_but_run answer comes)

  pub shows_of_static : (rose → ⊥) → (p : AsksForFile limit words held) (old new : Option (List ℕ)) (before now status : ℕ) (answer : Answer) → ComesWithoutRun limit words held rose quiet answer text history
      → Ends old new before now text (code_of answer) status → (Rose before now → ⊥) → status ≡ 0
  shows_of_static calm p old new before now status answer comes ends still =
      ⊎_elim (λ c. shows_of limit words held rose quiet text history calm p old new before now status answer c ends still) (λ r. absurd (run_or_show words r.name r.budget r.trace p.name r.asks p.asks)) (all_but_run answer comes)

  -- no run is in what comes
  module _ (name : List ℕ) where
    no_run_checked : (answer : Answer) → CheckComes limit held rose quiet name answer text history → history ≡ []
    no_run_checked Usage comes = absurd comes
    no_run_checked ReadFault comes = comes.1.1
    no_run_checked TooLong comes = comes.2.1
    no_run_checked (NoFile fault) comes = absurd comes
    no_run_checked (Refused status) comes = comes.2
    no_run_checked NoExec comes = absurd comes
    no_run_checked (Ran outcome) comes = absurd comes
    no_run_checked Accepted comes = comes.2.1
    no_run_checked Shown comes = absurd comes
    no_run_checked (Decided d) comes = absurd comes

    no_run_shown : (answer : Answer) → ShowComes limit held rose quiet name answer text history → history ≡ []
    no_run_shown Usage comes = absurd comes
    no_run_shown ReadFault comes = comes.1.1
    no_run_shown TooLong comes = comes.2.1
    no_run_shown (NoFile fault) comes = comes.2.1
    no_run_shown (Refused status) comes = absurd comes
    no_run_shown NoExec comes = absurd comes
    no_run_shown (Ran outcome) comes = absurd comes
    no_run_shown Accepted comes = absurd comes
    no_run_shown Shown comes = comes.2
    no_run_shown (Decided d) comes = absurd comes

    no_run_decided : (answer : Answer) → DecideComes limit name answer text history → history ≡ []
    no_run_decided Usage comes = absurd comes
    no_run_decided ReadFault comes = absurd comes
    no_run_decided TooLong comes = absurd comes
    no_run_decided (NoFile fault) comes = absurd comes
    no_run_decided (Refused status) comes = absurd comes
    no_run_decided NoExec comes = absurd comes
    no_run_decided (Ran outcome) comes = absurd comes
    no_run_decided Accepted comes = absurd comes
    no_run_decided Shown comes = absurd comes
    no_run_decided (Decided d) comes = comes.1

  pub no_run : (answer : Answer) → ComesWithoutRun limit words held rose quiet answer text history → history ≡ []
  no_run answer (inl check) = no_run_checked check.0 answer check.2
  no_run answer (inr (inl show)) = no_run_shown show.0 answer show.2
  no_run answer (inr (inr (inl decide))) = no_run_decided decide.0 answer decide.3
  no_run answer (inr (inr (inr usage))) = usage.1.line.1
