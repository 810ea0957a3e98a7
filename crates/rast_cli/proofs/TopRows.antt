-- What an exit status says of any words, and words whose file is told.
use Rattle.std.proofs.Common.{◌≡◌, ◌∙◌, ◌⊎◌, ◌<◌, ◌≤◌, ℕ, Bool, List, [], length, None, Some, sym, ap, subst, inl, inr, ⊎_elim, arith, codes}
use Rattle.std.specs.declared.option.Option.{Option}
use Rattle.rast_io.specs.Bytes.{Named, Holds}
use Rattle.rast_io.specs.Causes.{Rose}
use Rattle.rast_ast.specs.declared.file.File.{File}
use Rattle.rast_terms.specs.declared.program.Program.{Program}
use Rattle.rast_items.specs.declared.event.Event.{Event}
use Rattle.rast_core.specs.declared.answer.Outcome.{Outcome}
use Rattle.rast_load.specs.Lines.{fault_status}
use Rattle.rast_load.specs.Reading.{IsFile}
use Rattle.rast_accept.specs.Loading.{Loads}
use Rattle.rast_accept.specs.Lines.{refusal_status}
use Rattle.rast_accept.proofs.Clear.{clear_reason, clear_same}
use Rattle.rast_words.specs.Asks.{AsksRun, AsksCheck, AsksShow, AsksWhether}
use Rattle.rast_cli.specs.declared.answer.Answer.{Answer}
use Rattle.rast_cli.specs.declared.answer.Answer.TheVariants.{Ran}
use Rattle.rast_cli.specs.Lines.{code_of}
use Rattle.rast_cli.specs.Held.{IsHeld, IsClear, AsksForProgram, AsksForCheck, AsksForFile}
use Rattle.rast_cli.specs.Answered.{UsageComes, Comes, IsUsage, Ends}
use Rattle.rast_cli.specs.Headline.{IsNoneOrSound}
use Rattle.rast_cli.specs.Rows.{RunEnds, CheckEnds, ShowEnds, DecideEnds, IsRunStatus}
use Rattle.rast_cli.proofs.Codes.{fault_codes, refusal_codes, outcome_codes, decision_codes, at_code}
use Rattle.rast_cli.proofs.Views.{NoneView, RunView, CheckView, ShowView, run_view, check_view, show_view, decide_view, usage_view}
use Rattle.rast_cli.proofs.AskLemmas.{run_or_check, run_or_show, run_or_decide, check_or_show, check_or_decide, show_or_decide, no_usage, same_run, same_check, same_show, same_formula}
use Rattle.rast_cli.proofs.Ending.{run_sound}
use Rattle.rast_cli.proofs.RunRows.{run_ends, check_ends}
use Rattle.rast_cli.proofs.ShowRows.{show_ends}
use Rattle.rast_cli.proofs.DecideRows.{decide_ends}

-- words at which the usage line comes aren't taken
usage_in : (words : List (List ℕ)) (text : List ℕ) (history : List Event) (answer : Answer) → UsageComes words answer text history → IsUsage words
usage_in words text history answer comes = (usage_view words answer text history comes).1

module _ (limit : ℕ) (words : List (List ℕ)) (held : Option Named) (rose quiet : Type 0) (text : List ℕ) (history : List Event) (old new : Option (List ℕ)) (before now status : ℕ) where
  pub run_of : (name : List ℕ) (budget : ℕ) (trace : Bool) → AsksRun words name budget trace → (answer : Answer) → Comes limit words held rose quiet answer text history
      → Ends old new before now text (code_of answer) status → RunEnds limit held old new name budget trace history status
  run_of name budget trace asks answer (inl run) ends =
      let same = same_run words name budget trace run.0 run.1 run.2 asks run.3 in
      run_ends limit held rose quiet name text history old new before now status answer budget trace (rw (same.0, same.1, same.2) at run.4) ends
  run_of name budget trace asks answer (inr (inl check)) ends = absurd (run_or_check words name budget trace check.0 asks check.1)
  run_of name budget trace asks answer (inr (inr (inl show))) ends = absurd (run_or_show words name budget trace show.0 asks show.1)
  run_of name budget trace asks answer (inr (inr (inr (inl decide)))) ends = absurd (run_or_decide words name budget trace decide.0 asks decide.1)
  run_of name budget trace asks answer (inr (inr (inr (inr usage)))) ends = absurd (no_usage words (codes "run") asks.0 asks.1 (usage_in words text history answer usage.1))

  pub check_of : (name : List ℕ) → AsksCheck words name → (answer : Answer) → Comes limit words held rose quiet answer text history
      → Ends old new before now text (code_of answer) status → CheckEnds limit held old new name status
  check_of name asks answer (inl run) ends = absurd (run_or_check words run.0 run.1 run.2 name run.3 asks)
  check_of name asks answer (inr (inl check)) ends = check_ends limit held rose quiet name text history old new before now status answer (rw (same_check words name check.0 asks check.1) at check.2) ends
  check_of name asks answer (inr (inr (inl show))) ends = absurd (check_or_show words name show.0 asks show.1)
  check_of name asks answer (inr (inr (inr (inl decide)))) ends = absurd (check_or_decide words name decide.0 asks decide.1)
  check_of name asks answer (inr (inr (inr (inr usage)))) ends = absurd (no_usage words (codes "check") asks.0 asks.1 (usage_in words text history answer usage.1))

  pub show_of : (name : List ℕ) → AsksShow words name → (answer : Answer) → Comes limit words held rose quiet answer text history
      → Ends old new before now text (code_of answer) status → ShowEnds limit held old new name status
  show_of name asks answer (inl run) ends = absurd (run_or_show words run.0 run.1 run.2 name run.3 asks)
  show_of name asks answer (inr (inl check)) ends = absurd (check_or_show words check.0 name check.1 asks)
  show_of name asks answer (inr (inr (inl show))) ends = show_ends limit held rose quiet name text history old new before now status answer (rw (same_show words name show.0 asks show.1) at show.2) ends
  show_of name asks answer (inr (inr (inr (inl decide)))) ends = absurd (show_or_decide words name decide.0 asks decide.1)
  show_of name asks answer (inr (inr (inr (inr usage)))) ends = absurd (no_usage words (codes "show") asks.0 asks.1 (usage_in words text history answer usage.1))

  pub decide_of : (formula : List ℕ) → AsksWhether words formula → (answer : Answer) → Comes limit words held rose quiet answer text history
      → Ends old new before now text (code_of answer) status → DecideEnds limit old new formula status
  decide_of formula asks answer (inl run) ends = absurd (run_or_decide words run.0 run.1 run.2 formula run.3 asks)
  decide_of formula asks answer (inr (inl check)) ends = absurd (check_or_decide words check.0 formula check.1 asks)
  decide_of formula asks answer (inr (inr (inl show))) ends = absurd (show_or_decide words show.0 formula show.1 asks)
  decide_of formula asks answer (inr (inr (inr (inl decide)))) ends = decide_ends limit formula text history old new before now status answer (rw (same_formula words formula decide.0 asks decide.1) at decide.3) ends
  decide_of formula asks answer (inr (inr (inr (inr usage)))) ends = absurd (no_usage words (codes "decide") asks.0 asks.1 (usage_in words text history answer usage.1))

-- status 2 is a usage refusal, and status 3 a read fault
module _ (limit : ℕ) (words : List (List ℕ)) (held : Option Named) (rose quiet : Type 0) (text : List ℕ) (history : List Event) where
  -- what the answer's code may be, where the words are taken
  abbrev IsCode : ℕ → Type 0
  IsCode code = ((code ≡ 3) × rose) ⊎ ((code ≡ 0) ⊎ ((code ≡ 1) ⊎ ((code ≡ 5) ⊎ ((code ≡ 6) ⊎ ((code ≡ 7) ⊎ (code ≡ 9))))))

  refusal_code : (r : ℕ) → (r ≡ 1) ⊎ (r ≡ 5) → (k : ℕ) → k ≡ r → IsCode k
  refusal_code r c k e = ⊎_elim (λ is. inr (inr (inl (e ∙ is)))) (λ is. inr (inr (inr (inl (e ∙ is))))) c

  none_code : (name : List ℕ) (code : ℕ) → NoneView limit held rose quiet name code text → IsCode code
  none_code name code (inl fault) = inl fault
  none_code name code (inr (inl long)) = inr (inr (inr (inr (inr (inr long.0)))))
  none_code name code (inr (inr refused)) = refusal_code (refusal_status refused.0) (refusal_codes refused.0) code refused.2

  run_code : (code : ℕ) (o : Outcome) → code ≡ code_of (Ran o) → IsCode code
  run_code code o e =
      ⊎_elim (λ is. inr (inl (e ∙ is))) (λ a. ⊎_elim (λ is. inr (inr (inr (inr (inl (e ∙ is)))))) (λ is. inr (inr (inr (inr (inr (inl (e ∙ is))))))) a) (outcome_codes o)

  run_view_code : (name : List ℕ) (budget : ℕ) (trace : Bool) (code : ℕ) → RunView limit held rose quiet name budget trace code text history → IsCode code
  run_view_code name budget trace code (inl none) = none_code name code none
  run_view_code name budget trace code (inr (inl idle)) = inr (inr (inl idle.0))
  run_view_code name budget trace code (inr (inr ran)) = run_code code ran.0 ran.1

  check_view_code : (name : List ℕ) (code : ℕ) → CheckView limit held rose quiet name code text → IsCode code
  check_view_code name code (inl none) = none_code name code none
  check_view_code name code (inr agreed) = inr (inl agreed.0)

  show_view_code : (name : List ℕ) (code : ℕ) → ShowView limit held rose quiet name code text → IsCode code
  show_view_code name code (inl fault) = inl fault
  show_view_code name code (inr (inl long)) = inr (inr (inr (inr (inr (inr long.0)))))
  show_view_code name code (inr (inr (inl wrong))) = refusal_code (fault_status wrong.0) (fault_codes wrong.0) code wrong.1
  show_view_code name code (inr (inr (inr shown))) = inr (inl shown.0)

  code_in : (answer : Answer) → Comes limit words held rose quiet answer text history → IsCode (code_of answer) ⊎ ((code_of answer ≡ 2) × IsUsage words)
  code_in answer (inl run) = inl (run_view_code run.0 run.1 run.2 (code_of answer) (run_view limit held rose quiet run.0 run.1 run.2 answer text history run.4))
  code_in answer (inr (inl check)) = inl (check_view_code check.0 (code_of answer) (check_view limit held rose quiet check.0 answer text history check.2))
  code_in answer (inr (inr (inl show))) = inl (show_view_code show.0 (code_of answer) (show_view limit held rose quiet show.0 answer text history show.2))
  code_in answer (inr (inr (inr (inl decide)))) =
      let d = decide_view limit decide.0 answer text history decide.3 in
      inl (⊎_elim (λ is. inr (inl (d.1 ∙ is))) (λ a. ⊎_elim (λ is. inr (inr (inl (d.1 ∙ is)))) (λ b. ⊎_elim (λ is. inr (inr (inr (inl (d.1 ∙ is))))) (λ is. inr (inr (inr (inr (inr (inr (d.1 ∙ is))))))) b) a) (decision_codes d.0))
  code_in answer (inr (inr (inr (inr usage)))) = inr (usage_view words answer text history usage.1)

  two_usage : (code : ℕ) → 2 ≡ code → IsCode code ⊎ ((code ≡ 2) × IsUsage words) → IsUsage words
  two_usage code e (inr usage) = usage.1
  two_usage code e (inl (inl fault)) = let f = fault.0 in let none : ⊥ = omega (arith, e, f) in absurd none
  two_usage code e (inl (inr (inl c))) = let none : ⊥ = omega (arith, e, c) in absurd none
  two_usage code e (inl (inr (inr (inl c)))) = let none : ⊥ = omega (arith, e, c) in absurd none
  two_usage code e (inl (inr (inr (inr (inl c))))) = let none : ⊥ = omega (arith, e, c) in absurd none
  two_usage code e (inl (inr (inr (inr (inr (inl c)))))) = let none : ⊥ = omega (arith, e, c) in absurd none
  two_usage code e (inl (inr (inr (inr (inr (inr (inl c))))))) = let none : ⊥ = omega (arith, e, c) in absurd none
  two_usage code e (inl (inr (inr (inr (inr (inr (inr c))))))) = let none : ⊥ = omega (arith, e, c) in absurd none

  three_fault : (code : ℕ) → 3 ≡ code → IsCode code ⊎ ((code ≡ 2) × IsUsage words) → rose
  three_fault code e (inr usage) = let u = usage.0 in let none : ⊥ = omega (arith, e, u) in absurd none
  three_fault code e (inl (inl fault)) = fault.1
  three_fault code e (inl (inr (inl c))) = let none : ⊥ = omega (arith, e, c) in absurd none
  three_fault code e (inl (inr (inr (inl c)))) = let none : ⊥ = omega (arith, e, c) in absurd none
  three_fault code e (inl (inr (inr (inr (inl c))))) = let none : ⊥ = omega (arith, e, c) in absurd none
  three_fault code e (inl (inr (inr (inr (inr (inl c)))))) = let none : ⊥ = omega (arith, e, c) in absurd none
  three_fault code e (inl (inr (inr (inr (inr (inr (inl c))))))) = let none : ⊥ = omega (arith, e, c) in absurd none
  three_fault code e (inl (inr (inr (inr (inr (inr (inr c))))))) = let none : ⊥ = omega (arith, e, c) in absurd none

  -- the headline: there was no run, or a sound one
  pub sound_of : (name : List ℕ) (budget : ℕ) (trace : Bool) → AsksRun words name budget trace → (answer : Answer) → Comes limit words held rose quiet answer text history → IsNoneOrSound limit held name budget trace history
  sound_of name budget trace asks answer (inl run) =
      let same = same_run words name budget trace run.0 run.1 run.2 asks run.3 in
      run_sound limit held name budget trace rose quiet answer text history (rw (same.0, same.1, same.2) at run.4)
  sound_of name budget trace asks answer (inr (inl check)) = absurd (run_or_check words name budget trace check.0 asks check.1)
  sound_of name budget trace asks answer (inr (inr (inl show))) = absurd (run_or_show words name budget trace show.0 asks show.1)
  sound_of name budget trace asks answer (inr (inr (inr (inl decide)))) = absurd (run_or_decide words name budget trace decide.0 asks decide.1)
  sound_of name budget trace asks answer (inr (inr (inr (inr usage)))) = absurd (no_usage words (codes "run") asks.0 asks.1 (usage_in words text history answer usage.1))

  pub usage_of : (old new : Option (List ℕ)) (before now status : ℕ) (answer : Answer) → Comes limit words held rose quiet answer text history → Ends old new before now text (code_of answer) status
      → status ≡ 2 → IsUsage words
  usage_of old new before now status answer comes ends is = two_usage (code_of answer) (at_code old new before now text (code_of answer) status 2 ends is (λ e. omega (arith, e))).0 (code_in answer comes)

  pub fault_of : (old new : Option (List ℕ)) (before now status : ℕ) (answer : Answer) → Comes limit words held rose quiet answer text history → Ends old new before now text (code_of answer) status
      → status ≡ 3 → rose
  fault_of old new before now status answer comes ends is = three_fault (code_of answer) (at_code old new before now text (code_of answer) status 3 ends is (λ e. omega (arith, e))).0 (code_in answer comes)

-- ---- files that are told

some_value : Option (List ℕ) → List ℕ
some_value None = []
some_value (Some xs) = xs

-- a file that is told has one content
held_same : (told : Option Named) (name one other : List ℕ) → IsHeld told name one → Holds told name other → other ≡ one
unfolding some_value
held_same None name one other p q = absurd p
held_same (Some files) name one other p q = ap some_value (sym q ∙ p)

module _ (limit : ℕ) (words : List (List ℕ)) (held : Option Named) (rose quiet : Type 0) (text : List ℕ) (history : List Event) (calm : rose → ⊥) where
  -- a program that is told and clear isn't refused
  none_clear : (name : List ℕ) (program : Program) → IsClear limit held name program → (code : ℕ) → NoneView limit held rose quiet name code text → ⊥
  none_clear name program p code (inl fault) = calm fault.1
  none_clear name program p code (inr (inl long)) =
      let l = long.1 in
      let over : limit < length p.bytes = rw (held_same held name p.bytes l.0 p.held l.1) at l.2 in
      let short = p.short in
      omega (arith, short, over)
  none_clear name program p code (inr (inr refused)) =
      let other = refused.1 in
      clear_reason p.bytes program p.says p.clear refused.0 (rw (held_same held name p.bytes other.0 p.held other.1.has) at other.2)

  run_ran : (name : List ℕ) (budget : ℕ) (trace : Bool) (program : Program) → IsClear limit held name program → (program.main ≡ None → ⊥) → (code : ℕ)
      → RunView limit held rose quiet name budget trace code text history → IsRunStatus code
  run_ran name budget trace program p executes code (inl none) = absurd (none_clear name program p code none)
  run_ran name budget trace program p executes code (inr (inl idle)) =
      let other = idle.1 in
      let loaded = other.1 in
      let loads : Loads p.bytes other.0 = rw (held_same held name p.bytes loaded.0 p.held loaded.1.has) at loaded.2 in
      absurd (executes (subst (λ (g : Program). g.main ≡ None) (clear_same p.bytes program p.says other.0 loads) other.2))
  run_ran name budget trace program p executes code (inr (inr ran)) =
      let e = ran.1 in
      ⊎_elim (λ is. inl (e ∙ is)) (λ a. inr (⊎_elim (λ is. inl (e ∙ is)) (λ is. inr (e ∙ is)) a)) (outcome_codes ran.0)

  check_yes : (name : List ℕ) (program : Program) → IsClear limit held name program → (code : ℕ) → CheckView limit held rose quiet name code text → code ≡ 0
  check_yes name program p code (inl none) = absurd (none_clear name program p code none)
  check_yes name program p code (inr agreed) = agreed.0

  show_shown : (name bytes : List ℕ) (file : File) → IsHeld held name bytes → length bytes ≤ limit → IsFile bytes file → (code : ℕ) → ShowView limit held rose quiet name code text → code ≡ 0
  show_shown name bytes file told short is code (inl fault) = absurd (calm fault.1)
  show_shown name bytes file told short is code (inr (inl long)) =
      let l = long.1 in
      let over : limit < length bytes = rw (held_same held name bytes l.0 told l.1) at l.2 in
      let none : ⊥ = omega (arith, short, over) in absurd none
  show_shown name bytes file told short is code (inr (inr (inl wrong))) =
      let other = wrong.2 in
      absurd (other.3 file (rw (held_same held name bytes other.0 told other.1.has) is))
  show_shown name bytes file told short is code (inr (inr (inr shown))) = shown.0

  ran : (p : AsksForProgram limit words held) (answer : Answer) → Comes limit words held rose quiet answer text history → IsRunStatus (code_of answer)
  ran p answer (inl run) =
      let same = same_run words p.name p.budget p.trace run.0 run.1 run.2 p.asks run.3 in
      run_ran p.name run.1 run.2 p.program p.is p.executes (code_of answer) (run_view limit held rose quiet p.name run.1 run.2 answer text history (rw same.0 at run.4))
  ran p answer (inr (inl check)) = absurd (run_or_check words p.name p.budget p.trace check.0 p.asks check.1)
  ran p answer (inr (inr (inl show))) = absurd (run_or_show words p.name p.budget p.trace show.0 p.asks show.1)
  ran p answer (inr (inr (inr (inl decide)))) = absurd (run_or_decide words p.name p.budget p.trace decide.0 p.asks decide.1)
  ran p answer (inr (inr (inr (inr usage)))) = absurd (no_usage words (codes "run") p.asks.0 p.asks.1 (usage_in words text history answer usage.1))

  checked : (p : AsksForCheck limit words held) (answer : Answer) → Comes limit words held rose quiet answer text history → code_of answer ≡ 0
  checked p answer (inl run) = absurd (run_or_check words run.0 run.1 run.2 p.name run.3 p.asks)
  checked p answer (inr (inl check)) = check_yes p.name p.program p.is (code_of answer) (check_view limit held rose quiet p.name answer text history (rw (same_check words p.name check.0 p.asks check.1) at check.2))
  checked p answer (inr (inr (inl show))) = absurd (check_or_show words p.name show.0 p.asks show.1)
  checked p answer (inr (inr (inr (inl decide)))) = absurd (check_or_decide words p.name decide.0 p.asks decide.1)
  checked p answer (inr (inr (inr (inr usage)))) = absurd (no_usage words (codes "check") p.asks.0 p.asks.1 (usage_in words text history answer usage.1))

  shown : (p : AsksForFile limit words held) (answer : Answer) → Comes limit words held rose quiet answer text history → code_of answer ≡ 0
  shown p answer (inl run) = absurd (run_or_show words run.0 run.1 run.2 p.name run.3 p.asks)
  shown p answer (inr (inl check)) = absurd (check_or_show words check.0 p.name check.1 p.asks)
  shown p answer (inr (inr (inl show))) = show_shown p.name p.bytes p.file p.held p.short p.is (code_of answer) (show_view limit held rose quiet p.name answer text history (rw (same_show words p.name show.0 p.asks show.1) at show.2))
  shown p answer (inr (inr (inr (inl decide)))) = absurd (show_or_decide words p.name decide.0 p.asks decide.1)
  shown p answer (inr (inr (inr (inr usage)))) = absurd (no_usage words (codes "show") p.asks.0 p.asks.1 (usage_in words text history answer usage.1))

  pub runs_of : (p : AsksForProgram limit words held) (old new : Option (List ℕ)) (before now status : ℕ) (answer : Answer) → Comes limit words held rose quiet answer text history
      → Ends old new before now text (code_of answer) status → (Rose before now → ⊥) → IsRunStatus status
  runs_of p old new before now status answer comes (inl whole) still = rw whole.0 (ran p answer comes)
  runs_of p old new before now status answer comes (inr part) still = absurd (still part.1)

  pub checks_of : (p : AsksForCheck limit words held) (old new : Option (List ℕ)) (before now status : ℕ) (answer : Answer) → Comes limit words held rose quiet answer text history
      → Ends old new before now text (code_of answer) status → (Rose before now → ⊥) → status ≡ 0
  checks_of p old new before now status answer comes (inl whole) still = whole.0 ∙ checked p answer comes
  checks_of p old new before now status answer comes (inr part) still = absurd (still part.1)

  pub shows_of : (p : AsksForFile limit words held) (old new : Option (List ℕ)) (before now status : ℕ) (answer : Answer) → Comes limit words held rose quiet answer text history
      → Ends old new before now text (code_of answer) status → (Rose before now → ⊥) → status ≡ 0
  shows_of p old new before now status answer comes (inl whole) still = whole.0 ∙ shown p answer comes
  shows_of p old new before now status answer comes (inr part) still = absurd (still part.1)
