-- What an exit status says of a run and of a check.
use Rattle.std.proofs.Common.{◌≡◌, ◌∙◌, ◌⊎◌, ℕ, Bool, List, sym, subst, inl, inr, ⊎_elim, arith, codes}
use Rattle.std.specs.declared.option.Option.{Option}
use Rattle.std.specs.Io.KnownBytes.{Appends}
use Rattle.rast_io.specs.Bytes.{Named}
use Rattle.rast_items.specs.declared.event.Event.{Event}
use Rattle.rast_items.specs.declared.link.Pid.{Pid}
use Rattle.rast_core.specs.declared.answer.Outcome.{Outcome}
use Rattle.rast_core.specs.declared.answer.Outcome.TheVariants.{Running, Finished, OutOfBudget, IndexLimit}
use Rattle.rast_accept.specs.Lines.{refusal_status}
use Rattle.rast_cli.specs.declared.answer.Answer.{Answer}
use Rattle.rast_cli.specs.declared.answer.Answer.TheVariants.{Ran}
use Rattle.rast_cli.specs.Lines.{code_of}
use Rattle.rast_cli.specs.Held.{IsTooLong}
use Rattle.rast_cli.specs.Answered.{RunsFile, AcceptsFile, RunComes, CheckComes, Ends}
use Rattle.rast_cli.specs.Rows.{IsRefusedWith, IsNoExec, RunEnds, CheckEnds}
use Rattle.rast_cli.proofs.Codes.{refusal_codes, outcome_codes, at_code}
use Rattle.rast_cli.proofs.Views.{NoneView, RunView, CheckView, run_view, check_view}
use Rattle.rast_cli.proofs.Ending.{sound_run}

-- a status that no refusal has
other_refusal : (k r : ℕ) → k ≡ r → (r ≡ 1) ⊎ (r ≡ 5) → (k ≡ 1 → ⊥) → (k ≡ 5 → ⊥) → ⊥
other_refusal k r e c one five = ⊎_elim (λ is. one (e ∙ is)) (λ is. five (e ∙ is)) c

-- a status that no run has
other_run : (k : ℕ) (o : Outcome) → k ≡ code_of (Ran o) → (k ≡ 0 → ⊥) → (k ≡ 6 → ⊥) → (k ≡ 7 → ⊥) → ⊥
other_run k o e zero six seven = ⊎_elim (λ is. zero (e ∙ is)) (λ a. ⊎_elim (λ is. six (e ∙ is)) (λ is. seven (e ∙ is)) a) (outcome_codes o)

module _ (limit : ℕ) (held : Option Named) (rose quiet : Type 0) (name : List ℕ) (text : List ℕ) (old new : Option (List ℕ)) (printed : Appends old new text) where
  -- where there is no accepted program, at the statuses 0, 6 and 7, and at 1, 5 and 9
  none_other : (k : ℕ) → (k ≡ 3 → ⊥) → (k ≡ 9 → ⊥) → (k ≡ 1 → ⊥) → (k ≡ 5 → ⊥) → NoneView limit held rose quiet name k text → ⊥
  none_other k three nine one five (inl fault) = three fault.0
  none_other k three nine one five (inr (inl long)) = nine long.0
  none_other k three nine one five (inr (inr refused)) = other_refusal k (refusal_status refused.0) refused.2 (refusal_codes refused.0) one five

  none_refused : (k : ℕ) → (k ≡ 3 → ⊥) → (k ≡ 9 → ⊥) → NoneView limit held rose quiet name k text → IsRefusedWith limit held old new name k
  none_refused k three nine (inl fault) = absurd (three fault.0)
  none_refused k three nine (inr (inl long)) = absurd (nine long.0)
  none_refused k three nine (inr (inr refused)) = (refused.0, refused.1, sym refused.2, subst (λ (t : List ℕ). Appends old new t) refused.3 printed)

  none_long : NoneView limit held rose quiet name 9 text → IsTooLong limit held name
  none_long (inl fault) = let none : ⊥ = omega (arith, fault.0) in absurd none
  none_long (inr (inl long)) = long.1
  none_long (inr (inr refused)) = absurd (other_refusal 9 (refusal_status refused.0) refused.2 (refusal_codes refused.0) (λ e. omega (arith, e)) (λ e. omega (arith, e)))

  module _ (budget : ℕ) (trace : Bool) (history : List Event) where
    no_running : RunsFile limit held name budget trace Running text history → ⊥
    no_running r = r.report.run.decided (sym r.report.ended_is)

    -- the outcome of a run, by its status
    zero_is : (o : Outcome) → 0 ≡ code_of (Ran o) → RunsFile limit held name budget trace o text history → RunsFile limit held name budget trace Finished text history
    zero_is Running e r = absurd (no_running r)
    zero_is Finished e r = r
    zero_is OutOfBudget e r = let none : ⊥ = omega (arith, e) in absurd none
    zero_is (IndexLimit pid value) e r = let none : ⊥ = omega (arith, e) in absurd none

    six_is : (o : Outcome) → 6 ≡ code_of (Ran o) → RunsFile limit held name budget trace o text history → RunsFile limit held name budget trace OutOfBudget text history
    six_is Running e r = absurd (no_running r)
    six_is Finished e r = let none : ⊥ = omega (arith, e) in absurd none
    six_is OutOfBudget e r = r
    six_is (IndexLimit pid value) e r = let none : ⊥ = omega (arith, e) in absurd none

    seven_is : (o : Outcome) → 7 ≡ code_of (Ran o) → RunsFile limit held name budget trace o text history → (pid : Pid) × (value : ℕ) × RunsFile limit held name budget trace (IndexLimit pid value) text history
    seven_is Running e r = absurd (no_running r)
    seven_is Finished e r = let none : ⊥ = omega (arith, e) in absurd none
    seven_is OutOfBudget e r = let none : ⊥ = omega (arith, e) in absurd none
    seven_is (IndexLimit pid value) e r = (pid, value, r)

    -- a status that only a run has
    ran_at : (k : ℕ) → (k ≡ 3 → ⊥) → (k ≡ 9 → ⊥) → (k ≡ 1 → ⊥) → (k ≡ 5 → ⊥) → RunView limit held rose quiet name budget trace k text history
        → (o : Outcome) × (k ≡ code_of (Ran o)) × RunsFile limit held name budget trace o text history
    ran_at k three nine one five (inl none) = absurd (none_other k three nine one five none)
    ran_at k three nine one five (inr (inl idle)) = absurd (one idle.0)
    ran_at k three nine one five (inr (inr ran)) = ran

    refused_at : RunView limit held rose quiet name budget trace 1 text history → IsRefusedWith limit held old new name 1 ⊎ IsNoExec limit held old new name
    refused_at (inl none) = inl (none_refused 1 (λ e. omega (arith, e)) (λ e. omega (arith, e)) none)
    refused_at (inr (inl idle)) = inr (idle.1, subst (λ (t : List ℕ). Appends old new t) idle.2 printed)
    refused_at (inr (inr ran)) = absurd (other_run 1 ran.0 ran.1 (λ e. omega (arith, e)) (λ e. omega (arith, e)) (λ e. omega (arith, e)))

    bound_at : RunView limit held rose quiet name budget trace 5 text history → IsRefusedWith limit held old new name 5
    bound_at (inl none) = none_refused 5 (λ e. omega (arith, e)) (λ e. omega (arith, e)) none
    bound_at (inr (inl idle)) = let none : ⊥ = omega (arith, idle.0) in absurd none
    bound_at (inr (inr ran)) = absurd (other_run 5 ran.0 ran.1 (λ e. omega (arith, e)) (λ e. omega (arith, e)) (λ e. omega (arith, e)))

    long_at : RunView limit held rose quiet name budget trace 9 text history → IsTooLong limit held name
    long_at (inl none) = none_long none
    long_at (inr (inl idle)) = let none : ⊥ = omega (arith, idle.0) in absurd none
    long_at (inr (inr ran)) = absurd (other_run 9 ran.0 ran.1 (λ e. omega (arith, e)) (λ e. omega (arith, e)) (λ e. omega (arith, e)))

  check_accepted : CheckView limit held rose quiet name 0 text → AcceptsFile limit held name × Appends old new (codes "accepted\n")
  check_accepted (inl none) = absurd (none_other 0 (λ e. omega (arith, e)) (λ e. omega (arith, e)) (λ e. omega (arith, e)) (λ e. omega (arith, e)) none)
  check_accepted (inr agreed) = (agreed.1, subst (λ (t : List ℕ). Appends old new t) agreed.2 printed)

  check_refused : (k : ℕ) → (k ≡ 3 → ⊥) → (k ≡ 9 → ⊥) → (k ≡ 0 → ⊥) → CheckView limit held rose quiet name k text → IsRefusedWith limit held old new name k
  check_refused k three nine zero (inl none) = none_refused k three nine none
  check_refused k three nine zero (inr agreed) = absurd (zero agreed.0)

  check_long : CheckView limit held rose quiet name 9 text → IsTooLong limit held name
  check_long (inl none) = none_long none
  check_long (inr agreed) = let none : ⊥ = omega (arith, agreed.0) in absurd none

module _ (limit : ℕ) (held : Option Named) (rose quiet : Type 0) (name : List ℕ) (text : List ℕ) (history : List Event) (old new : Option (List ℕ)) (before now status : ℕ) (answer : Answer) where
  pub run_ends : (budget : ℕ) (trace : Bool) → RunComes limit held rose quiet name budget trace answer text history → Ends old new before now text (code_of answer) status
      → RunEnds limit held old new name budget trace history status
  run_ends budget trace comes ends =
      let view_at : (k : ℕ) → status ≡ k → (k ≡ 4 → ⊥) → RunView limit held rose quiet name budget trace k text history × Appends old new text = λ k is other.
      let w = at_code old new before now text (code_of answer) status k ends is other in
      (subst (λ (c : ℕ). RunView limit held rose quiet name budget trace c text history) (sym w.0) (run_view limit held rose quiet name budget trace answer text history comes), w.1)
      in
      record {
        finished = λ is.
            let w = view_at 0 is (λ e. omega (arith, e)) in
            let r = ran_at limit held rose quiet name text old new w.1 budget trace history 0 (λ e. omega (arith, e)) (λ e. omega (arith, e)) (λ e. omega (arith, e)) (λ e. omega (arith, e)) w.0 in
            (text, sound_run limit held name budget trace Finished text history (zero_is limit held rose quiet name text old new w.1 budget trace history r.0 r.1 r.2), w.1);
        refused = λ is. let w = view_at 1 is (λ e. omega (arith, e)) in refused_at limit held rose quiet name text old new w.1 budget trace history w.0;
        bound = λ is. let w = view_at 5 is (λ e. omega (arith, e)) in bound_at limit held rose quiet name text old new w.1 budget trace history w.0;
        out_of_budget = λ is.
            let w = view_at 6 is (λ e. omega (arith, e)) in
            let r = ran_at limit held rose quiet name text old new w.1 budget trace history 6 (λ e. omega (arith, e)) (λ e. omega (arith, e)) (λ e. omega (arith, e)) (λ e. omega (arith, e)) w.0 in
            (text, sound_run limit held name budget trace OutOfBudget text history (six_is limit held rose quiet name text old new w.1 budget trace history r.0 r.1 r.2), w.1);
        index_limit = λ is.
            let w = view_at 7 is (λ e. omega (arith, e)) in
            let r = ran_at limit held rose quiet name text old new w.1 budget trace history 7 (λ e. omega (arith, e)) (λ e. omega (arith, e)) (λ e. omega (arith, e)) (λ e. omega (arith, e)) w.0 in
            let row = seven_is limit held rose quiet name text old new w.1 budget trace history r.0 r.1 r.2 in
            (row.0, row.1, (text, sound_run limit held name budget trace (IndexLimit row.0 row.1) text history row.2, w.1));
        too_long = λ is. let w = view_at 9 is (λ e. omega (arith, e)) in long_at limit held rose quiet name text old new w.1 budget trace history w.0;
      }

  pub check_ends : CheckComes limit held rose quiet name answer text history → Ends old new before now text (code_of answer) status → CheckEnds limit held old new name status
  check_ends comes ends =
      let view_at : (k : ℕ) → status ≡ k → (k ≡ 4 → ⊥) → CheckView limit held rose quiet name k text × Appends old new text = λ k is other.
      let w = at_code old new before now text (code_of answer) status k ends is other in
      (subst (λ (c : ℕ). CheckView limit held rose quiet name c text) (sym w.0) (check_view limit held rose quiet name answer text history comes), w.1)
      in
      record {
        accepted = λ is. let w = view_at 0 is (λ e. omega (arith, e)) in check_accepted limit held rose quiet name text old new w.1 w.0;
        refused = λ is. let w = view_at 1 is (λ e. omega (arith, e)) in check_refused limit held rose quiet name text old new w.1 1 (λ e. omega (arith, e)) (λ e. omega (arith, e)) (λ e. omega (arith, e)) w.0;
        bound = λ is. let w = view_at 5 is (λ e. omega (arith, e)) in check_refused limit held rose quiet name text old new w.1 5 (λ e. omega (arith, e)) (λ e. omega (arith, e)) (λ e. omega (arith, e)) w.0;
        too_long = λ is. let w = view_at 9 is (λ e. omega (arith, e)) in check_long limit held rose quiet name text old new w.1 w.0;
      }
