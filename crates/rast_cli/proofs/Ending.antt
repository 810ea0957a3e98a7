-- Runs that are reported are sound, and end as their outcome says.
use Rattle.std.proofs.Common.{◌≡◌, ◌∙◌, ℕ, Bool, true, false, ◌||◌, List, [], ◌∷◌, length, refl, sym, ap, subst, inl, inr, eqb-true, if◌then◌else◌}
use Rattle.std.specs.Prelude.{◌==◌, IsSome}
use Rattle.std.specs.declared.option.Option.{Option}
use Rattle.std.specs.Prelude.{None, Some}
use Rattle.rast_io.specs.Bytes.{Named}
use Rattle.rast_terms.specs.declared.program.Program.{Program}
use Rattle.rast_rules.specs.declared.judgement.Plan.{Plan}
use Rattle.rast_items.specs.Ends.{IsFinished}
use Rattle.rast_items.specs.Run.{State, IsRun}
use Rattle.rast_items.specs.Step.{Next, Ready, Waits, Halted, Ended, Stuck}
use Rattle.rast_laws.specs.Sound.{IsReady, IsSound}
use Rattle.rast_core.specs.Words.{Pid, Item, P, M, Event}
use Rattle.rast_core.specs.Shown.{Shown, IsReplay, run_code, code_of, next_of, is_ready, some_ready, halt_of, first_halted, outcome}
use Rattle.rast_core.specs.declared.answer.Outcome.{Outcome}
use Rattle.rast_core.specs.declared.answer.Outcome.TheVariants.{Running, Finished, OutOfBudget, IndexLimit}
use Rattle.rast_core.proofs.RunLemmas.{state_step}
use Rattle.rast_core.proofs.SoundLemmas.{replay_going}
use Rattle.rast_cli.specs.declared.answer.Answer.{Answer}
use Rattle.rast_cli.specs.declared.answer.Answer.TheVariants.{Usage, ReadFault, TooLong, NoFile, Refused, NoExec, Ran, Accepted, Shown as Printed, Decided}
use Rattle.rast_cli.specs.Answered.{RunsFile, NoneComes, RunComes}
use Rattle.rast_core.specs.Promises.{IsGoing, IsFullRun, Replayed}
use Rattle.rast_accept.specs.Loading.{Loads}
use Rattle.rast_cli.specs.Reported.{IsRunnable}
use Rattle.rast_cli.specs.Headline.{HasEvent, EndsAs, IsSoundRun, IsNoneOrSound}

module _ (g : Program) (v : Shown) where
  -- ---- a process that has an event

  abbrev HasNext : Type 0
  HasNext = (pid : Pid) × (e : Event) × (items : List Item) × (next_of g v pid ≡ Ready e items)

  ready_by : (pid : Pid) (n : Next) (rest : Bool) → next_of g v pid ≡ n → (is_ready n || rest) ≡ true → (rest ≡ true → HasNext) → HasNext
  ready_by pid (Ready e items) rest is h k = (pid, e, items, is)
  ready_by pid (Waits l) rest is h k = k h
  ready_by pid (Halted w) rest is h k = k h
  ready_by pid Ended rest is h k = k h
  ready_by pid Stuck rest is h k = k h

  some_next : (xs : List Item) → some_ready g v xs ≡ true → HasNext
  some_next [] h = let none : false ≡ true = h in cc
  some_next (P p ∷ xs) h = ready_by p.pid (next_of g v p.pid) (some_ready g v xs) refl h (some_next xs)
  some_next (M m ∷ xs) h = some_next xs h

  -- ---- a process that is halted

  halted_by : (pid found : Pid) (value : ℕ) (n : Next) (rest : Outcome) → next_of g v pid ≡ n → halt_of pid n rest ≡ IndexLimit found value → (rest ≡ IndexLimit found value → next_of g v found ≡ Halted value) → next_of g v found ≡ Halted value
  halted_by pid found value (Ready e items) rest is h k = k h
  halted_by pid found value (Waits l) rest is h k = k h
  halted_by pid found value (Halted w) rest is h k =
      let same : pid ≡ found = cc in
      let at : w ≡ value = cc in
      ap (next_of g v) (sym same) ∙ (is ∙ ap Halted at)
  halted_by pid found value Ended rest is h k = k h
  halted_by pid found value Stuck rest is h k = k h

  halted_at : (found : Pid) (value : ℕ) (xs : List Item) → first_halted g v xs Finished ≡ IndexLimit found value → next_of g v found ≡ Halted value
  halted_at found value [] h = let none : Finished ≡ IndexLimit found value = h in cc
  halted_at found value (P p ∷ xs) h = halted_by p.pid found value (next_of g v p.pid) (first_halted g v xs Finished) refl h (halted_at found value xs)
  halted_at found value (M m ∷ xs) h = halted_at found value xs h

  -- what is halted isn't out of budget
  budget_by : (pid : Pid) (n : Next) (rest : Outcome) → halt_of pid n rest ≡ OutOfBudget → (rest ≡ OutOfBudget → ⊥) → ⊥
  budget_by pid (Ready e items) rest h k = k h
  budget_by pid (Waits l) rest h k = k h
  budget_by pid (Halted w) rest h k = let none : IndexLimit pid w ≡ OutOfBudget = h in cc
  budget_by pid Ended rest h k = k h
  budget_by pid Stuck rest h k = k h

  no_budget : (xs : List Item) → first_halted g v xs Finished ≡ OutOfBudget → ⊥
  no_budget [] h = let none : Finished ≡ OutOfBudget = h in cc
  no_budget (P p ∷ xs) h = budget_by p.pid (next_of g v p.pid) (first_halted g v xs Finished) h (no_budget xs)
  no_budget (M m ∷ xs) h = no_budget xs h

  -- ---- the outcome

  module _ (es : List Event) (st : State) (budget : ℕ) (r : IsReplay g v es st) where
    has_event : HasNext → HasEvent (code_of g v) st
    has_event h = (h.0, h.1, h.2, state_step g v es st h.0 r ∙ h.3)

    used : (same : Bool) → (length es == budget) ≡ same → (if same then OutOfBudget else Running) ≡ OutOfBudget → length es ≡ budget
    used true e h = eqb-true (length es) budget e
    used false e h = let none : Running ≡ OutOfBudget = h in cc

    out_by : (b : Bool) → some_ready g v v.items ≡ b → (if b then (if length es == budget then OutOfBudget else Running) else first_halted g v v.items Finished) ≡ OutOfBudget → EndsAs OutOfBudget (code_of g v) budget es st
    out_by true e h = (used (length es == budget) refl h, has_event (some_next v.items e))
    out_by false e h = absurd (no_budget v.items h)

    unlimited : (same : Bool) (pid : Pid) (value : ℕ) → (if same then OutOfBudget else Running) ≡ IndexLimit pid value → ⊥
    unlimited true pid value h = let none : OutOfBudget ≡ IndexLimit pid value = h in cc
    unlimited false pid value h = let none : Running ≡ IndexLimit pid value = h in cc

    limit_by : IsSound (code_of g v) es st → (pid : Pid) (value : ℕ) (b : Bool) → (if b then (if length es == budget then OutOfBudget else Running) else first_halted g v v.items Finished) ≡ IndexLimit pid value → EndsAs (IndexLimit pid value) (code_of g v) budget es st
    limit_by s pid value true h = absurd (unlimited (length es == budget) pid value h)
    limit_by s pid value false h =
        let at = state_step g v es st pid r ∙ halted_at pid value v.items h in
        (at, s.halted pid value at)

    ends_as : IsSound (code_of g v) es st → (o : Outcome) → o ≡ outcome g v (length es) budget → (o ≡ Running → ⊥) → (o ≡ Finished → IsFinished (code_of g v) st) → EndsAs o (code_of g v) budget es st
    ends_as s Running e run fin = run refl
    ends_as s Finished e run fin = fin refl
    ends_as s OutOfBudget e run fin = out_by (some_ready g v v.items) refl (sym e)
    ends_as s (IndexLimit pid value) e run fin = limit_by s pid value (some_ready g v v.items) (sym e)

module _ (limit : ℕ) (held : Option Named) (name : List ℕ) (budget : ℕ) (trace : Bool) where
  -- a run that is reported
  pub sound_run : (o : Outcome) (text : List ℕ) (history : List Event) → RunsFile limit held name budget trace o text history → IsSoundRun limit held name budget trace o text history
  sound_run o text history r =
      let full = r.report.run in
      let plan = r.report.plan in
      let config = r.report.config in
      let here : Plan → Type 0 = λ p. IsSound (run_code r.program p) history full.state in
      let sound = subst here (sym full.plan_is) full.sound in
      let fin : o ≡ Finished → IsFinished (code_of r.program config) full.state = λ e.
      subst (λ (p : Plan). IsFinished (run_code r.program p) full.state) (sym full.plan_is) (full.finished (sym r.report.ended_is ∙ e)) in
      let ended = ends_as r.program config history full.state budget full.replayed sound o r.report.ended_is (λ e. full.decided (sym r.report.ended_is ∙ e)) fin in
      record {
        program = r.program;
        loaded = r.loaded;
        plan = plan;
        planned = r.report.planned;
        state = full.state;
        run = subst (λ (p : Plan). IsRun (run_code r.program p) history full.state) full.plan_is full.replayed.run;
        few = full.few;
        sound = full.sound;
        ended = subst (λ (p : Plan). EndsAs o (run_code r.program p) budget history full.state) full.plan_is ended;
        config = config;
        plan_is = full.plan_is;
        shows = full.replayed;
        outcome_is = r.report.ended_is;
        text_is = r.report.text_is;
      }

  module _ (rose quiet : Type 0) where
    none_sound : (answer : Answer) (text : List ℕ) (history : List Event) → NoneComes limit held rose quiet name answer text history → IsNoneOrSound limit held name budget trace history
    none_sound Usage text history comes = absurd comes
    none_sound ReadFault text history comes = inl comes.1.1
    none_sound TooLong text history comes = inl comes.2.1
    none_sound (NoFile fault) text history comes = absurd comes
    none_sound (Refused status) text history comes = inl comes.2
    none_sound NoExec text history comes = absurd comes
    none_sound (Ran outcome) text history comes = absurd comes
    none_sound Accepted text history comes = absurd comes
    none_sound Printed text history comes = absurd comes
    none_sound (Decided d) text history comes = absurd comes

    pub run_sound : (answer : Answer) (text : List ℕ) (history : List Event) → RunComes limit held rose quiet name budget trace answer text history → IsNoneOrSound limit held name budget trace history
    run_sound Usage text history comes = absurd comes
    run_sound ReadFault text history comes = none_sound ReadFault text history comes
    run_sound TooLong text history comes = none_sound TooLong text history comes
    run_sound (NoFile fault) text history comes = absurd comes
    run_sound (Refused status) text history comes = none_sound (Refused status) text history comes
    run_sound NoExec text history comes = inl comes.2.1
    run_sound (Ran outcome) text history comes = inr (outcome, text, sound_run outcome text history comes.0)
    run_sound Accepted text history comes = absurd comes
    run_sound Printed text history comes = absurd comes
    run_sound (Decided d) text history comes = absurd comes

-- ---- programs that may be run

pub is_some_main : (main : Option ℕ) → (main ≡ None → ⊥) → IsSome main
is_some_main None h = absurd (h refl)
is_some_main (Some k) h = refl

pub loads_runnable : (text : List ℕ) (g : Program) → Loads text g → IsSome g.main → IsRunnable g
loads_runnable text g loads main = λ plan planned. record { made = loads.made; accepted = loads.accepted; plan = planned; main = main }

pub full_going : (g : Program) (plan : Plan) (budget : ℕ) (v : Shown) (es : List Event) → IsReady (run_code g plan) → IsFullRun g plan budget v es → IsGoing g v
full_going g plan budget v es ready r = replay_going g plan v es r.state ready r.plan_is r.replayed

pub replayed_going : (g : Program) (plan : Plan) (picks : List Pid) (v : Shown) (es : List Event) → IsReady (run_code g plan) → Replayed g plan picks v es → IsGoing g v
replayed_going g plan picks v es ready r = replay_going g plan v es r.state ready r.plan_is r.replayed
