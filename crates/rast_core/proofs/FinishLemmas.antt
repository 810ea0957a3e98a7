-- A configuration of which the outcome is finished: no process has an event, none is halted, and each item waits for its client.
use Rattle.std.proofs.Common.{◌≡◌, ℕ, Bool, true, false, ◌==◌, List, [], ◌∷◌, length, Option, Some, None, refl, sym, ap, ◌∙◌, subst, if◌then◌else◌}
use Rattle.std.specs.Prelude.{◌||◌}
use Rattle.rast_terms.specs.declared.program.Program.{Program}
use Rattle.rast_core.specs.Words.{Pid, Item, P, M, Proc, Event}
use Rattle.rast_items.specs.Step.{Next as Does, Ready as DReady, Waits as DWaits, Halted as DHalted, Ended as DEnded, Stuck as DStuck, Cut, cut, cut_more, is_proc, at_cut}
use Rattle.rast_items.specs.Run.{State, step_of}
use Rattle.rast_items.specs.Ends.{IsIdle, IsFinished}
use Rattle.rast_laws.specs.Sound.{IsReady, IsSound}
use Rattle.rast_laws.proofs.Ready.{ready_sound}
use Rattle.rast_core.specs.Shown.{Shown, IsReplay, code_of, next_of, is_ready, some_ready, halt_of, first_halted, outcome}
use Rattle.rast_core.specs.Promises.{IsGoing, Finishes}
use Rattle.rast_core.specs.declared.answer.Outcome.{Outcome}
use Rattle.rast_core.specs.declared.answer.Outcome.TheVariants.{Running, Finished, OutOfBudget}
use Rattle.rast_core.proofs.Cuts.{cut_on}
use Rattle.rast_core.proofs.ConfigLemmas.{same_pids}
use Rattle.rast_core.proofs.RunLemmas.{state_step}

-- a process without an event that isn't halted
pub record IsCalm (n : Does) : Type 0 where
  pub quiet : is_ready n ≡ false
  pub whole : (v : ℕ) → n ≡ DHalted v → ⊥

idle_of : (n : Does) → IsCalm n → (n ≡ DStuck → ⊥) → IsIdle n
idle_of (DReady e items) c s = let none : true ≡ false = c.quiet in absurd (let k : ⊥ = cc in k)
idle_of (DWaits l) c s = tt
idle_of (DHalted v) c s = absurd (c.whole v refl)
idle_of DEnded c s = tt
idle_of DStuck c s = absurd (s refl)

-- where the outcome of a list is finished, none of the list is halted
pub record IsWhole (n : Does) (o : Outcome) : Type 0 where
  pub none : (v : ℕ) → n ≡ DHalted v → ⊥
  pub rest : o ≡ Finished

whole_of : (pid : Pid) (n : Does) (o : Outcome) → halt_of pid n o ≡ Finished → IsWhole n o
whole_of pid (DReady e items) o h = record { none = λ v k. cc; rest = h }
whole_of pid (DWaits l) o h = record { none = λ v k. cc; rest = h }
whole_of pid (DHalted v) o h = cc
whole_of pid DEnded o h = record { none = λ v k. cc; rest = h }
whole_of pid DStuck o h = record { none = λ v k. cc; rest = h }

neither : (a b : Bool) → (a || b) ≡ false → (a ≡ false) × (b ≡ false)
neither true b h = cc
neither false b h = (refl, h)

more_some : (x : Item) (o : Option Cut) (t : Cut) → cut_more x o ≡ Some t → (s : Cut) × (o ≡ Some s)
more_some x None t h = cc
more_some x (Some s) t h = (s, refl)

calm_first : (g : Program) (v : Shown) (pid : Pid) (p : Proc) (is : List Item) (t : Cut) (b : Bool) → is_proc pid (P p) ≡ b → cut (is_proc pid) (P p ∷ is) ≡ Some t → (is_ready (next_of g v p.pid) ≡ false) → ((w : ℕ) → next_of g v p.pid ≡ DHalted w → ⊥) →
    ((s : Cut) → cut (is_proc pid) is ≡ Some s → IsCalm (next_of g v pid)) → IsCalm (next_of g v pid)
calm_first g v pid p is t true e c q w f = subst (λ (k : Pid). IsCalm (next_of g v k)) (same_pids p.pid pid e) (record { quiet = q; whole = w })
calm_first g v pid p is t false e c q w f =
    let m = more_some (P p) (cut (is_proc pid) is) t (sym (cut_on (is_proc pid) (P p) is false e) ∙ c) in
    f m.0 m.1

-- each process of the list is calm
calm_at : (g : Program) (v : Shown) (pid : Pid) (xs : List Item) (t : Cut) → cut (is_proc pid) xs ≡ Some t → some_ready g v xs ≡ false → first_halted g v xs Finished ≡ Finished → IsCalm (next_of g v pid)
calm_at g v pid [] t c r h = cc
calm_at g v pid (P p ∷ is) t c r h =
    let q = neither (is_ready (next_of g v p.pid)) (some_ready g v is) r in
    let w = whole_of p.pid (next_of g v p.pid) (first_halted g v is Finished) h in
    calm_first g v pid p is t (is_proc pid (P p)) refl c q.0 w.none (λ s k. calm_at g v pid is s k q.1 w.rest)
calm_at g v pid (M m ∷ is) t c r h =
    let s = more_some (M m) (cut (is_proc pid) is) t c in
    calm_at g v pid is s.0 s.1 r h

idle_at : (g : Program) (v : Shown) (pid : Pid) (o : Option Cut) → cut (is_proc pid) v.items ≡ o → some_ready g v v.items ≡ false → first_halted g v v.items Finished ≡ Finished → (next_of g v pid ≡ DStuck → ⊥) → IsIdle (next_of g v pid)
idle_at g v pid None e r h s = subst IsIdle (sym (ap (at_cut (code_of g v) (length v.origins)) e)) tt
idle_at g v pid (Some t) e r h s = idle_of (next_of g v pid) (calm_at g v pid v.items t e r h) s

pub record IsQuiet (g : Program) (v : Shown) : Type 0 where
  pub quiet : some_ready g v v.items ≡ false
  pub whole : first_halted g v v.items Finished ≡ Finished

used_not : (b : Bool) → (if b then OutOfBudget else Running) ≡ Finished → ⊥
used_not true h = cc
used_not false h = cc

quiet_by : (g : Program) (v : Shown) (b c : Bool) → some_ready g v v.items ≡ b → (if b then (if c then OutOfBudget else Running) else first_halted g v v.items Finished) ≡ Finished → IsQuiet g v
quiet_by g v true c e h = absurd (used_not c h)
quiet_by g v false c e h = record { quiet = e; whole = h }

pub finishes : (g : Program) (v : Shown) (es : List Event) (st : State) (events budget : ℕ) → IsReady (code_of g v) → IsReplay g v es st → outcome g v events budget ≡ Finished → IsFinished (code_of g v) st
finishes g v es st events budget ready r h =
    let q = quiet_by g v (some_ready g v v.items) (events == budget) refl h in
    let s : IsSound (code_of g v) es st = ready_sound (code_of g v) es st ready r.run in
    s.progress (λ pid.
    let e : step_of (code_of g v) st pid ≡ next_of g v pid = state_step g v es st pid r in
    subst IsIdle (sym e) (idle_at g v pid (cut (is_proc pid) v.items) refl q.quiet q.whole (λ k. s.unstuck pid (e ∙ k))))

-- of every run of which the configuration is the replay
pub outcome_finishes : (g : Program) (v : Shown) (events budget : ℕ) (o : Outcome) → IsGoing g v → o ≡ outcome g v events budget → Finishes g v o
outcome_finishes g v events budget o k e es st r h = finishes g v es st events budget k.ready r (sym e ∙ h)
