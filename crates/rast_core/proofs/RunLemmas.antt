-- Runs that go on by one step, of which a configuration is the replay.
use Rattle.std.proofs.Common.{◌≡◌, ℕ, ◌+◌, List, [], ◌∷◌, ◌++◌, refl, sym, ap, ap₂, ◌∙◌, subst, length, map}
use Rattle.std.proofs.lemmas.List.{map-append, length-map}
use Rattle.rast_terms.specs.declared.program.Program.{Program}
use Rattle.rast_core.specs.Words.{Pid, Item, Event}
use Rattle.rast_items.specs.Deeds.{Code}
use Rattle.rast_items.specs.Step.{Next as Does, Ready as DReady, Waits as DWaits, Halted as DHalted, Ended as DEnded, Stuck as DStuck, step}
use Rattle.rast_items.specs.Run.{State, born, state_after, step_of, pid_of, IsRunFrom, IsRun}
use Rattle.rast_core.specs.Shown.{Shown, IsReplay, origin, run_code, code_of, next_of}
use Rattle.rast_core.specs.Promises.{Leaves, StepIs}
use Rattle.rast_core.specs.declared.origin.Origin.{Origin}
use Rattle.rast_core.specs.declared.answer.Next.TheVariants.{Ready, Waits, Halted, Ended}
use Rattle.rast_core.proofs.StepPids.{step_pid}

pub run_from_more : (c : Code) (begin mid : State) (es : List Event) (e : Event) (items : List Item) → IsRunFrom c begin es mid → step_of c mid (pid_of e) ≡ DReady e items → IsRunFrom c begin (es ++ e ∷ []) (state_after mid e items)
run_from_more c begin mid [] e items r s =
    (items, subst (λ (st : State). step_of c st (pid_of e) ≡ DReady e items) r s, ap (λ (st : State). state_after st e items) r)
run_from_more c begin mid (f ∷ es) e items r s = (r.0, r.1, run_from_more c (state_after begin f r.0) mid es e items r.2 s)

-- what a ready step says
pub record Went (g : Program) (old new : Shown) (pid : Pid) (e : Event) : Type 0 where
  pub items : List Item
  pub step : next_of g old pid ≡ DReady e items
  pub items_are : new.items ≡ items
  pub origins_are : new.origins ≡ old.origins ++ map origin (born e items)
  pub plan_is : new.plan ≡ old.plan
  pub spare_is : new.spare + 1 ≡ old.spare

pub ready_same : (e f : Event) → Ready e ≡ Ready f → e ≡ f
ready_same e f h = cc

pub went_by : (g : Program) (old new : Shown) (pid : Pid) (e : Event) (n : Does) → next_of g old pid ≡ n → Leaves n old (Ready e) new → Went g old new pid e
went_by g old new pid e (DReady f items) h l =
    let k : e ≡ f = ready_same e f l.0 in
    record { items = items; step = h ∙ ap (λ (x : Event). DReady x items) (sym k); items_are = l.1; origins_are = l.2 ∙ ap (λ (x : Event). old.origins ++ map origin (born x items)) (sym k); plan_is = l.3; spare_is = l.4 }
went_by g old new pid e (DWaits x) h l = absurd (let k : Ready e ≡ Waits x = l.0 in cc)
went_by g old new pid e (DHalted v) h l = absurd (let k : Ready e ≡ Halted v = l.0 in cc)
went_by g old new pid e DEnded h l = absurd (let k : Ready e ≡ Ended = l.0 in cc)
went_by g old new pid e DStuck h l = absurd l

pub went : (g : Program) (old new : Shown) (pid : Pid) (e : Event) → StepIs g old pid (Ready e) new → Went g old new pid e
went g old new pid e h = went_by g old new pid e (next_of g old pid) refl h

-- the step in the state of which the configuration is the replay
pub state_step : (g : Program) (v : Shown) (es : List Event) (st : State) (pid : Pid) → IsReplay g v es st → step_of (code_of g v) st pid ≡ next_of g v pid
state_step g v es st pid r =
    let n : length st.births ≡ length v.origins = sym (length-map st.births origin) ∙ ap length (sym r.origins) in
    ap₂ (λ (k : ℕ) (xs : List Item). step (code_of g v) k pid xs) n (sym r.items)

pub replay_more : (g : Program) (old new : Shown) (es : List Event) (st : State) (pid : Pid) (e : Event) (r : IsReplay g old es st) (w : Went g old new pid e) → IsReplay g new (es ++ e ∷ []) (state_after st e w.items)
replay_more g old new es st pid e r w =
    let by = step_pid (code_of g old) (length old.origins) pid old.items w.items e w.step in
    let s : step_of (code_of g old) st (pid_of e) ≡ DReady e w.items = ap (step_of (code_of g old) st) by ∙ (state_step g old es st pid r ∙ w.step) in
    let c : code_of g old ≡ code_of g new = ap (run_code g) (sym w.plan_is) in
    record {
      run = subst (λ (x : Code). IsRun x (es ++ e ∷ []) (state_after st e w.items)) c (r.run.0, r.run.1, run_from_more (code_of g old) r.run.0 st es e w.items r.run.2 s);
      items = w.items_are;
      origins = w.origins_are ∙ (ap (λ (os : List Origin). os ++ map origin (born e w.items)) r.origins ∙ sym (map-append origin st.births (born e w.items)));
    }
