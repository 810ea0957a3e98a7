-- What holds of configurations that are replays of runs of programs that may be run.
use Rattle.std.proofs.Common.{◌≡◌, List, [], ◌∷◌, ◌++◌, refl, sym, ◌∙◌, subst}
use Rattle.rast_terms.specs.declared.program.Program.{Program}
use Rattle.rast_rules.specs.declared.judgement.Plan.{Plan}
use Rattle.rast_core.specs.Words.{Pid, Event}
use Rattle.rast_items.specs.Step.{Next as Does, Ready as DReady, Waits as DWaits, Halted as DHalted, Ended as DEnded, Stuck as DStuck}
use Rattle.rast_items.specs.Run.{State, state_after}
use Rattle.rast_items.specs.Items.{IsConfig, link_at}
use Rattle.rast_laws.specs.Sound.{IsReady, IsSound}
use Rattle.rast_laws.proofs.Ready.{ready_sound}
use Rattle.rast_core.specs.Shown.{Shown, IsReplay, run_code, code_of, next_of}
use Rattle.rast_core.specs.Promises.{IsGoing, IsSoundReplay, Leaves, StepIs, StepIsSound}
use Rattle.rast_core.specs.declared.answer.Next.{Next}
use Rattle.rast_core.proofs.RunLemmas.{Went, went, went_by, state_step, replay_more}

-- the same plan
pub same_ready : (g : Program) (plan other : Plan) → other ≡ plan → IsReady (run_code g plan) → IsReady (run_code g other)
same_ready g plan other e r = subst (λ (p : Plan). IsReady (run_code g p)) (sym e) r

-- the replay of a run with the plan is going
pub replay_going : (g : Program) (plan : Plan) (v : Shown) (es : List Event) (st : State) → IsReady (run_code g plan) → v.plan ≡ plan → IsReplay g v es st → IsGoing g v
replay_going g plan v es st r e h = record { events = es; state = st; replayed = h; ready = same_ready g plan v.plan e r }

-- what holds after a run of which a configuration with the plan is the replay
pub plan_sound : (g : Program) (plan : Plan) (v : Shown) (es : List Event) (st : State) → IsReady (run_code g plan) → v.plan ≡ plan → IsReplay g v es st → IsSound (run_code g plan) es st
plan_sound g plan v es st r e h = subst (λ (p : Plan). IsSound (run_code g p) es st) e (ready_sound (code_of g v) es st (same_ready g plan v.plan e r) h.run)

-- no process is without a rule
pub going_unstuck : (g : Program) (v : Shown) (pid : Pid) → IsGoing g v → next_of g v pid ≡ DStuck → ⊥
going_unstuck g v pid k e = (ready_sound (code_of g v) k.events k.state k.ready k.replayed.run).unstuck pid (state_step g v k.events k.state pid k.replayed ∙ e)

-- the beginning
pub begins_sound : (g : Program) (plan : Plan) (v : Shown) (st : State) → IsReplay g v [] st → v.plan ≡ plan → IsReady (run_code g plan) → IsSoundReplay g v []
begins_sound g plan v st h e r = record { state = st; replayed = h; sound = ready_sound (code_of g v) [] st (same_ready g plan v.plan e r) h.run }

-- ---- a step

pub step_sound : (g : Program) (old new : Shown) (pid : Pid) (r : Next) → IsGoing g old → StepIs g old pid r new → StepIsSound g old r new
step_sound g old new pid r k t es st e q h =
    let w = went g old new pid e (subst (λ (x : Next). StepIs g old pid x new) h t) in
    let m = replay_more g old new es st pid e q w in
    record { state = state_after st e w.items; replayed = m; sound = ready_sound (code_of g new) (es ++ e ∷ []) (state_after st e w.items) (same_ready g old.plan new.plan w.plan_is k.ready) m.run }

going_by : (g : Program) (old new : Shown) (pid : Pid) (r : Next) (n : Does) → next_of g old pid ≡ n → Leaves n old r new → IsGoing g old → IsGoing g new
going_by g old new pid r (DReady e items) h l k =
    let w : Went g old new pid e = went_by g old new pid e (DReady e items) h (refl, l.1, l.2, l.3, l.4) in
    record { events = k.events ++ e ∷ []; state = state_after k.state e w.items; replayed = replay_more g old new k.events k.state pid e k.replayed w; ready = same_ready g old.plan new.plan w.plan_is k.ready }
going_by g old new pid r (DWaits x) h l k = subst (IsGoing g) (sym l.1) k
going_by g old new pid r (DHalted v) h l k = subst (IsGoing g) (sym l.1) k
going_by g old new pid r DEnded h l k = subst (IsGoing g) (sym l.1) k
going_by g old new pid r DStuck h l k = absurd l

pub step_going : (g : Program) (old new : Shown) (pid : Pid) (r : Next) → IsGoing g old → StepIs g old pid r new → IsGoing g new
step_going g old new pid r k t = going_by g old new pid r (next_of g old pid) refl t k

-- each link is provided once, and used before it is provided
pub going_links : (g : Program) (v : Shown) → IsGoing g v → IsConfig (link_at 0 0) v.items
going_links g v k = subst (IsConfig (link_at 0 0)) (sym k.replayed.items) (ready_sound (code_of g v) k.events k.state k.ready k.replayed.run).links
