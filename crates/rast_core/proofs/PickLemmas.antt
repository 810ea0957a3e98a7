-- Runs of lists of picks.
use Rattle.std.proofs.Common.{◌≡◌, ℕ, ◌+◌, ◌^◌, ◌<◌, ◌≤◌, List, [], ◌∷◌, ◌++◌, Some, refl, sym, ap, ap₂, ◌∙◌, subst, arith, length, map, take}
use Rattle.std.specs.Prelude.{slice_get}
use Rattle.std.proofs.lemmas.List.{map-append, take_more, take_all}
use Rattle.std.proofs.lemmas.Option.{slice_get_within, get_or_from_slice_get}
use Rattle.rast_terms.specs.declared.program.Program.{Program}
use Rattle.rast_rules.specs.declared.judgement.Plan.{Plan}
use Rattle.rast_core.specs.Words.{Pid, Item, Event}
use Rattle.rast_items.specs.Deeds.{Code}
use Rattle.rast_items.specs.Items.{held}
use Rattle.rast_items.specs.Step.{Next as Does, Ready as DReady}
use Rattle.rast_items.specs.Run.{State, IsRun, IsRunFrom, more_run, run_on, replay, state_after, step_of, pid_of, work, work_by}
use Rattle.rast_laws.specs.Sound.{IsReady}
use Rattle.rast_core.specs.Shown.{Shown, IsReplay, run_code, code_of, next_of}
use Rattle.rast_core.specs.Promises.{IsStart, IsGoing, Leaves, StepIs, Replayed, IsRefusedAt}
use Rattle.rast_core.specs.declared.answer.Next.{Next}
use Rattle.rast_core.specs.declared.answer.Next.TheVariants.{Ready}
use Rattle.rast_core.specs.declared.answer.ReplayErr.TheVariants.{At}
use Rattle.rast_core.proofs.StepPids.{step_pid}
use Rattle.rast_core.proofs.RunLemmas.{went, replay_more, state_step}
use Rattle.rast_core.proofs.SoundLemmas.{replay_going, plan_sound}
use Rattle.rast_core.proofs.FullRuns.{work_more}

-- the run of the first picks, with room for the rest
pub record IsPartReplay (g : Program) (plan : Plan) (picks : List Pid) (v : Shown) (es : List Event) (done : ℕ) : Type 0 where
  pub state : State
  pub replayed : IsReplay g v es state
  pub plan_is : v.plan ≡ plan
  pub picks_are : map pid_of es ≡ take done picks
  pub room : v.spare + done ≡ length picks
  pub potential : work es + held v.items < 2 ^ 32

pub picks_begin : (g : Program) (plan : Plan) (picks : List Pid) (v : Shown) → IsStart g plan (length picks) v → held v.items < 2 ^ 32 → IsPartReplay g plan picks v [] 0
picks_begin g plan picks v s h = record { state = s.state; replayed = s.replayed; plan_is = s.plan_is; picks_are = refl; room = omega (arith, s.room_is); potential = omega (arith, h) }

pub picks_go_on : (g : Program) (plan : Plan) (picks : List Pid) (old new : Shown) (es : List Event) (done : ℕ) (pid : Pid) (e : Event) → IsPartReplay g plan picks old es done → slice_get picks done ≡ Some pid → StepIs g old pid (Ready e) new →
    work_by e + held new.items ≤ held old.items → IsPartReplay g plan picks new (es ++ e ∷ []) (done + 1)
picks_go_on g plan picks old new es done pid e r h t q =
    let w = went g old new pid e t in
    let by : pid_of e ≡ pid = step_pid (code_of g old) (length old.origins) pid old.items w.items e w.step in
    let l : done < length picks = slice_get_within picks done pid h in
    let m : take (done + 1) picks ≡ take done picks ++ pid ∷ [] = take_more picks done pid l ∙ ap (λ (p : Pid). take done picks ++ p ∷ []) (get_or_from_slice_get picks done pid pid h) in
    record {
      state = _;
      replayed = replay_more g old new es r.state pid e r.replayed w;
      plan_is = w.plan_is ∙ r.plan_is;
      picks_are = map-append pid_of es (e ∷ []) ∙ (ap₂ (λ (ps : List Pid) (p : Pid). ps ++ p ∷ []) r.picks_are by ∙ sym m);
      room = omega (arith, r.room, w.spare_is);
      potential = omega (arith, r.potential, work_more es e, q);
    }

pub picks_end : (g : Program) (plan : Plan) (picks : List Pid) (v : Shown) (es : List Event) (done : ℕ) → IsReady (run_code g plan) → IsPartReplay g plan picks v es done → length picks ≤ done → Replayed g plan picks v es
picks_end g plan picks v es done ready r h = record { state = r.state; replayed = r.replayed; plan_is = r.plan_is; picks_are = r.picks_are ∙ take_all done picks h; room = omega (arith, r.room, h); sound = plan_sound g plan v es r.state ready r.plan_is r.replayed; potential = r.potential }

pub picks_going : (g : Program) (plan : Plan) (picks : List Pid) (v : Shown) (es : List Event) (done : ℕ) → IsReady (run_code g plan) → IsPartReplay g plan picks v es done → IsGoing g v
picks_going g plan picks v es done ready r = replay_going g plan v es r.state ready r.plan_is r.replayed

-- ---- a pick that is refused

-- a run is the run of its picks
run_replays : (c : Code) (begin end' : State) (es : List Event) → IsRunFrom c begin es end' → replay c begin (map pid_of es) ≡ Some (es, end')
run_replays c begin end' [] r = ap (λ (st : State). Some (let p : List Event × State = ([], st) in p)) (sym r)
run_replays c begin end' (e ∷ es) r =
    let ps = map pid_of es in
    let s : replay c begin (pid_of e ∷ ps) ≡ run_on e (replay c (state_after begin e r.0) ps) = ap (λ (n : Does). more_run n (λ f items. replay c (state_after begin f items) ps)) r.1 in
    s ∙ ap (run_on e) (run_replays c (state_after begin e r.0) end' es r.2)

stops_by : (n : Does) (old new : Shown) (r : Next) (e : Event) (items : List Item) → Leaves n old r new → ((f : Event) → r ≡ Ready f → ⊥) → n ≡ DReady e items → ⊥
stops_by n old new r e items l k h = let m : Leaves (DReady e items) old r new = subst (λ (d : Does). Leaves d old r new) h l in k e m.0

pub picks_stop : (g : Program) (plan : Plan) (picks : List Pid) (old new : Shown) (es : List Event) (done : ℕ) (pid : Pid) (r : Next) → IsPartReplay g plan picks old es done → slice_get picks done ≡ Some pid → StepIs g old pid r new → ((e : Event) → r ≡ Ready e → ⊥) →
    IsRefusedAt g plan picks (At done)
picks_stop g plan picks old new es done pid r p h t k =
    let c : Code = run_code g plan in
    let run : IsRun c es p.state = subst (λ (q : Plan). IsRun (run_code g q) es p.state) p.plan_is p.replayed.run in
    let code : code_of g old ≡ c = ap (run_code g) p.plan_is in
    record {
      begin = run.0;
      is_begin = run.1;
      state = p.state;
      events = es;
      before = ap (replay c run.0) (sym p.picks_are) ∙ run_replays c run.0 p.state es run.2;
      pick = pid;
      at = h;
      stops = λ e items s. stops_by (next_of g old pid) old new r e items t k (sym (state_step g old es p.state pid p.replayed) ∙ (ap (λ (d : Code). step_of d p.state pid) code ∙ s));
    }
