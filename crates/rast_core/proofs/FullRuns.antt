-- Runs that are under way.
use Rattle.std.proofs.Common.{◌≡◌, ℕ, Bool, true, false, ◌+◌, ◌^◌, ◌<◌, ◌≤◌, ◌==◌, List, [], ◌∷◌, ◌++◌, refl, sym, ap, ◌∙◌, subst, arith, length, if◌then◌else◌, eq-eqb}
use Rattle.std.proofs.lemmas.List.{length_push}
use Rattle.std.proofs.lemmas.List.Sums.{sum_by_push}
use Rattle.rast_terms.specs.declared.program.Program.{Program}
use Rattle.rast_rules.specs.declared.judgement.Plan.{Plan}
use Rattle.rast_core.specs.Words.{Pid, Item, P, M, Event}
use Rattle.rast_items.specs.Step.{Next as Does, Ready as DReady, Waits as DWaits, Halted as DHalted, Ended as DEnded, Stuck as DStuck}
use Rattle.rast_items.specs.Items.{held}
use Rattle.rast_items.specs.Run.{State, work, work_by}
use Rattle.rast_items.specs.Ends.{IsFinished}
use Rattle.rast_laws.specs.Sound.{IsReady}
use Rattle.rast_core.specs.Shown.{Shown, IsReplay, next_of, is_ready, some_ready, first_halted, halt_of, outcome, run_code}
use Rattle.rast_core.specs.Promises.{IsStart, IsGoing, Leaves, StepIs, IsTurn, IsFullRun}
use Rattle.rast_core.specs.declared.answer.Next.{Next}
use Rattle.rast_core.specs.declared.answer.Next.TheVariants.{Ready}
use Rattle.rast_core.specs.declared.runs.Turn.TheVariants.{Did, Over}
use Rattle.rast_core.specs.declared.answer.Outcome.{Outcome}
use Rattle.rast_core.specs.declared.answer.Outcome.TheVariants.{Running, Finished, OutOfBudget}
use Rattle.rast_core.proofs.RunLemmas.{went, replay_more}
use Rattle.rast_core.proofs.SoundLemmas.{same_ready, replay_going, plan_sound}
use Rattle.rast_core.proofs.FinishLemmas.{finishes}

-- a run of so many events, with room for the rest of a budget
pub record IsPartRun (g : Program) (plan : Plan) (budget : ℕ) (v : Shown) (es : List Event) (done : ℕ) : Type 0 where
  pub state : State
  pub replayed : IsReplay g v es state
  pub plan_is : v.plan ≡ plan
  pub count : length es ≡ done
  pub room : v.spare + done ≡ budget
  pub potential : work es + held v.items < 2 ^ 32

-- the work of one more event
pub work_more : (es : List Event) (e : Event) → work (es ++ e ∷ []) ≡ work es + work_by e
work_more es e = sum_by_push work_by es e

pub part_begins : (g : Program) (plan : Plan) (budget : ℕ) (v : Shown) → IsStart g plan budget v → held v.items < 2 ^ 32 → IsPartRun g plan budget v [] 0
part_begins g plan budget v s h = record { state = s.state; replayed = s.replayed; plan_is = s.plan_is; count = refl; room = omega (arith, s.room_is); potential = omega (arith, h) }

pub part_goes_on : (g : Program) (plan : Plan) (budget : ℕ) (old new : Shown) (es : List Event) (done : ℕ) (e : Event) → IsPartRun g plan budget old es done → IsTurn g old (Did e) new → IsPartRun g plan budget new (es ++ e ∷ []) (done + 1)
part_goes_on g plan budget old new es done e r t =
    let w = went g old new t.0 e t.1 in
    record { state = _; replayed = replay_more g old new es r.state t.0 e r.replayed w; plan_is = w.plan_is ∙ r.plan_is; count = omega (arith, length_push es e, r.count); room = omega (arith, r.room, w.spare_is); potential = omega (arith, r.potential, work_more es e, t.2) }

pub part_going : (g : Program) (plan : Plan) (budget : ℕ) (v : Shown) (es : List Event) (done : ℕ) → IsReady (run_code g plan) → IsPartRun g plan budget v es done → IsGoing g v
part_going g plan budget v es done ready r = replay_going g plan v es r.state ready r.plan_is r.replayed

-- ---- how it ends

-- an outcome that isn't Running
abbrev pub Ends : Outcome → Type 0
Ends o = o ≡ Running → ⊥

halt_ends : (pid : Pid) (n : Does) (o : Outcome) → Ends o → Ends (halt_of pid n o)
halt_ends pid (DReady e items) o h = h
halt_ends pid (DWaits l) o h = h
halt_ends pid (DHalted v) o h = λ e. cc
halt_ends pid DEnded o h = h
halt_ends pid DStuck o h = h

halted_ends : (g : Program) (v : Shown) (items : List Item) (o : Outcome) → Ends o → Ends (first_halted g v items o)
halted_ends g v [] o h = h
halted_ends g v (P p ∷ is) o h = halt_ends p.pid (next_of g v p.pid) (first_halted g v is o) (halted_ends g v is o h)
halted_ends g v (M m ∷ is) o h = halted_ends g v is o h

quiet_ends : (g : Program) (v : Shown) (events budget : ℕ) (b : Bool) → b ≡ false → Ends (if b then (if events == budget then OutOfBudget else Running) else first_halted g v v.items Finished)
quiet_ends g v events budget true h = cc
quiet_ends g v events budget false h = halted_ends g v v.items Finished (λ e. cc)

used_ends : (g : Program) (v : Shown) (b c : Bool) → c ≡ true → Ends (if b then (if c then OutOfBudget else Running) else first_halted g v v.items Finished)
used_ends g v true true h = λ e. cc
used_ends g v true false h = cc
used_ends g v false c h = halted_ends g v v.items Finished (λ e. cc)

-- a finished run
plan_finishes : (g : Program) (plan : Plan) (v : Shown) (es : List Event) (st : State) (budget : ℕ) → IsReady (run_code g plan) → v.plan ≡ plan → IsReplay g v es st → outcome g v (length es) budget ≡ Finished → IsFinished (run_code g plan) st
plan_finishes g plan v es st budget ready e r h = subst (λ (p : Plan). IsFinished (run_code g p) st) e (finishes g v es st (length es) budget (same_ready g plan v.plan e ready) r h)

pub run_quiet : (g : Program) (plan : Plan) (budget : ℕ) (old new : Shown) (es : List Event) (done : ℕ) (o : Outcome) → IsReady (run_code g plan) → IsPartRun g plan budget old es done → IsTurn g old (Over o) new → IsFullRun g plan budget new es
run_quiet g plan budget old new es done o ready r t =
    subst (λ (v : Shown). IsFullRun g plan budget v es) (sym t.0) (record { state = r.state; replayed = r.replayed; plan_is = r.plan_is; sound = plan_sound g plan old es r.state ready r.plan_is r.replayed; finished = plan_finishes g plan old es r.state budget ready r.plan_is r.replayed; few = omega (arith, r.count, r.room); room = omega (arith, r.count, r.room); potential = r.potential; decided = quiet_ends g old (length es) budget (some_ready g old old.items) t.1 })

-- and how far it came
pub quiet_outcome : (g : Program) (old new : Shown) (events budget : ℕ) (o : Outcome) → IsTurn g old (Over o) new → o ≡ outcome g new events budget
quiet_outcome g old new events budget o t =
    let at : some_ready g old old.items ≡ false → outcome g old events budget ≡ first_halted g old old.items Finished = λ e. ap (λ (b : Bool). if b then (if events == budget then OutOfBudget else Running) else first_halted g old old.items Finished) e in
    subst (λ (v : Shown). o ≡ outcome g v events budget) (sym t.0) (t.2 ∙ sym (at t.1))

pub run_used : (g : Program) (plan : Plan) (budget : ℕ) (v : Shown) (es : List Event) (done : ℕ) → IsReady (run_code g plan) → IsPartRun g plan budget v es done → budget ≤ done → IsFullRun g plan budget v es
run_used g plan budget v es done ready r h =
    record { state = r.state; replayed = r.replayed; plan_is = r.plan_is; sound = plan_sound g plan v es r.state ready r.plan_is r.replayed; finished = plan_finishes g plan v es r.state budget ready r.plan_is r.replayed; few = omega (arith, r.count, r.room); room = omega (arith, r.count, r.room); potential = r.potential; decided = used_ends g v (some_ready g v v.items) (length es == budget) (eq-eqb (length es) budget (omega (arith, r.count, r.room, h))) }

pub used_outcome : (g : Program) (plan : Plan) (budget : ℕ) (v : Shown) (es : List Event) (done : ℕ) (o : Outcome) → IsPartRun g plan budget v es done → budget ≤ done → o ≡ outcome g v budget budget → o ≡ outcome g v (length es) budget
used_outcome g plan budget v es done o r h e =
    let k : length es ≡ budget = omega (arith, r.count, r.room, h) in
    e ∙ ap (λ (n : ℕ). outcome g v n budget) (sym k)

-- ---- one turn

stays_by : (n : Does) (old new : Shown) (r : Next) → Leaves n old r new → ((e : Event) → r ≡ Ready e → ⊥) → new ≡ old
stays_by (DReady e items) old new r l h = absurd (h e l.0)
stays_by (DWaits k) old new r l h = l.1
stays_by (DHalted v) old new r l h = l.1
stays_by DEnded old new r l h = l.1
stays_by DStuck old new r l h = absurd l

-- a step that isn't ready changes nothing
pub stays : (g : Program) (old new : Shown) (pid : Pid) (r : Next) → StepIs g old pid r new → ((e : Event) → r ≡ Ready e → ⊥) → new ≡ old
stays g old new pid r l h = stays_by (next_of g old pid) old new r l h

ready_by : (n : Does) (old new : Shown) (r : Next) → is_ready n ≡ true → Leaves n old r new → ((e : Event) → r ≡ Ready e → ⊥) → ⊥
ready_by (DReady e items) old new r h l k = k e l.0
ready_by (DWaits x) old new r h l k = cc
ready_by (DHalted v) old new r h l k = cc
ready_by DEnded old new r h l k = cc
ready_by DStuck old new r h l k = absurd l

-- a process that has an event does it
pub ready_goes : (g : Program) (old new : Shown) (pid : Pid) (r : Next) → is_ready (next_of g old pid) ≡ true → StepIs g old pid r new → ((e : Event) → r ≡ Ready e → ⊥) → ⊥
ready_goes g old new pid r h l k = ready_by (next_of g old pid) old new r h l k
