-- What holds after every run, from what each process does and from how main begins.
use Rattle.std.proofs.Common.{◌≡◌, ℕ, ◌+◌, List, [], ◌∷◌, ◌++◌, length, Some, refl, sym, ap, ◌∙◌, subst, arith, append_assoc, append-nil}
use Rattle.std.specs.List.{All}
use Rattle.std.proofs.lemmas.List.Elements.{All-nil, All-cons}
use Rattle.rast_items.specs.Items.{held, link_at}
use Rattle.rast_items.specs.Deeds.{Code}
use Rattle.rast_items.specs.Run.{State, IsRun, IsRunFrom, start_of, state_after, pid_of, born, ArePidsApart, work, sent_at, taken_at}
use Rattle.rast_laws.specs.Typed.{due}
use Rattle.rast_items.specs.Ends.{IsPoised, AreIdle, IsFinished}
use Rattle.rast_laws.specs.Sound.{IsSound}
use Rattle.rast_order.proofs.Words.{Item, Event}
use Rattle.rast_order.proofs.View.{StepView, step_view}
use Rattle.rast_order.proofs.Runs.{start_sound, prefix_entries}
use Rattle.rast_order.proofs.Pids.{run_keeps_pids, step_pids}
use Rattle.rast_laws.proofs.Fine.{AllFine, all_typed}
use Rattle.rast_laws.proofs.Freely.{apart_fine}
use Rattle.rast_laws.proofs.Polar.{polar}
use Rattle.rast_laws.proofs.Lawful.{DeedLaw}
use Rattle.rast_laws.proofs.Whole.{Whole}
use Rattle.rast_laws.proofs.Kept.{step_whole}
use Rattle.rast_laws.proofs.Balance.{step_sum}
use Rattle.rast_laws.proofs.Fitting.{AllSent, all_stay, all_more, step_sent, sends_typed}
use Rattle.rast_laws.proofs.Progress.{ArePoised, progress}
use Rattle.rast_laws.proofs.Unstuck.{quiet_of, unstuck}
use Rattle.rast_laws.proofs.Halting.{halts_great}

-- main's process fits at the beginning
abbrev pub MainLaw : Code → Type 0
MainLaw c = (begin : State) → start_of c.program ≡ Some begin → AllFine c.program (due c.program [] begin.births) begin.items

-- what is known after these events, where so much is held at the beginning
pub record Known (c : Code) (begin : State) (past : List Event) (st : State) : Type 0 where
  pub whole : Whole c past st.births st.items
  pub numbers : ArePidsApart st
  pub sent : AllSent c.program past st.births past
  pub balance : work past + held st.items ≡ held begin.items

known_step : (c : Code) (law : DeedLaw c) (begin : State) (past : List Event) (st : State) (e : Event) (items : List Item) → StepView c (length st.births) (pid_of e) st.items items e → Known c begin past st → Known c begin (past ++ e ∷ []) (state_after st e items)
known_step c law begin past st e items v k =
    let w : Whole c (past ++ e ∷ []) (st.births ++ born e items) items = step_whole c law past st.births (pid_of e) st.items items e v k.numbers k.whole in
    record {
      whole = w;
      numbers = step_pids c st e items k.numbers v;
      sent = all_more c.program (past ++ e ∷ []) (st.births ++ born e items) past e (all_stay c.program past st.births (born e items) e past k.sent) (step_sent c (length st.births) (pid_of e) st.items items e (past ++ e ∷ []) (st.births ++ born e items) v w);
      balance = step_sum c law past st.births (pid_of e) st.items items e v k.whole ∙ k.balance;
    }

known_run : (c : Code) (law : DeedLaw c) (begin : State) (es past : List Event) (st end' : State) → Known c begin past st → IsRunFrom c st es end' → Known c begin (past ++ es) end'
known_run c law begin [] past st end' k r = subst (Known c begin (past ++ [])) (sym r) (subst (λ x. Known c begin x st) (sym (append-nil past)) k)
known_run c law begin (e ∷ es) past st end' k r =
    let v : StepView c (length st.births) (pid_of e) st.items r.0 e = step_view c (length st.births) (pid_of e) st.items r.0 e r.1 in
    subst (λ x. Known c begin x end') (append_assoc past (e ∷ []) es) (known_run c law begin es (past ++ e ∷ []) (state_after st e r.0) end' (known_step c law begin past st e r.0 v k) r.2)

pub known : (c : Code) → DeedLaw c → MainLaw c → (es : List Event) (st : State) (r : IsRun c es st) → Known c r.0 es st
known c law main es st r =
    known_run c law r.0 es [] r.0 st (record {
      whole = record { sound = start_sound c.program r.0 r.1; fine = main r.0 r.1 };
      numbers = run_keeps_pids c [] r.0 (r.0, r.1, refl);
      sent = tt;
      balance = omega arith;
    }) r.2

-- ---- what is promised

all_poised : (c : Code) (k : ℕ) (items : List Item) → ArePoised c k items → All (IsPoised c k) items
all_poised c k [] h = All-nil (IsPoised c k)
all_poised c k (i ∷ is) h = All-cons (IsPoised c k) i is h.0 (all_poised c k is h.1)

known_finishes : (c : Code) → DeedLaw c → (begin : State) (es : List Event) (st : State) → Known c begin es st → AreIdle c st → IsFinished c st
known_finishes c law begin es st k idle = record {
  idle = idle;
  poised = all_poised c (length st.births) st.items (progress c law (due c.program es st.births) (length st.births) st.items k.whole.fine k.whole.sound.config (quiet_of c st k.numbers idle));
}

pub sound_of : (c : Code) → DeedLaw c → MainLaw c → (es : List Event) (st : State) → IsRun c es st → IsSound c es st
sound_of c law main es st r =
    let k : Known c r.0 es st = known c law main es st r in
    record {
      links = k.whole.sound.config;
      numbers = k.numbers;
      made = k.whole.sound.below;
      reached = k.whole.sound.queue.reach;
      unmade = k.whole.sound.unsent;
      apart = apart_fine c.program (due c.program es st.births) (link_at 0 0) st.items k.whole.fine k.whole.sound.config;
      forwards = polar c law (due c.program es st.births) (length st.births) st.items k.whole.fine k.whole.sound.config;
      typed = all_typed c.program (due c.program es st.births) st.items k.whole.fine;
      sent = sends_typed c.program es st.births es k.sent;
      ordered = record { prefix = λ s. prefix_entries (taken_at s es) (sent_at s es) (k.whole.sound.queue.prefixes s); numbered = k.whole.sound.queue.numbered };
      moments = k.whole.sound.queue.prefixes;
      potential = λ begin b. k.balance ∙ ap (λ x. held x.items) (let z : Some r.0 ≡ Some begin = sym r.1 ∙ b in let y : r.0 ≡ begin = cc in y);
      unstuck = λ pid q. unstuck c law (due c.program es st.births) (length st.births) st.items pid k.whole.fine q;
      halted = λ pid v h. halts_great c (length st.births) pid st.items v h;
      progress = known_finishes c law r.0 es st k;
    }
