-- Each process of a configuration has a rule, and where none has an event, none has where it stands.
use Rattle.std.proofs.Common.{◌≡◌, ℕ, true, ◌≤◌, ◌+◌, List, ◌∷◌, ◌++◌, length, Option, Some, None, refl, sym, ap, ◌∙◌, subst, arith}
use Rattle.rast_types.specs.Closed.{View}
use Rattle.rast_items.specs.Deeds.{Code, Deed, Puts, Takes, Moves, Makes, Turns, Works, Delays, Halts, Breaks, deed}
use Rattle.rast_items.specs.Step.{Ready, Stuck, Cut, cut, is_proc, is_msg, does, take_client, take_provider, move_it, move_client, move_provider, at_cut, at_item, step}
use Rattle.rast_items.specs.Run.{State, ArePidsApart, step_of}
use Rattle.rast_items.specs.Ends.{IsIdle, AreIdle}
use Rattle.rast_order.proofs.Words.{Link, Pid, Item, P, M, Proc, Msg, Side, Client, Provider}
use Rattle.rast_order.proofs.View.{cut_is}
use Rattle.rast_order.proofs.Pids.{named, named-append, is_of}
use Rattle.rast_laws.proofs.Cuts.{cut_named}
use Rattle.rast_laws.proofs.Fine.{AllFine, fine_left, fine_right}
use Rattle.rast_laws.proofs.Lawful.{DeedFine, DeedLaw}
use Rattle.rast_laws.proofs.Whole.{deed_at}
use Rattle.rast_laws.proofs.Progress.{Quiet, taking, msg_at}

-- ---- a process stands where its number is found

self_named : (p : Proc) (after : List Item) → 1 ≤ named p.pid (P p ∷ after)
self_named p after = omega (arith, self_is p.pid)
  where
    self_is : (k : Pid) → is_of k k ≡ 1
    self_is k = grind arith

pub step_here : (c : Code) (st : State) (before after : List Item) (p : Proc) → ArePidsApart st → st.items ≡ before ++ (P p ∷ after) → step_of c st p.pid ≡ does c before p after (deed c (length st.births) p)
step_here c st before after p a is =
    let k : ℕ = length st.births in
    let one : named p.pid before + named p.pid (P p ∷ after) ≤ 1 = omega (arith, a.once p.pid, ap (named p.pid) is, named-append p.pid before (P p ∷ after)) in
    ap (λ o. at_cut c k o) (ap (cut (is_proc p.pid)) is ∙ cut_named p.pid before p after (omega (arith, one, self_named p after)) refl)

pub quiet_of : (c : Code) (st : State) → ArePidsApart st → AreIdle c st → Quiet c (length st.births) st.items
quiet_of c st a idle = λ before after p is. subst IsIdle (step_here c st before after p a is) (idle p.pid)

-- ---- no process is without a rule

take_client_runs : (c : Code) (d : Link → Option View) (before after : List Item) (p : Proc) (l : Link) (o : Option Cut) → DeedFine c d p (Takes l Client) → AllFine c.program d after → cut (is_msg l Client) after ≡ o → take_client c before p l o ≡ Stuck → ⊥
take_client_runs c d before after p l None t w e q = cc
take_client_runs c d before after p l (Some k) t w e q =
    let ic = cut_is (is_msg l Client) after k e in
    let r = taking c d p l Client (λ x. before ++ (P x ∷ (k.before ++ k.after))) k.item t ic.passes (msg_at c.program d after k.before k.after k.item ic.is w) in
    let z : Ready r.event r.new ≡ Stuck = sym r.is ∙ q in cc

take_provider_runs : (c : Code) (d : Link → Option View) (before after : List Item) (p : Proc) (l : Link) (o : Option Cut) → DeedFine c d p (Takes l Provider) → AllFine c.program d before → cut (is_msg l Provider) before ≡ o → take_provider c p l o after ≡ Stuck → ⊥
take_provider_runs c d before after p l None t w e q = cc
take_provider_runs c d before after p l (Some k) t w e q =
    let ic = cut_is (is_msg l Provider) before k e in
    let r = taking c d p l Provider (λ x. k.before ++ (P x ∷ (k.after ++ after))) k.item t ic.passes (msg_at c.program d before k.before k.after k.item ic.is w) in
    let z : Ready r.event r.new ≡ Stuck = sym r.is ∙ q in cc

move_runs : (f : Msg → List Item) (to : Link) (pid : Pid) (l : Link) (s : Side) (i : Item) → is_msg l s i ≡ true → move_it f to pid i ≡ Stuck → ⊥
move_runs f to pid l s (P q) h x = cc
move_runs f to pid l s (M m) h x = cc

move_provider_runs : (before after : List Item) (p : Proc) (other wait : Link) (o : Option Cut) → cut (is_msg p.own Provider) before ≡ o → move_provider p other wait o after ≡ Stuck → ⊥
move_provider_runs before after p other wait None e q = cc
move_provider_runs before after p other wait (Some k) e q =
    move_runs (λ m. k.before ++ (M m ∷ (k.after ++ after))) other p.pid p.own Provider k.item (cut_is (is_msg p.own Provider) before k e).passes q

move_client_runs : (before after : List Item) (p : Proc) (other wait : Link) (o : Option Cut) → cut (is_msg other Client) after ≡ o → move_client before p other wait o after ≡ Stuck → ⊥
move_client_runs before after p other wait None e q = move_provider_runs before after p other wait (cut (is_msg p.own Provider) before) refl q
move_client_runs before after p other wait (Some k) e q =
    move_runs (λ m. before ++ (k.before ++ (M m ∷ k.after))) p.own p.pid other Client k.item (cut_is (is_msg other Client) after k e).passes q

does_runs : (c : Code) (d : Link → Option View) (before after : List Item) (p : Proc) (x : Deed) → DeedFine c d p x → AllFine c.program d (before ++ (P p ∷ after)) → does c before p after x ≡ Stuck → ⊥
does_runs c d before after p (Puts m rest) f w q = cc
does_runs c d before after p (Takes l Client) f w q = take_client_runs c d before after p l (cut (is_msg l Client) after) f (fine_right c.program d before (P p ∷ after) w).1 refl q
does_runs c d before after p (Takes l Provider) f w q = take_provider_runs c d before after p l (cut (is_msg l Provider) before) f (fine_left c.program d before (P p ∷ after) w) refl q
does_runs c d before after p (Moves other wait) f w q = move_client_runs before after p other wait (cut (is_msg other Client) after) refl q
does_runs c d before after p (Makes child rest n) f w q = cc
does_runs c d before after p (Turns rest n) f w q = cc
does_runs c d before after p (Works n rest) f w q = cc
does_runs c d before after p (Delays n rest) f w q = cc
does_runs c d before after p (Halts v) f w q = cc
does_runs c d before after p Breaks f w q = f

item_runs : (c : Code) (law : DeedLaw c) (d : Link → Option View) (k : ℕ) (items b a : List Item) (pid : Pid) (i : Item) → items ≡ b ++ (i ∷ a) → is_proc pid i ≡ true → AllFine c.program d items → at_item c k b i a ≡ Stuck → ⊥
item_runs c law d k items b a pid (M m) is t w q = cc
item_runs c law d k items b a pid (P p) is t w q =
    let h : AllFine c.program d (b ++ (P p ∷ a)) = subst (AllFine c.program d) is w in
    does_runs c d b a p (deed c k p) (deed_at c law d k b a p (deed c k p) h refl) h q

cut_runs : (c : Code) (law : DeedLaw c) (d : Link → Option View) (k : ℕ) (items : List Item) (pid : Pid) (o : Option Cut) → cut (is_proc pid) items ≡ o → AllFine c.program d items → at_cut c k o ≡ Stuck → ⊥
cut_runs c law d k items pid None e w q = cc
cut_runs c law d k items pid (Some t) e w q = let ic = cut_is (is_proc pid) items t e in item_runs c law d k items t.before t.after pid t.item ic.is ic.passes w q

pub unstuck : (c : Code) (law : DeedLaw c) (d : Link → Option View) (k : ℕ) (items : List Item) (pid : Pid) → AllFine c.program d items → step c k pid items ≡ Stuck → ⊥
unstuck c law d k items pid w q = cut_runs c law d k items pid (cut (is_proc pid) items) refl w q
