-- Each step of a program whose processes do what fits keeps all that is known.
use mathlib.Core.Path.{fun_ext}
use Rattle.std.proofs.Common.{◌≡◌, ℕ, List, [], ◌∷◌, ◌++◌, length, Option, Some, refl, sym, ap, ◌∙◌, subst, subst₂, arith, append_assoc}
use Rattle.rast_index.specs.Linear.{whole}
use Rattle.rast_types.specs.Closed.{View, view, closed}
use Rattle.rast_terms.specs.declared.program.Program.{Program}
use Rattle.rast_items.specs.Items.{link_at}
use Rattle.rast_items.specs.Deeds.{Code, Makes, deed}
use Rattle.rast_items.specs.Step.{cut, is_proc}
use Rattle.rast_items.specs.Run.{Birth, Sent, sent_at, taken_at, taken_by, on_session, born, values_in, ordinal_in, ArePidsApart}
use Rattle.rast_laws.specs.Typed.{due}
use Rattle.rast_order.proofs.Words.{Link, Pid, Item, P, M, Proc, Event, Send, Take, Move, Spawn, Call, Work, Delay}
use Rattle.rast_order.proofs.Deeds.{MakeSound, DeedSound, deed_sound}
use Rattle.rast_order.proofs.View.{StepView, puts, takes_client, takes_provider, moves_client, moves_provider, makes, stays, Alone, Turning, Working, Delaying, alone_deed, alone_event}
use Rattle.rast_order.proofs.Sound.{Sound}
use Rattle.rast_order.proofs.Steps.{FreeAt, After, took_by, then_sent, then_taken, step_sound, born_many, many_after}
use Rattle.rast_order.proofs.Pids.{named, named-append}
use Rattle.rast_laws.proofs.Cuts.{cut_at, cut_named}
use Rattle.rast_laws.proofs.Fine.{ProcFine, AllFine, fine_left, fine_right, fine_append}
use Rattle.rast_laws.proofs.Dues.{sent_more, taken_more, due_born}
use Rattle.rast_laws.proofs.Lawful.{Spawns, DeedFine, DeedLaw}
use Rattle.rast_laws.proofs.Freely.{apart_fine}
use Rattle.rast_laws.proofs.Whole.{Whole, deed_at, fine_stays, put_free, put_typed, take_client_well, take_provider_well}
use Rattle.rast_laws.proofs.Handed.{move_client_well, move_client_freely, move_provider_well, move_provider_freely}

-- ---- the links that a step uses are free, and a taken message has the taker's moment

step_free : (c : Code) (law : DeedLaw c) (past : List Event) (births : List Birth) (pid : Pid) (items new : List Item) (e : Event) (v : StepView c (length births) pid items new e) → Whole c past births items → FreeAt v
step_free c law past births pid items new e (puts v) w = put_free c law past births v.before v.after v.p v.m v.rest v.does (subst (Whole c past births) v.was w)
step_free c law past births pid items new e (takes_client v) w = tt
step_free c law past births pid items new e (takes_provider v) w = tt
step_free c law past births pid items new e (moves_client v) w =
    let x : Whole c past births (v.before ++ (P v.p ∷ (v.between ++ (M v.m ∷ v.after)))) = subst (Whole c past births) v.was w in
    move_client_freely c law (due c.program past births) (length births) v.before v.between v.after v.p v.m v.wait v.toward x.fine x.sound.config v.does
step_free c law past births pid items new e (moves_provider v) w =
    let x : Whole c past births (v.before ++ (M v.m ∷ (v.between ++ (P v.p ∷ v.after)))) = subst (Whole c past births) v.was w in
    move_provider_freely c law (due c.program past births) (length births) v.before v.between v.after v.p (record v.p { own = v.m.next }) v.m v.other v.wait v.toward v.link x.fine x.sound.config v.does
step_free c law past births pid items new e (makes v) w = tt
step_free c law past births pid items new e (stays v) w = tt

alone_takes : (w : Alone) (p : Pid) (rest : Proc) (s : Pid) → taken_by s (alone_event w p rest) ≡ []
alone_takes (Turning d) p rest s = refl
alone_takes (Working q) p rest s = refl
alone_takes (Delaying t) p rest s = refl

-- what a step takes is what its event says, with the moment
step_takes : (c : Code) (law : DeedLaw c) (past : List Event) (births : List Birth) (pid : Pid) (items new : List Item) (e : Event) (v : StepView c (length births) pid items new e) → Whole c past births items → (s : Pid) → took_by v s ≡ taken_by s e
step_takes c law past births pid items new e (puts v) w s = ap (taken_by s) (sym v.event)
step_takes c law past births pid items new e (takes_client v) w s =
    let x : Whole c past births (v.before ++ (P v.p ∷ (v.between ++ (M v.m ∷ v.after)))) = subst (Whole c past births) v.was w in
    ap (on_session s v.m.link v.m.body) (sym (take_client_well c law (due c.program past births) (length births) v.before v.between v.after v.p v.q v.m x.fine v.does v.leaves).1) ∙ ap (taken_by s) (sym v.event)
step_takes c law past births pid items new e (takes_provider v) w s =
    let x : Whole c past births (v.before ++ (M v.m ∷ (v.between ++ (P v.p ∷ v.after)))) = subst (Whole c past births) v.was w in
    ap (on_session s v.m.link v.m.body) (sym (take_provider_well c law (due c.program past births) (length births) v.before v.between v.after v.p v.q v.m x.fine v.does v.leaves).1) ∙ ap (taken_by s) (sym v.event)
step_takes c law past births pid items new e (moves_client v) w s = ap (taken_by s) (sym v.event)
step_takes c law past births pid items new e (moves_provider v) w s = ap (taken_by s) (sym v.event)
step_takes c law past births pid items new e (makes v) w s = ap (taken_by s) (sym v.event)
step_takes c law past births pid items new e (stays v) w s = sym (alone_takes v.way v.p.pid v.rest s) ∙ ap (taken_by s) (sym v.event)

step_keeps_sound : (c : Code) (law : DeedLaw c) (past : List Event) (births : List Birth) (pid : Pid) (items new : List Item) (e : Event) → StepView c (length births) pid items new e → Whole c past births items → Sound (link_at 0 0) (length (births ++ born e new)) (λ s. sent_at s (past ++ e ∷ [])) (λ s. taken_at s (past ++ e ∷ [])) new
step_keeps_sound c law past births pid items new e v w =
    let snt : Pid → List Sent = λ s. sent_at s past in
    let tkn : Pid → List Sent = λ s. taken_at s past in
    let k : After (link_at 0 0) (length births) snt tkn (took_by v) new e =
    step_sound c (link_at 0 0) (length births) pid snt tkn items new e v (apart_fine c.program (due c.program past births) (link_at 0 0) items w.fine w.sound.config) (step_free c law past births pid items new e v w) w.sound in
    let a : then_sent snt e ≡ (λ s. sent_at s (past ++ e ∷ [])) = fun_ext (λ s. sym (sent_more s past e)) in
    let b : then_taken tkn (took_by v) ≡ (λ s. taken_at s (past ++ e ∷ [])) = fun_ext (λ s. ap (λ y. taken_at s past ++ y) (step_takes c law past births pid items new e v w s) ∙ sym (taken_more s past e)) in
    let n : many_after (length births) e ≡ length (births ++ born e new) = sym (born_many (record { items = new; births = births }) e new) in
    subst (λ m. Sound (link_at 0 0) m (λ s. sent_at s (past ++ e ∷ [])) (λ s. taken_at s (past ++ e ∷ [])) new) n (subst₂ (λ x y. Sound (link_at 0 0) (many_after (length births) e) x y new) a b k)

-- ---- spawns, and steps of a process alone

make_well : (c : Code) (law : DeedLaw c) (past : List Event) (births : List Birth) (before after : List Item) (p child rest : Proc) (n : ℕ) → deed c (length births) p ≡ Makes child rest n → ArePidsApart (record { items = before ++ (P p ∷ after); births = births }) → Whole c past births (before ++ (P p ∷ after)) →
    let ev : Event = Spawn p.pid child.pid n rest.moment in
    let new : List Item = before ++ (P rest ∷ P child ∷ after) in
    AllFine c.program (due c.program (past ++ ev ∷ []) (births ++ born ev new)) new
make_well c law past births before after p child rest n e apart w =
    let g : Program = c.program in
    let ev : Event = Spawn p.pid child.pid n rest.moment in
    let new : List Item = before ++ (P rest ∷ P child ∷ after) in
    let s : MakeSound (length births) p child rest = subst (DeedSound (length births) p) e (deed_sound c (length births) p) in
    let free : named child.pid (before ++ (P p ∷ after)) ≡ 0 = apart.made child.pid (omega (arith, ap (λ x. x.0) s.child_pid)) in
    let pid_rest : named child.pid (P rest ∷ []) ≡ named child.pid (P p ∷ []) = ap (λ x. named child.pid (P (record p { pid = x }) ∷ [])) s.pid in
    let front : named child.pid (before ++ P rest ∷ []) ≡ 0 = omega (arith, free, pid_rest, named-append child.pid before (P p ∷ after), named-append child.pid before (P rest ∷ [])) in
    let found : cut (is_proc child.pid) new ≡ Some (cut_at (before ++ P rest ∷ []) (P child) after) = ap (cut (is_proc child.pid)) (sym (append_assoc before (P rest ∷ []) (P child ∷ after))) ∙ cut_named child.pid (before ++ P rest ∷ []) child after front refl in
    let values : values_in (cut (is_proc child.pid) new) ≡ child.values = ap values_in found in
    let d : Link → Option View = due g (past ++ ev ∷ []) (births ++ born ev new) in
    let h : AllFine g d (before ++ (P p ∷ after)) = fine_stays c past births (born ev new) ev (before ++ (P p ∷ after)) w in
    let f : Spawns g d child rest n = deed_at c law d (length births) before after p (Makes child rest n) h e in
    let first : d child.own ≡ Some (view rest.moment (closed f.decl.gives (whole child.values))) =
    due_born g (past ++ ev ∷ []) births (record { parent = p.pid; ordinal = ordinal_in (cut (is_proc p.pid) new); decl = n; values = values_in (cut (is_proc child.pid) new); moment = rest.moment }) f.decl child.own s.child_own f.is
    ∙ ap (λ x. Some (view rest.moment (closed f.decl.gives (whole x)))) values in
    let y = f.leaves first in
    fine_append g d before (P rest ∷ P child ∷ after) (fine_left g d before (P p ∷ after) h) (y.1, (y.0, (fine_right g d before (P p ∷ after) h).1))

stay_well : (c : Code) (law : DeedLaw c) (d : Link → Option View) (k : ℕ) (before after : List Item) (p rest : Proc) (w : Alone) → AllFine c.program d (before ++ (P p ∷ after)) → deed c k p ≡ alone_deed w rest → AllFine c.program d (before ++ (P rest ∷ after))
stay_well c law d k before after p rest w h e =
    fine_append c.program d before (P rest ∷ after) (fine_left c.program d before (P p ∷ after) h) (alone_fine w (deed_at c law d k before after p (alone_deed w rest) h e), (fine_right c.program d before (P p ∷ after) h).1)
  where
    alone_fine : (w : Alone) → DeedFine c d p (alone_deed w rest) → ProcFine c.program d rest
    alone_fine (Turning n) f = f
    alone_fine (Working q) f = f
    alone_fine (Delaying t) f = f

-- ---- the items after a step

abbrev FineAfter : Code → List Event → List Birth → List Item → Event → Type 0
FineAfter c past births new e = AllFine c.program (due c.program (past ++ e ∷ []) (births ++ born e new)) new

fine_lift : (c : Code) (past : List Event) (births : List Birth) (items new was now : List Item) (e f : Event) → items ≡ was → new ≡ now → e ≡ f → Whole c past births items → (Whole c past births was → FineAfter c past births now f) → FineAfter c past births new e
fine_lift c past births items new was now e f w n v x h =
    let r : FineAfter c past births now f = h (subst (Whole c past births) w x) in
    subst (λ y. FineAfter c past births new y) (sym v) (subst (λ y. FineAfter c past births y f) (sym n) r)

alone_bears : (c : Code) (past : List Event) (births : List Birth) (items new : List Item) (w : Alone) (p : Pid) (rest : Proc) → ((e : Event) (more : List Birth) → AllFine c.program (due c.program (past ++ e ∷ []) (births ++ more)) new) → FineAfter c past births new (alone_event w p rest)
alone_bears c past births items new (Turning n) p rest h = h (Call p n rest.moment) []
alone_bears c past births items new (Working q) p rest h = h (Work p q rest.moment) []
alone_bears c past births items new (Delaying t) p rest h = h (Delay p t rest.moment) []

step_fine : (c : Code) (law : DeedLaw c) (past : List Event) (births : List Birth) (pid : Pid) (items new : List Item) (e : Event) → StepView c (length births) pid items new e → ArePidsApart (record { items = items; births = births }) → Whole c past births items → FineAfter c past births new e
step_fine c law past births pid items new e (puts v) a w =
    fine_lift c past births items new _ _ e _ v.was v.now v.event w (λ x. put_typed c law past births [] v.before v.after v.p v.m v.rest (Send v.p.pid v.m.link v.m.body v.m.moment v.m.potential) v.does refl x)
step_fine c law past births pid items new e (takes_client v) a w =
    let ev : Event = Take v.p.pid v.m.link v.m.body v.q.moment in
    fine_lift c past births items new _ _ e _ v.was v.now v.event w (λ x. (take_client_well c law (due c.program (past ++ ev ∷ []) (births ++ [])) (length births) v.before v.between v.after v.p v.q v.m (fine_stays c past births [] ev _ x) v.does v.leaves).0)
step_fine c law past births pid items new e (takes_provider v) a w =
    let ev : Event = Take v.p.pid v.m.link v.m.body v.q.moment in
    fine_lift c past births items new _ _ e _ v.was v.now v.event w (λ x. (take_provider_well c law (due c.program (past ++ ev ∷ []) (births ++ [])) (length births) v.before v.between v.after v.p v.q v.m (fine_stays c past births [] ev _ x) v.does v.leaves).0)
step_fine c law past births pid items new e (moves_client v) a w =
    let ev : Event = Move v.p.pid v.m.link v.p.own v.m.body v.m.moment in
    fine_lift c past births items new _ _ e _ v.was v.now v.event w (λ x. move_client_well c law (due c.program (past ++ ev ∷ []) (births ++ [])) (length births) v.before v.between v.after v.p v.m v.wait v.toward (fine_stays c past births [] ev _ x) v.does)
step_fine c law past births pid items new e (moves_provider v) a w =
    let ev : Event = Move v.p.pid v.m.link v.other v.m.body v.m.moment in
    fine_lift c past births items new _ _ e _ v.was v.now v.event w (λ x. move_provider_well c law (due c.program (past ++ ev ∷ []) (births ++ [])) (length births) v.before v.between v.after v.p v.m v.other v.wait v.toward v.link (fine_stays c past births [] ev _ x) v.does)
step_fine c law past births pid items new e (makes v) a w =
    fine_lift c past births items new _ _ e _ v.was v.now v.event w (λ x. make_well c law past births v.before v.after v.p v.child v.rest v.decl v.does (subst (λ y. ArePidsApart (record { items = y; births = births })) v.was a) x)
step_fine c law past births pid items new e (stays v) a w =
    fine_lift c past births items new _ _ e _ v.was v.now v.event w (λ x. alone_bears c past births items _ v.way v.p.pid v.rest (λ ev more. stay_well c law (due c.program (past ++ ev ∷ []) (births ++ more)) (length births) v.before v.after v.p v.rest v.way (fine_stays c past births more ev _ x) v.does))

-- each step keeps what is known
pub step_whole : (c : Code) (law : DeedLaw c) (past : List Event) (births : List Birth) (pid : Pid) (items new : List Item) (e : Event) → StepView c (length births) pid items new e → ArePidsApart (record { items = items; births = births }) → Whole c past births items → Whole c (past ++ e ∷ []) (births ++ born e new) new
step_whole c law past births pid items new e v a w = record {
  sound = step_keeps_sound c law past births pid items new e v w;
  fine = step_fine c law past births pid items new e v a w;
}
