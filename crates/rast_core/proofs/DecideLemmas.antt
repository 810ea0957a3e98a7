-- What each action comes to in the list.
use Rattle.std.proofs.Common.{◌≡◌, ℕ, Bool, true, false, ◌+◌, ◌<◌, List, [], ◌∷◌, ◌++◌, Option, Some, None, refl, sym, ap, ap₂, ◌∙◌, subst, length, take, drop, eq-eqb, if◌then◌else◌}
use Rattle.rast_terms.specs.declared.program.Program.{Program}
use Rattle.rast_rules.specs.declared.judgement.Plan.{Plan}
use Rattle.rast_core.specs.Words.{Pid, Msg, Item, P, Proc, Send, Spawn, Call, Work, Delay}
use Rattle.rast_items.specs.Deeds.{Code, Deed, Puts, Takes, Moves, Makes, Turns, Works, Delays, Halts, Breaks}
use Rattle.rast_items.specs.Step.{Cut, cut, cut_more, is_proc, does, Stuck}
use Rattle.rast_items.specs.Run.{ordinal_in}
use Rattle.rast_items.specs.Actions.{action_of}
use Rattle.rast_items.specs.declared.action.Action.{Action}
use Rattle.rast_items.specs.declared.action.Action.TheVariants as action
use Rattle.rast_core.specs.Shown.{run_code}
use Rattle.rast_core.specs.Edits.{Decides, HasRule, IsPutEdit}
use Rattle.rast_core.specs.declared.origin.Origin.{Origin}
use Rattle.rast_core.specs.declared.decision.Edit.{Edit}
use Rattle.rast_core.specs.declared.decision.Edit.TheVariants.{Replace, Two}
use Rattle.rast_core.specs.declared.decision.Decision.{Decision}
use Rattle.rast_core.specs.declared.decision.Decision.TheVariants.{Does as Do}
use Rattle.rast_core.proofs.Cuts.{cut_on}
use Rattle.rast_core.proofs.Places.{set_at_place, two_at_place}

-- the deed of an action
abbrev deed_of : Action → Deed
deed_of (action.Put m rest) = Puts m rest
deed_of (action.Take l s) = Takes l s
deed_of (action.Move other wait) = Moves other wait
deed_of (action.Make child rest d) = Makes child rest d
deed_of (action.Turn rest d) = Turns rest d
deed_of (action.Work q rest) = Works q rest
deed_of (action.Delay t rest) = Delays t rest
deed_of (action.Halt v) = Halts v
deed_of action.Breaks = Breaks

deed_again : (d : Deed) → deed_of (action_of d) ≡ d
deed_again (Puts m rest) = refl
deed_again (Takes l s) = refl
deed_again (Moves other wait) = refl
deed_again (Makes child rest d) = refl
deed_again (Turns rest d) = refl
deed_again (Works q rest) = refl
deed_again (Delays t rest) = refl
deed_again (Halts v) = refl
deed_again Breaks = refl

-- what is decided for the deed of an action is decided for each deed with this action
pub of_action : (c : Code) (items : List Item) (i : ℕ) (p : Proc) (r : Decision) (a b : Action) (d : Deed) → Decides (does c (take i items) p (drop (i + 1) items) (deed_of b)) items i r → a ≡ b → a ≡ action_of d →
    Decides (does c (take i items) p (drop (i + 1) items) d) items i r
of_action c items i p r a b d f e h = subst (λ (x : Deed). Decides (does c (take i items) p (drop (i + 1) items) x) items i r) (ap deed_of (sym e ∙ h) ∙ deed_again d) f

-- the process isn't stuck with the deed of its action
pub rule_of : (g : Program) (items : List Item) (i : ℕ) (p : Proc) (a b : Action) → HasRule g items i p a → a ≡ b → (plan : Plan) × (does (run_code g plan) (take i items) p (drop (i + 1) items) (deed_of b) ≡ Stuck → ⊥)
rule_of g items i p a b h e =
    let d : h.deed ≡ deed_of b = sym (ap deed_of (sym e ∙ h.is) ∙ deed_again h.deed) in
    (h.plan, λ s. h.unstuck (ap (does (run_code g h.plan) (take i items) p (drop (i + 1) items)) d ∙ s))

-- ---- deeds

pub put_decided : (c : Code) (items : List Item) (i : ℕ) (p : Proc) (pid : Pid) (m : Msg) (rest : Option Proc) (edit : Edit) → i < length items → pid ≡ p.pid → IsPutEdit m rest edit →
    Decides (does c (take i items) p (drop (i + 1) items) (Puts m rest)) items i (Do (Send pid m.link m.body m.moment m.potential) edit None)
put_decided c items i p pid m rest edit h e k =
    let r = k items i h in
    (ap (λ (q : Pid). Send q m.link m.body m.moment m.potential) e, r.0, r.1, refl)

pub turn_decided : (c : Code) (items : List Item) (i : ℕ) (p rest : Proc) (pid : Pid) (d moment : ℕ) → i < length items → pid ≡ p.pid → moment ≡ rest.moment →
    Decides (does c (take i items) p (drop (i + 1) items) (Turns rest d)) items i (Do (Call pid d moment) (Replace (P rest)) None)
turn_decided c items i p rest pid d moment h e m = (ap₂ (λ (q : Pid) (t : ℕ). Call q d t) e m, set_at_place items i (P rest) h, tt, refl)

pub work_decided : (c : Code) (items : List Item) (i : ℕ) (p rest : Proc) (pid : Pid) (amount moment : ℕ) → i < length items → pid ≡ p.pid → moment ≡ rest.moment →
    Decides (does c (take i items) p (drop (i + 1) items) (Works amount rest)) items i (Do (Work pid amount moment) (Replace (P rest)) None)
work_decided c items i p rest pid amount moment h e m = (ap₂ (λ (q : Pid) (t : ℕ). Work q amount t) e m, set_at_place items i (P rest) h, tt, refl)

pub delay_decided : (c : Code) (items : List Item) (i : ℕ) (p rest : Proc) (pid : Pid) (ticks moment : ℕ) → i < length items → pid ≡ p.pid → moment ≡ rest.moment →
    Decides (does c (take i items) p (drop (i + 1) items) (Delays ticks rest)) items i (Do (Delay pid ticks moment) (Replace (P rest)) None)
delay_decided c items i p rest pid ticks moment h e m = (ap₂ (λ (q : Pid) (t : ℕ). Delay q ticks t) e m, set_at_place items i (P rest) h, tt, refl)

more_none : (i : Item) (o : Option Cut) → cut_more i o ≡ None → o ≡ None
more_none i None h = refl
more_none i (Some c) h = cc

not_first : (test : Item → Bool) (x : Item) (xs : List Item) (b : Bool) → test x ≡ b → (if b then Some (record { before = []; item = x; after = xs }) else cut_more x (cut test xs)) ≡ None → (test x ≡ false) × (cut test xs ≡ None)
not_first test x xs true e h = cc
not_first test x xs false e h = (e, more_none x (cut test xs) h)

-- the first item that passes, after some that don't
cut_after : (test : Item → Bool) (before after : List Item) (x : Item) → cut test before ≡ None → test x ≡ true → cut test (before ++ (x ∷ after)) ≡ Some (record { before = before; item = x; after = after })
cut_after test [] after x h t = cut_on test x after true t
cut_after test (y ∷ ys) after x h t =
    let r = not_first test y ys (test y) refl h in
    cut_on test y (ys ++ (x ∷ after)) false r.0 ∙ ap (cut_more y) (cut_after test ys after x r.1 t)

pub ordinal_of : (before after : List Item) (pid : Pid) (rest : Proc) → cut (is_proc pid) before ≡ None → rest.pid ≡ pid → ordinal_in (cut (is_proc pid) (before ++ (P rest ∷ after))) ≡ rest.spawned
ordinal_of before after pid rest h e = ap ordinal_in (cut_after (is_proc pid) before after (P rest) h (eq-eqb rest.pid.0 pid.0 (ap (λ (q : Pid). q.0) e)))

pub make_decided : (c : Code) (items : List Item) (i : ℕ) (p child rest : Proc) (pid kid : Pid) (d moment ordinal : ℕ) → i < length items → cut (is_proc p.pid) (take i items) ≡ None → rest.pid ≡ p.pid →
    pid ≡ p.pid → kid ≡ child.pid → moment ≡ rest.moment → ordinal ≡ rest.spawned →
    Decides (does c (take i items) p (drop (i + 1) items) (Makes child rest d)) items i (Do (Spawn pid kid d moment) (Two (P rest) (P child)) (Some (record { parent = pid; ordinal = ordinal })))
make_decided c items i p child rest pid kid d moment ordinal h f r e k m o =
    let same : (a b : Pid) (x y : ℕ) → a ≡ b → x ≡ y → let u : Origin = record { parent = a; ordinal = x } in let v : Origin = record { parent = b; ordinal = y } in u ∷ [] ≡ v ∷ [] = λ a b x y s t. ap₂ (λ (q : Pid) (n : ℕ). (let u : Origin = record { parent = q; ordinal = n } in u ∷ [])) s t in (
      ap₂ (λ (q : Pid) (t : ℕ). Spawn q kid d t) e m ∙ ap (λ (q : Pid). Spawn p.pid q d rest.moment) k,
      two_at_place items i (P rest) (P child) h,
      tt,
      same pid p.pid ordinal (ordinal_in (cut (is_proc p.pid) (take i items ++ (P rest ∷ (P child ∷ drop (i + 1) items))))) e (o ∙ sym (ordinal_of (take i items) (P child ∷ drop (i + 1) items) p.pid rest f r)),
    )
