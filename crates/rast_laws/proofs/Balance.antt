-- Work and held potential together stay the same.
use Rattle.std.proofs.Common.{◌≡◌, ℕ, ◌+◌, List, [], ◌∷◌, ◌++◌, length, Option, Some, None, refl, sym, ap, ◌∙◌, subst, arith, append_assoc, sum_by}
use Rattle.std.proofs.lemmas.List.Sums.{sum_by-append}
use Rattle.rast_types.specs.Closed.{View}
use Rattle.rast_items.specs.Items.{potential_of, held}
use Rattle.rast_items.specs.Deeds.{Code, Puts, Moves, deed}
use Rattle.rast_items.specs.Step.{rest_items, put_beside, moved}
use Rattle.rast_items.specs.Run.{Birth, work_by, work}
use Rattle.rast_laws.specs.Typed.{due}
use Rattle.rast_order.proofs.Words.{Link, Pid, Item, P, M, Proc, Msg, Side, Client, Provider, Event}
use Rattle.rast_order.proofs.Counts.{total-append}
use Rattle.rast_order.proofs.Received.{took_over}
use Rattle.rast_laws.proofs.Potential.{DeedPotential, RestPotential, deed_potential}
use Rattle.rast_order.proofs.View.{StepView, puts, takes_client, takes_provider, moves_client, moves_provider, makes, stays, Alone, Turning, Working, Delaying, alone_deed, alone_event}
use Rattle.rast_laws.proofs.Lawful.{PutLeaves, Forwards, DeedFine, DeedLaw}
use Rattle.rast_laws.proofs.Fine.{AllFine}
use Rattle.rast_laws.proofs.Whole.{Whole, deed_at}

pub held-append : (xs ys : List Item) → held (xs ++ ys) ≡ held xs + held ys
held-append xs ys = total-append potential_of xs ys

-- an event's work and what is held after it are what was held before
abbrev Balances : List Item → List Item → Event → Type 0
Balances old new e = work_by e + held new ≡ held old

lift : (items new was now : List Item) (e f : Event) → items ≡ was → new ≡ now → e ≡ f → Balances was now f → Balances items new e
lift items new was now e f w n v h = subst (λ x. Balances items new x) (sym v) (subst (λ x. Balances items x f) (sym n) (subst (λ x. Balances x now f) (sym w) h))

-- at a close no potential is left
close_empty : (c : Code) (d : Link → Option View) (p : Proc) (m : Msg) (rest : Option Proc) → RestPotential p m rest → PutLeaves c.program d p m rest → m.potential + held (rest_items rest) ≡ p.potential
close_empty c d p m None r l = omega (arith, r, l.1)
close_empty c d p m (Some q) r l = omega (arith, r)

beside : (m : Msg) (s : Side) (rest : Option Proc) → held (put_beside s m (rest_items rest)) ≡ m.potential + held (rest_items rest)
beside m Client rest = refl
beside m Provider rest = held-append (rest_items rest) (M m ∷ []) ∙ omega arith

put_balances : (before after : List Item) (p : Proc) (m : Msg) (s : Side) (rest : Option Proc) → m.potential + held (rest_items rest) ≡ p.potential → held (before ++ (put_beside s m (rest_items rest) ++ after)) ≡ held (before ++ (P p ∷ after))
put_balances before after p m s rest e =
    omega (arith, e, held-append before (put_beside s m (rest_items rest) ++ after), held-append (put_beside s m (rest_items rest)) after, held-append before (P p ∷ after), beside m s rest)

alone_balances : (c : Code) (k : ℕ) (before after : List Item) (p rest : Proc) (w : Alone) → deed c k p ≡ alone_deed w rest → Balances (before ++ (P p ∷ after)) (before ++ (P rest ∷ after)) (alone_event w p.pid rest)
alone_balances c k before after p rest w e = pick w (subst (DeedPotential p) e (deed_potential c k p))
  where
    pick : (w : Alone) → DeedPotential p (alone_deed w rest) → Balances (before ++ (P p ∷ after)) (before ++ (P rest ∷ after)) (alone_event w p.pid rest)
    pick (Turning n) h = omega (arith, h, held-append before (P p ∷ after), held-append before (P rest ∷ after))
    pick (Working q) h = omega (arith, h, held-append before (P p ∷ after), held-append before (P rest ∷ after))
    pick (Delaying t) h = omega (arith, h, held-append before (P p ∷ after), held-append before (P rest ∷ after))

step_balances : (c : Code) (law : DeedLaw c) (past : List Event) (births : List Birth) (pid : Pid) (items new : List Item) (e : Event) → StepView c (length births) pid items new e → Whole c past births items → Balances items new e
step_balances c law past births pid items new e (puts v) w =
    let d : Link → Option View = due c.program past births in
    let x : Whole c past births (v.before ++ (P v.p ∷ v.after)) = subst (Whole c past births) v.was w in
    let f : DeedFine c d v.p (Puts v.m v.rest) = deed_at c law d (length births) v.before v.after v.p (Puts v.m v.rest) x.fine v.does in
    let r : RestPotential v.p v.m v.rest = subst (DeedPotential v.p) v.does (deed_potential c (length births) v.p) in
    lift items new _ _ e _ v.was v.now v.event (omega (arith, put_balances v.before v.after v.p v.m v.m.toward v.rest (close_empty c d v.p v.m v.rest r f.1)))
step_balances c law past births pid items new e (takes_client v) w =
    lift items new _ _ e _ v.was v.now v.event (omega (arith, (took_over c v.p v.q v.m v.leaves).potential, held-append v.before (P v.p ∷ (v.between ++ (M v.m ∷ v.after))), held-append v.between (M v.m ∷ v.after), held-append v.before (P v.q ∷ (v.between ++ v.after)), held-append v.between v.after))
step_balances c law past births pid items new e (takes_provider v) w =
    lift items new _ _ e _ v.was v.now v.event (omega (arith, (took_over c v.p v.q v.m v.leaves).potential, held-append v.before (M v.m ∷ (v.between ++ (P v.p ∷ v.after))), held-append v.between (P v.p ∷ v.after), held-append v.before (P v.q ∷ (v.between ++ v.after)), held-append v.between v.after))
step_balances c law past births pid items new e (moves_client v) w =
    let n : Msg = moved v.m v.p.own in
    let x : Whole c past births (v.before ++ (P v.p ∷ (v.between ++ (M v.m ∷ v.after)))) = subst (Whole c past births) v.was w in
    let f : Forwards c.program (due c.program past births) v.p v.m.link v.wait = deed_at c law (due c.program past births) (length births) v.before (v.between ++ (M v.m ∷ v.after)) v.p (Moves v.m.link v.wait) x.fine v.does in
    lift items new _ _ e _ v.was v.now v.event (omega (arith, f.potential, held-append v.before (P v.p ∷ (v.between ++ (M v.m ∷ v.after))), held-append v.between (M v.m ∷ v.after), held-append v.before (v.between ++ (M n ∷ v.after)), held-append v.between (M n ∷ v.after)))
step_balances c law past births pid items new e (moves_provider v) w =
    let n : Msg = moved v.m v.other in
    let x : Whole c past births (v.before ++ (M v.m ∷ (v.between ++ (P v.p ∷ v.after)))) = subst (Whole c past births) v.was w in
    let f : Forwards c.program (due c.program past births) v.p v.other v.wait = deed_at c law (due c.program past births) (length births) (v.before ++ (M v.m ∷ v.between)) v.after v.p (Moves v.other v.wait) (subst (AllFine c.program (due c.program past births)) (sym (append_assoc v.before (M v.m ∷ v.between) (P v.p ∷ v.after))) x.fine) v.does in
    lift items new _ _ e _ v.was v.now v.event (omega (arith, f.potential, held-append v.before (M v.m ∷ (v.between ++ (P v.p ∷ v.after))), held-append v.between (P v.p ∷ v.after), held-append v.before (M n ∷ (v.between ++ v.after)), held-append v.between v.after))
step_balances c law past births pid items new e (makes v) w =
    let r : v.child.potential + v.rest.potential ≡ v.p.potential = subst (DeedPotential v.p) v.does (deed_potential c (length births) v.p) in
    lift items new _ _ e _ v.was v.now v.event (omega (arith, r, held-append v.before (P v.p ∷ v.after), held-append v.before (P v.rest ∷ P v.child ∷ v.after)))
step_balances c law past births pid items new e (stays v) w =
    lift items new _ _ e _ v.was v.now v.event (alone_balances c (length births) v.before v.after v.p v.rest v.way v.does)

work_more : (es : List Event) (e : Event) → work (es ++ e ∷ []) ≡ work es + work_by e
work_more es e = sum_by-append work_by es (e ∷ []) ∙ ap (λ (n : ℕ). sum_by work_by es + n) (omega arith)

-- the sum of the work so far and of what is held is the same after the step
pub step_sum : (c : Code) (law : DeedLaw c) (past : List Event) (births : List Birth) (pid : Pid) (items new : List Item) (e : Event) → StepView c (length births) pid items new e → Whole c past births items → work (past ++ e ∷ []) + held new ≡ work past + held items
step_sum c law past births pid items new e v w = omega (arith, work_more past e, step_balances c law past births pid items new e v w)
