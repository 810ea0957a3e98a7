-- All that is known after a run of a program whose processes do what fits, and that each step keeps it.
use Rattle.std.proofs.Common.{◌≡◌, ℕ, ◌≤◌, ◌<◌, ◌+◌, List, [], ◌∷◌, ◌++◌, length, Option, Some, None, refl, sym, ap, ◌∙◌, subst, arith, append_assoc}
use Rattle.rast_types.specs.Closed.{View}
use Rattle.rast_terms.specs.declared.program.Program.{Program}
use Rattle.rast_rules.specs.Rules.{defs}
use Rattle.rast_items.specs.Items.{after_link, link_at, provided, used}
use Rattle.rast_items.specs.Deeds.{Code, Deed, Puts, Takes, deed, after_take}
use Rattle.rast_items.specs.Step.{rest_items, put_beside}
use Rattle.rast_items.specs.Run.{Birth, sent_at, sent_by, taken_at}
use Rattle.rast_laws.specs.Typed.{due, next_view}
use Rattle.rast_order.proofs.Words.{Link, Item, P, M, Proc, Msg, Side, Client, Provider, Event}
use Rattle.rast_order.proofs.Counts.{on}
use Rattle.rast_order.proofs.Deeds.{PutSound, DeedSound, deed_sound}
use Rattle.rast_order.proofs.Received.{took_over}
use Rattle.rast_order.proofs.Queue.{mark, put_at_end}
use Rattle.rast_order.proofs.Sound.{Sound, put_on}
use Rattle.rast_equal.proofs.Equals.{some_same}
use Rattle.rast_laws.proofs.Fine.{ProcFine, MsgFine, AllFine, fine_left, fine_right, fine_append, fine_dues}
use Rattle.rast_laws.proofs.Dues.{Settled, due_stays, due_sent}
use Rattle.rast_laws.proofs.Lawful.{PutLeaves, TakesFine, DeedFine, DeedLaw}
use Rattle.rast_laws.proofs.Freely.{free_put}

-- what is known of the items after these events
pub record Whole (c : Code) (past : List Event) (births : List Birth) (items : List Item) : Type 0 where
  pub sound : Sound (link_at 0 0) (length births) (λ s. sent_at s past) (λ s. taken_at s past) items
  pub fine : AllFine c.program (due c.program past births) items

-- ---- the links of items are settled

pub touched_settled : (c : Code) (past : List Event) (births : List Birth) (items : List Item) → Whole c past births items → (l : Link) → 1 ≤ used l items + provided l items → Settled past births l
touched_settled c past births items w l h =
    let one : 1 ≤ provided l items = omega (arith, h, w.sound.config.matched l) in
    record { began = w.sound.below l one; reached = (w.sound.queue.reach l one).1 }

-- what is due on them stays
pub fine_stays : (c : Code) (past : List Event) (births more : List Birth) (e : Event) (items : List Item) → Whole c past births items → AllFine c.program (due c.program (past ++ e ∷ []) (births ++ more)) items
fine_stays c past births more e items w =
    fine_dues c.program (due c.program past births) (due c.program (past ++ e ∷ []) (births ++ more)) items (λ l h. due_stays c.program past births more e l (touched_settled c past births items w l h)) w.fine

-- ---- sends

put_fine : (c : Code) (d : Link → Option View) (before after : List Item) (p : Proc) (m : Msg) (s : Side) (rest : Option Proc) → AllFine c.program d (before ++ (P p ∷ after)) → MsgFine (defs c.program) d m → ((q : Proc) → rest ≡ Some q → ProcFine c.program d q) → AllFine c.program d (before ++ (put_beside s m (rest_items rest) ++ after))
put_fine c d before after p m Client None h f r = fine_append c.program d before (M m ∷ after) (fine_left c.program d before (P p ∷ after) h) (f, (fine_right c.program d before (P p ∷ after) h).1)
put_fine c d before after p m Client (Some q) h f r = fine_append c.program d before (M m ∷ P q ∷ after) (fine_left c.program d before (P p ∷ after) h) (f, (r q refl, (fine_right c.program d before (P p ∷ after) h).1))
put_fine c d before after p m Provider None h f r = fine_append c.program d before (M m ∷ after) (fine_left c.program d before (P p ∷ after) h) (f, (fine_right c.program d before (P p ∷ after) h).1)
put_fine c d before after p m Provider (Some q) h f r = fine_append c.program d before (P q ∷ M m ∷ after) (fine_left c.program d before (P p ∷ after) h) (r q refl, (f, (fine_right c.program d before (P p ∷ after) h).1))

-- a deed of a process in the list
pub deed_at : (c : Code) (law : DeedLaw c) (d : Link → Option View) (k : ℕ) (before after : List Item) (p : Proc) (x : Deed) → AllFine c.program d (before ++ (P p ∷ after)) → deed c k p ≡ x → DeedFine c d p x
deed_at c law d k before after p x h e = subst (DeedFine c d p) e (law d k p (fine_right c.program d before (P p ∷ after) h).0)

put_next : (p : Proc) (m : Msg) (s : Side) (q : Proc) → PutSound p m s (Some q) → m.next ≡ after_link m.link
put_next p m Client q d = d.next ∙ ap after_link (sym d.link)
put_next p m Provider q d = d.next

put_leaves : (c : Code) (d : Link → Option View) (p : Proc) (m : Msg) (rest : Option Proc) → ((q : Proc) → rest ≡ Some q → d m.next ≡ next_view (defs c.program) (d m.link) m.body m.moment) → PutLeaves c.program d p m rest → MsgFine (defs c.program) d m × ((q : Proc) → rest ≡ Some q → ProcFine c.program d q)
put_leaves c d p m None n h = (h.0, λ q e. cc)
put_leaves c d p m (Some q) n h = let k = h (n q refl) in (k.0, λ r e. let s : q ≡ r = cc in subst (ProcFine c.program d) s k.1)

pub put_free : (c : Code) (law : DeedLaw c) (past : List Event) (births : List Birth) (before after : List Item) (p : Proc) (m : Msg) (rest : Option Proc) → deed c (length births) p ≡ Puts m rest → Whole c past births (before ++ (P p ∷ after)) → on m.link (before ++ (P p ∷ after)) ≡ 0
put_free c law past births before after p m rest e w =
    let d : Link → Option View = due c.program past births in
    let s : PutSound p m m.toward rest = subst (DeedSound (length births) p) e (deed_sound c (length births) p) in
    let f : DeedFine c d p (Puts m rest) = deed_at c law d (length births) before after p (Puts m rest) w.fine e in
    free_put c.program d (link_at 0 0) before after p m m.toward rest w.fine w.sound.config s f.0

pub put_typed : (c : Code) (law : DeedLaw c) (past : List Event) (births more : List Birth) (before after : List Item) (p : Proc) (m : Msg) (rest : Option Proc) (ev : Event) → deed c (length births) p ≡ Puts m rest → sent_by m.link.session ev ≡ mark m.link.session m → Whole c past births (before ++ (P p ∷ after)) → AllFine c.program (due c.program (past ++ ev ∷ []) (births ++ more)) (before ++ (put_beside m.toward m (rest_items rest) ++ after))
put_typed c law past births more before after p m rest ev e q w =
    let g : Program = c.program in
    let old : List Item = before ++ (P p ∷ after) in
    let d : Link → Option View = due g past births in
    let d' : Link → Option View = due g (past ++ ev ∷ []) (births ++ more) in
    let s : PutSound p m m.toward rest = subst (DeedSound (length births) p) e (deed_sound c (length births) p) in
    let on' = put_on (link_at 0 0) (length births) (λ s. sent_at s past) (λ s. taken_at s past) before after p m m.toward rest refl s w.sound (put_free c law past births before after p m rest e w) in
    let index : m.link.index ≡ length (sent_at m.link.session past) = put_at_end (λ s. sent_at s past) (λ s. taken_at s past) old _ m w.sound.queue on' in
    let began : m.link.session.0 < length births = w.sound.below m.link on'.known in
    let same : d' m.link ≡ d m.link = due_stays g past births more ev m.link (record { began = began; reached = omega (arith, index) }) in
    let h : AllFine g d' old = fine_stays c past births more ev old w in
    let f : DeedFine c d' p (Puts m rest) = deed_at c law d' (length births) before after p (Puts m rest) h e in
    let k = put_leaves c d' p m rest (λ r x. ap d' (put_next p m m.toward r (subst (PutSound p m m.toward) x s)) ∙ (due_sent g past births more ev m q began index ∙ ap (λ v. next_view (defs g) v m.body m.moment) (sym same))) f.1 in
    put_fine c d' before after p m m.toward rest h k.0 k.1

-- ---- takes

takes_well : (c : Code) (law : DeedLaw c) (d : Link → Option View) (k : ℕ) (before after : List Item) (p q : Proc) (m : Msg) (s : Side) → AllFine c.program d (before ++ (P p ∷ after)) → deed c k p ≡ Takes m.link s → after_take c p m ≡ Some q → MsgFine (defs c.program) d m → ProcFine c.program d q × (q.moment ≡ m.moment)
takes_well c law d k before after p q m s h e a f =
    let x : DeedFine c d p (Takes m.link s) = deed_at c law d k before after p (Takes m.link s) h e in
    let y : TakesFine c d p m = x.1 m refl f in
    let same : y.q ≡ q = some_same (after_take c p m) y.leaves a in
    (subst (ProcFine c.program d) same y.fine, (took_over c p q m a).moment ∙ omega (arith, y.later))

pub take_client_well : (c : Code) (law : DeedLaw c) (d : Link → Option View) (k : ℕ) (before between after : List Item) (p q : Proc) (m : Msg) → AllFine c.program d (before ++ (P p ∷ (between ++ (M m ∷ after)))) → deed c k p ≡ Takes m.link Client → after_take c p m ≡ Some q → AllFine c.program d (before ++ (P q ∷ (between ++ after))) × (q.moment ≡ m.moment)
take_client_well c law d k before between after p q m h e a =
    let g : Program = c.program in
    let r = fine_right g d before (P p ∷ (between ++ (M m ∷ after))) h in
    let y = fine_right g d between (M m ∷ after) r.1 in
    let x = takes_well c law d k before (between ++ (M m ∷ after)) p q m Client h e a y.0 in
    (fine_append g d before (P q ∷ (between ++ after)) (fine_left g d before (P p ∷ (between ++ (M m ∷ after))) h) (x.0, fine_append g d between after (fine_left g d between (M m ∷ after) r.1) y.1), x.1)

pub take_provider_well : (c : Code) (law : DeedLaw c) (d : Link → Option View) (k : ℕ) (before between after : List Item) (p q : Proc) (m : Msg) → AllFine c.program d (before ++ (M m ∷ (between ++ (P p ∷ after)))) → deed c k p ≡ Takes m.link Provider → after_take c p m ≡ Some q → AllFine c.program d (before ++ (P q ∷ (between ++ after))) × (q.moment ≡ m.moment)
take_provider_well c law d k before between after p q m h e a =
    let g : Program = c.program in
    let r = fine_right g d before (M m ∷ (between ++ (P p ∷ after))) h in
    let y = fine_right g d between (P p ∷ after) r.1 in
    let h' : AllFine g d ((before ++ (M m ∷ between)) ++ (P p ∷ after)) = subst (AllFine g d) (sym (append_assoc before (M m ∷ between) (P p ∷ after))) h in
    let x = takes_well c law d k (before ++ (M m ∷ between)) after p q m Provider h' e a r.0 in
    (fine_append g d before (P q ∷ (between ++ after)) (fine_left g d before (M m ∷ (between ++ (P p ∷ after))) h) (x.0, fine_append g d between after (fine_left g d between (P p ∷ after) r.1) y.1), x.1)
