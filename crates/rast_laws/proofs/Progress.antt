-- A configuration in which no process has an event has only items that wait for a client.
use Rattle.std.proofs.Common.{◌≡◌, ℕ, Bool, true, false, ◌≤◌, List, [], ◌∷◌, ◌++◌, ◌⊎◌, inl, inr, Option, Some, None, refl, sym, ap, ◌∙◌, subst, arith, append_assoc, if◌then◌else◌}
use Rattle.rast_types.specs.Closed.{View, is_positive}
use Rattle.rast_terms.specs.declared.program.Program.{Program}
use Rattle.rast_rules.specs.Rules.{defs}
use Rattle.rast_items.specs.Items.{link_at, provides, uses, hit, times, provided, IsConfig, UsedEarlier, msg_gives}
use Rattle.rast_items.specs.Deeds.{Code, Deed, Puts, Takes, Moves, Makes, Turns, Works, Delays, Halts, Breaks, deed}
use Rattle.rast_items.specs.Step.{Ready, Cut, cut, is_msg, does, take_client, take_provider, take_from, take_it, move_it, move_client, move_provider}
use Rattle.rast_laws.specs.Typed.{IsToward}
use Rattle.rast_items.specs.Ends.{IsIdle, IsPoised, WaitsForClient}
use Rattle.rast_order.proofs.Words.{Link, Pid, Item, P, M, Proc, Msg, Side, Client, Provider, Event, Take}
use Rattle.rast_order.proofs.Counts.{provided-append, hit_self, hit_of, hit_cases}
use Rattle.rast_order.proofs.Keys.{held_by}
use Rattle.rast_order.proofs.Deeds.{DeedSound, deed_sound, TakeSound}
use Rattle.rast_order.proofs.Keeps.{uses_provider}
use Rattle.rast_order.proofs.View.{cut_is, is_msg_is}
use Rattle.rast_laws.proofs.Cuts.{HasCut, has_cut, is_msg_true}
use Rattle.rast_laws.proofs.Fine.{MsgFine, AllFine, fine_left, fine_right}
use Rattle.rast_laws.proofs.Lawful.{Toward, Forwards, TakesFine, DeedFine, DeedLaw}
use Rattle.rast_laws.proofs.Freely.{toward_same, msg_toward, forward_mine}
use Rattle.rast_laws.proofs.Whole.{deed_at}

-- no process has an event where it stands
abbrev pub Quiet : Code → ℕ → List Item → Type 0
Quiet c k items = (before after : List Item) (p : Proc) → items ≡ before ++ (P p ∷ after) → IsIdle (does c before p after (deed c k p))

abbrev pub ArePoised : Code → ℕ → List Item → Type 0
ArePoised c k [] = Unit {0}
ArePoised c k (i ∷ is) = IsPoised c k i × ArePoised c k is

poised_at : (c : Code) (k : ℕ) (b a : List Item) (i : Item) → ArePoised c k (b ++ (i ∷ a)) → IsPoised c k i
poised_at c k [] a i h = h.0
poised_at c k (x ∷ b) a i h = poised_at c k b a i h.1

-- the item that provides a link
record Provides (l : Link) (items : List Item) : Type 0 where
  before : List Item
  item : Item
  after : List Item
  is : items ≡ before ++ (item ∷ after)
  link : provides item ≡ l

provider : (l : Link) (items : List Item) → 1 ≤ provided l items → Provides l items
provider l [] h = absurd (omega arith)
provider l (i ∷ is) h = pick (hit_cases l (provides i)) (λ z. provider l is (omega (arith, h, z)))
  where
    pick : (provides i ≡ l) ⊎ (hit l (provides i) ≡ 0) → (hit l (provides i) ≡ 0 → Provides l is) → Provides l (i ∷ is)
    pick (inl e) f = record { before = []; item = i; after = is; is = refl; link = e }
    pick (inr z) f = let r = f z in record { before = i ∷ r.before; item = r.item; after = r.after; is = ap (λ x. i ∷ x) r.is; link = r.link }

sides_differ : (s : Side) → s ≡ Client → s ≡ Provider → ⊥
sides_differ Client a b = cc
sides_differ Provider a b = cc

two_ways : (g : Program) (d : Link → Option View) (l : Link) → Toward g d l Client → Toward g d l Provider → ⊥
two_ways g d l a b = sides_differ Client refl (toward_same g d l Client Provider a b)

-- ---- a message that is there is taken or moved

pub msg_at : (g : Program) (d : Link → Option View) (items b a : List Item) (i : Item) → items ≡ b ++ (i ∷ a) → AllFine g d items → (m : Msg) → i ≡ M m → MsgFine (defs g) d m
msg_at g d items b a (P p) is h m e = cc
msg_at g d items b a (M n) is h m e = let s : n ≡ m = cc in subst (MsgFine (defs g) d) s (fine_right g d b (M n ∷ a) (subst (AllFine g d) is h)).0

-- a take of a message that fits is an event
pub record Taking (c : Code) (p : Proc) (f : Proc → List Item) (i : Item) : Type 0 where
  pub event : Event
  pub new : List Item
  pub is : take_from c p f i ≡ Ready event new

pub taking : (c : Code) (d : Link → Option View) (p : Proc) (l : Link) (s : Side) (f : Proc → List Item) (i : Item) → DeedFine c d p (Takes l s) → is_msg l s i ≡ true → ((m : Msg) → i ≡ M m → MsgFine (defs c.program) d m) → Taking c p f i
taking c d p l s f (P q) t h w = cc
taking c d p l s f (M m) t h w =
    let y : TakesFine c d p m = t.1 m (is_msg_is l s m h).link (w m refl) in
    record { event = Take y.q.pid m.link m.body y.q.moment; new = f y.q; is = ap (take_it f m) y.leaves }

take_client_ready : (c : Code) (d : Link → Option View) (before after : List Item) (p : Proc) (l : Link) → DeedFine c d p (Takes l Client) → AllFine c.program d after → HasCut (is_msg l Client) after → IsIdle (does c before p after (Takes l Client)) → ⊥
take_client_ready c d before after p l t w h q =
    let k : Cut = h.c in
    let ic = cut_is (is_msg l Client) after k h.is in
    let r = taking c d p l Client (λ x. before ++ (P x ∷ (k.before ++ k.after))) k.item t ic.passes (msg_at c.program d after k.before k.after k.item ic.is w) in
    subst IsIdle (ap (take_client c before p l) h.is ∙ r.is) q

take_provider_ready : (c : Code) (d : Link → Option View) (before after : List Item) (p : Proc) (l : Link) → DeedFine c d p (Takes l Provider) → AllFine c.program d before → HasCut (is_msg l Provider) before → IsIdle (does c before p after (Takes l Provider)) → ⊥
take_provider_ready c d before after p l t w h q =
    let k : Cut = h.c in
    let ic = cut_is (is_msg l Provider) before k h.is in
    let r = taking c d p l Provider (λ x. k.before ++ (P x ∷ (k.after ++ after))) k.item t ic.passes (msg_at c.program d before k.before k.after k.item ic.is w) in
    subst IsIdle (ap (λ o. take_provider c p l o after) h.is ∙ r.is) q

-- a move of a message is an event
moving : (f : Msg → List Item) (to : Link) (pid : Pid) (l : Link) (s : Side) (i : Item) → is_msg l s i ≡ true → IsIdle (move_it f to pid i) → ⊥
moving f to pid l s (P q) h x = cc
moving f to pid l s (M m) h x = x

move_client_ready : (c : Code) (before after : List Item) (p : Proc) (other wait : Link) → HasCut (is_msg other Client) after → IsIdle (does c before p after (Moves other wait)) → ⊥
move_client_ready c before after p other wait h q =
    let k : Cut = h.c in
    let ic = cut_is (is_msg other Client) after k h.is in
    moving (λ m. before ++ (k.before ++ (M m ∷ k.after))) p.own p.pid other Client k.item ic.passes (subst IsIdle (ap (λ o. move_client before p other wait o after) h.is) q)

move_provider_ready : (c : Code) (before after : List Item) (p : Proc) (other wait : Link) → HasCut (is_msg p.own Provider) before → IsIdle (does c before p after (Moves other wait)) → ⊥
move_provider_ready c before after p other wait h q = pick (cut (is_msg other Client) after) refl
  where
    pick : (o : Option Cut) → cut (is_msg other Client) after ≡ o → ⊥
    pick (Some k) e = move_client_ready c before after p other wait (record { c = k; is = e }) q
    pick None e =
        let k : Cut = h.c in
        let ic = cut_is (is_msg p.own Provider) before k h.is in
        let r : IsIdle (move_provider p other wait (cut (is_msg p.own Provider) before) after) = subst IsIdle (ap (λ o. move_client before p other wait o after) e) q in
        moving (λ m. k.before ++ (M m ∷ (k.after ++ after))) other p.pid p.own Provider k.item ic.passes (subst IsIdle (ap (λ o. move_provider p other wait o after) h.is) r)

-- ---- a process that waits for its client is at a link toward the provider

if_true : (b : Bool) (w x y : Link) → b ≡ true → w ≡ (if b then x else y) → w ≡ x
if_true b w x y e h = h ∙ ap (λ (v : Bool). if v then x else y) e

toward_of : (g : Program) (d : Link → Option View) (p : Proc) (other wait : Link) (f : Forwards g d p other wait) (b : Bool) → is_positive f.kind ≡ b → Toward g d other (if b then Client else Provider)
toward_of g d p other wait f b e = record { due = f.yours; is = f.yours_is; toward = subst (λ o. IsToward o (if b then Client else Provider)) (sym f.kind_is) (ap (λ (x : Bool). if x then Client else Provider) e) }

-- no process uses the link that it provides
pub own_unused : (root : Link) (before after : List Item) (p : Proc) → IsConfig root (before ++ (P p ∷ after)) → held_by p.own p.uses ≡ 0
own_unused root [] after p c = none (held_by p.own p.uses) refl
  where
    none : (n : ℕ) → held_by p.own p.uses ≡ n → n ≡ 0
    none n e = let a : held_by p.own p.uses ≤ provided p.own after = c.earlier.0 p.own in omega (arith, a, c.once p.own, hit_self p.own, e)
own_unused root (i ∷ before) after p c = omega (arith, later before c.earlier.1, c.once p.own, provided-append before (P p ∷ after) p.own, hit_self p.own)
  where
    later : (b : List Item) → UsedEarlier (b ++ (P p ∷ after)) → held_by p.own p.uses ≤ provided p.own after
    later [] u = u.0 p.own
    later (x ∷ b) u = later b u.1

poised_provider : (c : Code) (law : DeedLaw c) (d : Link → Option View) (k : ℕ) (before after : List Item) (p : Proc) (x : Deed) → AllFine c.program d (before ++ (P p ∷ after)) → IsConfig (link_at 0 0) (before ++ (P p ∷ after)) → deed c k p ≡ x → WaitsForClient p x → Toward c.program d p.own Provider
poised_provider c law d k before after p (Takes l s) w cf e po =
    let f : DeedFine c d p (Takes l s) = deed_at c law d k before after p (Takes l s) w e in
    subst (λ y. Toward c.program d y Provider) po.0 (subst (Toward c.program d l) po.1 f.0)
poised_provider c law d k before after p (Moves other wait) w cf e po =
    let f : Forwards c.program d p other wait = deed_at c law d k before after p (Moves other wait) w e in pick f (is_positive f.kind) refl
  where
    pick : (f : Forwards c.program d p other wait) (b : Bool) → is_positive f.kind ≡ b → Toward c.program d p.own Provider
    pick f false q = forward_mine c.program d p other wait Provider f (toward_of c.program d p other wait f false q)
    pick f true q =
        let same : wait ≡ other = if_true (is_positive f.kind) wait other p.own q f.waits in
        let o : other ≡ p.own = sym same ∙ po in
        let u : (x : Link) → held_by x p.uses ≡ hit x other = subst (DeedSound k p) e (deed_sound c k p) in
        absurd (omega (arith, u p.own, hit_of p.own other o, own_unused (link_at 0 0) before after p cf))
poised_provider c law d k before after p (Puts m rest) w cf e po = absurd po
poised_provider c law d k before after p (Makes child rest n) w cf e po = absurd po
poised_provider c law d k before after p (Turns rest n) w cf e po = absurd po
poised_provider c law d k before after p (Works q rest) w cf e po = absurd po
poised_provider c law d k before after p (Delays t rest) w cf e po = absurd po
poised_provider c law d k before after p (Halts v) w cf e po = absurd po
poised_provider c law d k before after p Breaks w cf e po = absurd po

-- ---- what isn't poised would have an event

-- a message toward the provider would be taken or moved by its provider
reached : (c : Code) (law : DeedLaw c) (d : Link → Option View) (k : ℕ) (front a : List Item) (p : Proc) (x : Deed) → AllFine c.program d (front ++ (P p ∷ a)) → Quiet c k (front ++ (P p ∷ a)) → HasCut (is_msg p.own Provider) front → deed c k p ≡ x → WaitsForClient p x → ⊥
reached c law d k front a p (Takes l s) w quiet h e po =
    let i : Takes l s ≡ Takes p.own Provider = ap (λ y. Takes y s) po.0 ∙ ap (Takes p.own) po.1 in
    let f : DeedFine c d p (Takes p.own Provider) = deed_at c law d k front a p (Takes p.own Provider) w (e ∙ i) in
    take_provider_ready c d front a p p.own f (fine_left c.program d front (P p ∷ a) w) h (subst (λ y. IsIdle (does c front p a y)) (e ∙ i) (quiet front a p refl))
reached c law d k front a p (Moves other wait) w quiet h e po =
    move_provider_ready c front a p other wait h (subst (λ y. IsIdle (does c front p a y)) e (quiet front a p refl))
reached c law d k front a p (Puts m rest) w quiet h e po = absurd po
reached c law d k front a p (Makes child rest n) w quiet h e po = absurd po
reached c law d k front a p (Turns rest n) w quiet h e po = absurd po
reached c law d k front a p (Works q rest) w quiet h e po = absurd po
reached c law d k front a p (Delays t rest) w quiet h e po = absurd po
reached c law d k front a p (Halts v) w quiet h e po = absurd po
reached c law d k front a p Breaks w quiet h e po = absurd po

stray : (c : Code) (law : DeedLaw c) (d : Link → Option View) (k : ℕ) (before b a : List Item) (m : Msg) (j : Item) → AllFine c.program d (before ++ (M m ∷ (b ++ (j ∷ a)))) → Quiet c k (before ++ (M m ∷ (b ++ (j ∷ a)))) → m.toward ≡ Provider → provides j ≡ m.link → IsPoised c k j → ⊥
stray c law d k before b a m (M n) w quiet t e po =
    let g : Program = c.program in
    let r = fine_right g d before (M m ∷ (b ++ (M n ∷ a))) w in
    let fn : MsgFine (defs g) d n = (fine_right g d b (M n ∷ a) r.1).0 in
    let l : n.link ≡ m.link = ap (λ s. msg_gives s n) (sym po) ∙ e in
    two_ways g d m.link (subst (λ y. Toward g d y Client) l (subst (Toward g d n.link) po (msg_toward g d n fn))) (subst (Toward g d m.link) t (msg_toward g d m r.0))
stray c law d k before b a m (P p) w quiet t e po =
    let front : List Item = before ++ (M m ∷ b) in
    let is : front ++ (P p ∷ a) ≡ before ++ (M m ∷ (b ++ (P p ∷ a))) = append_assoc before (M m ∷ b) (P p ∷ a) in
    let h : HasCut (is_msg p.own Provider) front = has_cut (is_msg p.own Provider) before b (M m) (is_msg_true p.own Provider m (sym e) t) in
    reached c law d k front a p (deed c k p) (subst (AllFine c.program d) (sym is) w) (subst (Quiet c k) (sym is) quiet) h refl po

-- a link toward the client, the provider of which is poised, has a message
answered : (c : Code) (law : DeedLaw c) (d : Link → Option View) (k : ℕ) (front b a : List Item) (l : Link) (j : Item) → AllFine c.program d (front ++ (b ++ (j ∷ a))) → IsConfig (link_at 0 0) (front ++ (b ++ (j ∷ a))) → Toward c.program d l Client → provides j ≡ l → IsPoised c k j → HasCut (is_msg l Client) (b ++ (j ∷ a))
answered c law d k front b a l (M n) w cf t e po = has_cut (is_msg l Client) b a (M n) (is_msg_true l Client n (ap (λ s. msg_gives s n) (sym po) ∙ e) po)
answered c law d k front b a l (P y) w cf t e po =
    let is : (front ++ b) ++ (P y ∷ a) ≡ front ++ (b ++ (P y ∷ a)) = append_assoc front b (P y ∷ a) in
    let z : Toward c.program d y.own Provider = poised_provider c law d k (front ++ b) a y (deed c k y) (subst (AllFine c.program d) (sym is) w) (subst (IsConfig (link_at 0 0)) (sym is) cf) refl po in
    absurd (two_ways c.program d l t (subst (λ v. Toward c.program d v Provider) e z))

later_answered : (c : Code) (law : DeedLaw c) (d : Link → Option View) (k : ℕ) (front after : List Item) (l : Link) → AllFine c.program d (front ++ after) → IsConfig (link_at 0 0) (front ++ after) → ArePoised c k after → 1 ≤ provided l after → Toward c.program d l Client → HasCut (is_msg l Client) after
later_answered c law d k front after l w cf po o t =
    let r = provider l after o in
    subst (HasCut (is_msg l Client)) (sym r.is) (answered c law d k front r.before r.after l r.item (subst (λ y. AllFine c.program d (front ++ y)) r.is w) (subst (λ y. IsConfig (link_at 0 0) (front ++ y)) r.is cf) t r.link (poised_at c k r.before r.after r.item (subst (ArePoised c k) r.is po)))

-- ---- from the list's end to its front

proc_poised : (c : Code) (law : DeedLaw c) (d : Link → Option View) (k : ℕ) (before after : List Item) (p : Proc) (x : Deed) → AllFine c.program d (before ++ (P p ∷ after)) → IsConfig (link_at 0 0) (before ++ (P p ∷ after)) → IsIdle (does c before p after x) → ((l : Link) → held_by l p.uses ≤ provided l after) → ArePoised c k after → deed c k p ≡ x → WaitsForClient p x
proc_poised c law d k before after p (Puts m rest) w cf q u po e = q
proc_poised c law d k before after p (Makes child rest n) w cf q u po e = q
proc_poised c law d k before after p (Turns rest n) w cf q u po e = q
proc_poised c law d k before after p (Works n rest) w cf q u po e = q
proc_poised c law d k before after p (Delays n rest) w cf q u po e = q
proc_poised c law d k before after p (Halts v) w cf q u po e = q
proc_poised c law d k before after p Breaks w cf q u po e = q
proc_poised c law d k before after p (Takes l Provider) w cf q u po e =
    let s : l ≡ p.own = subst (DeedSound k p) e (deed_sound c k p) in (s, refl)
proc_poised c law d k before after p (Takes l Client) w cf q u po e =
    let g : Program = c.program in
    let s : TakeSound p l Client = subst (DeedSound k p) e (deed_sound c k p) in
    let f : DeedFine c d p (Takes l Client) = deed_at c law d k before after p (Takes l Client) w e in
    let is : (before ++ P p ∷ []) ++ after ≡ before ++ (P p ∷ after) = append_assoc before (P p ∷ []) after in
    let h : HasCut (is_msg l Client) after = later_answered c law d k (before ++ P p ∷ []) after l (subst (AllFine g d) (sym is) w) (subst (IsConfig (link_at 0 0)) (sym is) cf) po (omega (arith, s l, u l, hit_self l)) f.0 in
    absurd (take_client_ready c d before after p l f (fine_right g d before (P p ∷ after) w).1 h q)
proc_poised c law d k before after p (Moves other wait) w cf q u po e =
    let f : Forwards c.program d p other wait = deed_at c law d k before after p (Moves other wait) w e in pick f (is_positive f.kind) refl
  where
    pick : (f : Forwards c.program d p other wait) (b : Bool) → is_positive f.kind ≡ b → wait ≡ p.own
    pick f false z = f.waits ∙ ap (λ (v : Bool). if v then other else p.own) z
    pick f true z =
        let s : (x : Link) → held_by x p.uses ≡ hit x other = subst (DeedSound k p) e (deed_sound c k p) in
        let is : (before ++ P p ∷ []) ++ after ≡ before ++ (P p ∷ after) = append_assoc before (P p ∷ []) after in
        let h : HasCut (is_msg other Client) after = later_answered c law d k (before ++ P p ∷ []) after other (subst (AllFine c.program d) (sym is) w) (subst (IsConfig (link_at 0 0)) (sym is) cf) po (omega (arith, s other, u other, hit_self other)) (toward_of c.program d p other wait f true z) in
        absurd (move_client_ready c before after p other wait h q)

item_poised : (c : Code) (law : DeedLaw c) (d : Link → Option View) (k : ℕ) (before after : List Item) (i : Item) → AllFine c.program d (before ++ (i ∷ after)) → IsConfig (link_at 0 0) (before ++ (i ∷ after)) → Quiet c k (before ++ (i ∷ after)) → ((l : Link) → times l (uses i) ≤ provided l after) → ArePoised c k after → IsPoised c k i
item_poised c law d k before after (P p) w cf quiet u po = proc_poised c law d k before after p (deed c k p) w cf (quiet before after p refl) u po refl
item_poised c law d k before after (M m) w cf quiet u po = pick m.toward refl
  where
    pick : (s : Side) → m.toward ≡ s → m.toward ≡ Client
    pick Client e = e
    pick Provider e =
        let r = provider m.link after (omega (arith, u m.link, uses_provider m e m.link, hit_self m.link)) in
        absurd (stray c law d k before r.before r.after m r.item (subst (λ y. AllFine c.program d (before ++ (M m ∷ y))) r.is w) (subst (λ y. Quiet c k (before ++ (M m ∷ y))) r.is quiet) e r.link (poised_at c k r.before r.after r.item (subst (ArePoised c k) r.is po)))

rest_poised : (c : Code) (law : DeedLaw c) (d : Link → Option View) (k : ℕ) (rest before : List Item) → AllFine c.program d (before ++ rest) → IsConfig (link_at 0 0) (before ++ rest) → Quiet c k (before ++ rest) → UsedEarlier rest → ArePoised c k rest
rest_poised c law d k [] before w cf quiet u = tt
rest_poised c law d k (i ∷ is) before w cf quiet u =
    let e : (before ++ i ∷ []) ++ is ≡ before ++ (i ∷ is) = append_assoc before (i ∷ []) is in
    let r = rest_poised c law d k is (before ++ i ∷ []) (subst (AllFine c.program d) (sym e) w) (subst (IsConfig (link_at 0 0)) (sym e) cf) (subst (Quiet c k) (sym e) quiet) u.1 in
    (item_poised c law d k before is i w cf quiet u.0 r, r)

-- where no process has an event, every item waits for its client
pub progress : (c : Code) (law : DeedLaw c) (d : Link → Option View) (k : ℕ) (items : List Item) → AllFine c.program d items → IsConfig (link_at 0 0) items → Quiet c k items → ArePoised c k items
progress c law d k items w cf quiet = rest_poised c law d k items [] w cf quiet cf.earlier
