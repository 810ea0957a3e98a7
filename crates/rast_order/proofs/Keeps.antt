-- A step keeps configurations, where the links that it makes are new.
use Rattle.std.proofs.Common.{◌≡◌, ℕ, zero, suc, Bool, true, false, cond, ◌≤◌, ◌+◌, List, ◌∷◌, ◌++◌, ◌⊎◌, Option, Some, None, inl, inr, arith, refl, ap, ◌∙◌, subst}
use Rattle.rast_items.specs.Items.{provides, uses, same_link, carried, continued, msg_uses, msg_gives, hit, times, provided, used, IsConfig}
use Rattle.rast_items.specs.Step.{rest_items, put_beside, moved, moved_next}
use Rattle.rast_order.proofs.Words.{Link, Item, P, M, Proc, Msg, Side, Client, Provider, Body, Label, End, Chan, Nat, Assert, Pay}
use Rattle.rast_order.proofs.Counts.{times-append, provided-append, used-append, Covered, covered, earlier, swap_tail, drop_front, Spares, same_link_is}
use Rattle.rast_order.proofs.Keys.{held_by}
use Rattle.rast_order.proofs.Deeds.{PutSound, TakeSound, MakeSound, SameLinks}
use Rattle.rast_order.proofs.Received.{UpReceived, DownReceived}

pub uses_client : (m : Msg) → m.toward ≡ Client → (l : Link) → times l (uses (M m)) ≡ times l (continued m.body m.next) + times l (carried m.body)
uses_client m e l = ap (λ s. times l (msg_uses s m)) e ∙ times-append (continued m.body m.next) (carried m.body) l

pub uses_provider : (m : Msg) → m.toward ≡ Provider → (l : Link) → times l (uses (M m)) ≡ hit l m.link + times l (carried m.body)
uses_provider m e l = ap (λ s. times l (msg_uses s m)) e

pub gives_client : (m : Msg) → m.toward ≡ Client → (l : Link) → hit l (provides (M m)) ≡ hit l m.link
gives_client m e l = ap (λ s. hit l (msg_gives s m)) e

pub gives_provider : (m : Msg) → m.toward ≡ Provider → (l : Link) → hit l (provides (M m)) ≡ hit l m.next
gives_provider m e l = ap (λ s. hit l (msg_gives s m)) e

-- a new link is provided once too
once_hit : (items : List Item) (n l : Link) (b : Bool) → same_link n l ≡ b → provided l items ≤ 1 → provided n items ≡ 0 → provided l items + cond b 1 0 ≤ 1
once_hit items n l false e h f = omega arith
once_hit items n l true e h f = let k : provided l items ≡ 0 = subst (λ x. provided x items ≡ 0) (same_link_is n l e) f in omega (arith, k)

pub once_more : (items : List Item) (n : Link) → ((l : Link) → provided l items ≤ 1) → provided n items ≡ 0 → (l : Link) → provided l items + hit l n ≤ 1
once_more items n h f l = once_hit items n l (same_link n l) refl (h l) f

pub used_once : (root : Link) (items : List Item) → IsConfig root items → (l : Link) → used l items ≤ 1
used_once root items c l = omega (arith, c.matched l, c.once l)

pub config_covered : (root : Link) (items : List Item) → IsConfig root items → Covered items
config_covered root items c = covered items (used_once root items c) c.earlier

-- another tail with the same links to spare
pub splice : (root : Link) (before old new : List Item) → IsConfig root (before ++ old) → Covered new → ((l : Link) → provided l new + used l old ≡ provided l old + used l new) → ((l : Link) → provided l (before ++ new) ≤ 1) → IsConfig root (before ++ new)
splice root before old new c k net o =
    record {
      once = o;
      matched = λ l. omega (arith, c.matched l, net l, provided-append before old l, provided-append before new l, used-append before old l, used-append before new l);
      earlier = earlier (before ++ new) (swap_tail before old new (config_covered root (before ++ old) c) k (λ l. inl (omega (arith, net l))));
    }

-- ---- sends

pub put_case : (root : Link) (before after : List Item) (p : Proc) (m : Msg) (s : Side) (rest : Option Proc) → m.toward ≡ s → PutSound p m s rest → IsConfig root (before ++ (P p ∷ after)) → ((q : Proc) → rest ≡ Some q → provided m.next (before ++ (P p ∷ after)) ≡ 0) → IsConfig root (before ++ (put_beside s m (rest_items rest) ++ after))
put_case root before after p m Provider None e d c f = absurd d
put_case root before after p m Client None e d c f =
    let cv : Covered (P p ∷ after) = drop_front before (P p ∷ after) (config_covered root _ c) in
    let no : (l : Link) → times l (uses (M m)) ≡ 0 = λ l. omega (arith, uses_client m e l, ap (λ b. times l (continued b m.next)) d.body, ap (λ b. times l (carried b)) d.body) in
    let un : (l : Link) → held_by l p.uses ≡ 0 = λ l. ap (held_by l) d.uses in
    splice root before (P p ∷ after) (M m ∷ after) c
    ((λ l. omega (arith, no l, cv.0 l, un l)), cv.1)
    (λ l. omega (arith, no l, gives_client m e l, un l, ap (hit l) d.link))
    (λ l. omega (arith, c.once l, gives_client m e l, ap (hit l) d.link, provided-append before (P p ∷ after) l, provided-append before (M m ∷ after) l))
put_case root before after p m Client (Some q) e d c f =
    let cv : Covered (P p ∷ after) = drop_front before (P p ∷ after) (config_covered root _ c) in
    splice root before (P p ∷ after) (M m ∷ P q ∷ after) c
    ((λ l. omega (arith, uses_client m e l, cv.0 l, d.held l, d.goes m.next l, ap (hit l) d.own)), ((λ l. omega (arith, cv.0 l, d.held l)), cv.1))
    (λ l. omega (arith, uses_client m e l, gives_client m e l, d.held l, d.goes m.next l, ap (hit l) d.own, ap (hit l) d.link))
    (λ l. omega (arith, once_more _ m.next c.once (f q refl) l, gives_client m e l, ap (hit l) d.own, ap (hit l) d.link, provided-append before (P p ∷ after) l, provided-append before (M m ∷ P q ∷ after) l))
put_case root before after p m Provider (Some q) e d c f =
    let cv : Covered (P p ∷ after) = drop_front before (P p ∷ after) (config_covered root _ c) in
    splice root before (P p ∷ after) (P q ∷ M m ∷ after) c
    ((λ l. omega (arith, uses_provider m e l, gives_provider m e l, cv.0 l, d.held l)), ((λ l. omega (arith, uses_provider m e l, cv.0 l, d.held l, d.has l)), cv.1))
    (λ l. omega (arith, uses_provider m e l, gives_provider m e l, d.held l, ap (hit l) d.own))
    (λ l. omega (arith, once_more _ m.next c.once (f q refl) l, gives_provider m e l, ap (hit l) d.own, provided-append before (P p ∷ after) l, provided-append before (P q ∷ M m ∷ after) l))

-- ---- takes

zero_or_more : (n : ℕ) → (n ≡ 0) ⊎ (1 ≤ n)
zero_or_more zero = inl refl
zero_or_more (suc n) = inr (omega arith)

-- an item that nothing before it wants may be left out: at each link, it doesn't provide it, or nothing between uses it
left_out : (between after : List Item) (i : Item) → Covered (between ++ (i ∷ after)) → ((l : Link) → 1 ≤ hit l (provides i) → used l (between ++ (i ∷ after)) ≡ 0) → Covered (between ++ after)
left_out between after i c h = swap_tail between (i ∷ after) after c (drop_front between (i ∷ after) c).1 (λ l. pick l (zero_or_more (hit l (provides i))))
  where
    pick : (l : Link) → ((hit l (provides i) ≡ 0) ⊎ (1 ≤ hit l (provides i))) → Spares between (i ∷ after) after l
    pick l (inl z) = inl (omega (arith, z))
    pick l (inr o) = inr (omega (arith, h l o, used-append between (i ∷ after) l, used-append between after l))

pub take_client_case : (root : Link) (before between after : List Item) (p q : Proc) (m : Msg) → m.toward ≡ Client → TakeSound p m.link Client → UpReceived p q m.next m.link m.body → IsConfig root (before ++ (P p ∷ (between ++ (M m ∷ after)))) → IsConfig root (before ++ (P q ∷ (between ++ after)))
take_client_case root before between after p q m e t d c =
    let old : List Item = P p ∷ (between ++ (M m ∷ after)) in
    let cv : Covered old = drop_front before old (config_covered root _ c) in
    let one : (l : Link) → provided l (between ++ (M m ∷ after)) ≤ 1 = λ l. omega (arith, c.once l, provided-append before old l) in
    splice root before old (P q ∷ (between ++ after)) c (
      (λ l. omega (arith, cv.0 l, d.held l, uses_client m e l, gives_client m e l, used-append between (M m ∷ after) l, used-append between after l, provided-append between (M m ∷ after) l, provided-append between after l)),
      left_out between after (M m) cv.1 (λ l o. omega (arith, o, one l, cv.0 l, t l, gives_client m e l)),
    )
    (λ l. omega (arith, d.held l, ap (hit l) d.own, uses_client m e l, gives_client m e l, used-append between (M m ∷ after) l, used-append between after l, provided-append between (M m ∷ after) l, provided-append between after l))
    (λ l. omega (arith, c.once l, ap (hit l) d.own, provided-append before old l, provided-append before (P q ∷ (between ++ after)) l, provided-append between (M m ∷ after) l, provided-append between after l))

pub take_provider_case : (root : Link) (before between after : List Item) (p q : Proc) (m : Msg) → m.toward ≡ Provider → TakeSound p m.link Provider → DownReceived p q m.next m.body → IsConfig root (before ++ (M m ∷ (between ++ (P p ∷ after)))) → IsConfig root (before ++ (P q ∷ (between ++ after)))
take_provider_case root before between after p q m e t d c =
    let old : List Item = M m ∷ (between ++ (P p ∷ after)) in
    let cv : Covered old = drop_front before old (config_covered root _ c) in
    let one : (l : Link) → provided l (between ++ (P p ∷ after)) ≤ 1 = λ l. omega (arith, c.once l, provided-append before old l) in
    splice root before old (P q ∷ (between ++ after)) c (
      (λ l. omega (arith, cv.0 l, d.held l, ap (hit l) t, uses_provider m e l, used-append between (P p ∷ after) l, used-append between after l, provided-append between (P p ∷ after) l, provided-append between after l)),
      left_out between after (P p) cv.1 (λ l o. omega (arith, o, one l, cv.0 l, ap (hit l) t, uses_provider m e l)),
    )
    (λ l. omega (arith, d.held l, ap (hit l) d.own, ap (hit l) t, uses_provider m e l, gives_provider m e l, used-append between (P p ∷ after) l, used-append between after l, provided-append between (P p ∷ after) l, provided-append between after l))
    (λ l. omega (arith, c.once l, ap (hit l) d.own, gives_provider m e l, provided-append before old l, provided-append before (P q ∷ (between ++ after)) l, provided-append between (P p ∷ after) l, provided-append between after l))

-- ---- moves

-- what a moved message uses besides its link stays
pub moved_continued : (b : Body) (to next l : Link) → times l (continued b (moved_next b to next)) ≡ times l (continued b next)
moved_continued (Label x) to next l = refl
moved_continued End to next l = refl
moved_continued (Chan c) to next l = refl
moved_continued (Nat n) to next l = refl
moved_continued Assert to next l = refl
moved_continued Pay to next l = refl

-- a message that isn't the end keeps its next link
pub moved_goes : (b : Body) (to next : Link) → (b ≡ End → ⊥) → moved_next b to next ≡ next
moved_goes (Label x) to next h = refl
moved_goes End to next h = absurd (h refl)
moved_goes (Chan c) to next h = refl
moved_goes (Nat n) to next h = refl
moved_goes Assert to next h = refl
moved_goes Pay to next h = refl

pub moved_end : (b : Body) (to next : Link) → b ≡ End → moved_next b to next ≡ to
moved_end (Label l) to next e = cc
moved_end End to next e = refl
moved_end (Chan c) to next e = cc
moved_end (Nat n) to next e = cc
moved_end Assert to next e = cc
moved_end Pay to next e = cc

pub moved_gives : (m : Msg) (to l : Link) → (m.body ≡ End → ⊥) → hit l (moved_next m.body to m.next) ≡ hit l m.next
moved_gives m to l h = ap (hit l) (moved_goes m.body to m.next h)

-- an item in the place of one with the same uses
replaced : (between after : List Item) (i j : Item) → ((l : Link) → times l (uses j) ≡ times l (uses i)) → Covered (between ++ (i ∷ after)) → ((l : Link) → 1 ≤ hit l (provides i) → used l (between ++ (i ∷ after)) ≡ 0) → Covered (between ++ (j ∷ after))
replaced between after i j u c h =
    let ca : Covered (i ∷ after) = drop_front between (i ∷ after) c in
    swap_tail between (i ∷ after) (j ∷ after) c ((λ l. omega (arith, ca.0 l, u l)), ca.1) (λ l. pick l (zero_or_more (hit l (provides i))))
  where
    pick : (l : Link) → ((hit l (provides i) ≡ 0) ⊎ (1 ≤ hit l (provides i))) → Spares between (i ∷ after) (j ∷ after) l
    pick l (inl z) = inl (omega (arith, z, u l))
    pick l (inr o) = inr (omega (arith, h l o, u l, used-append between (i ∷ after) l, used-append between (j ∷ after) l))

pub move_client_case : (root : Link) (before between after : List Item) (p : Proc) (m : Msg) → m.toward ≡ Client → ((x : Link) → held_by x p.uses ≡ hit x m.link) → IsConfig root (before ++ (P p ∷ (between ++ (M m ∷ after)))) → IsConfig root (before ++ (between ++ (M (moved m p.own) ∷ after)))
move_client_case root before between after p m e d c =
    let old : List Item = P p ∷ (between ++ (M m ∷ after)) in
    let n : Msg = moved m p.own in
    let new : List Item = between ++ (M n ∷ after) in
    let cv : Covered old = drop_front before old (config_covered root _ c) in
    let one : (l : Link) → provided l (between ++ (M m ∷ after)) ≤ 1 = λ l. omega (arith, c.once l, provided-append before old l) in
    let same : (l : Link) → times l (uses (M n)) ≡ times l (uses (M m)) = λ l. omega (arith, uses_client n e l, uses_client m e l, moved_continued m.body p.own m.next l) in
    splice root before old new c
    (replaced between after (M m) (M n) same cv.1 (λ l o. omega (arith, o, one l, cv.0 l, d l, gives_client m e l)))
    (λ l. omega (arith, d l, same l, gives_client n e l, gives_client m e l, used-append between (M m ∷ after) l, used-append between (M n ∷ after) l, provided-append between (M m ∷ after) l, provided-append between (M n ∷ after) l))
    (λ l. omega (arith, c.once l, gives_client n e l, provided-append before old l, provided-append before new l, provided-append between (M m ∷ after) l, provided-append between (M n ∷ after) l))

pub move_provider_case : (root : Link) (before between after : List Item) (p : Proc) (m : Msg) (to : Link) → m.toward ≡ Provider → (m.body ≡ End → ⊥) → m.link ≡ p.own → ((x : Link) → held_by x p.uses ≡ hit x to) → IsConfig root (before ++ (M m ∷ (between ++ (P p ∷ after)))) → IsConfig root (before ++ (M (moved m to) ∷ (between ++ after)))
move_provider_case root before between after p m to e ne t d c =
    let old : List Item = M m ∷ (between ++ (P p ∷ after)) in
    let n : Msg = moved m to in
    let cv : Covered old = drop_front before old (config_covered root _ c) in
    let one : (l : Link) → provided l (between ++ (P p ∷ after)) ≤ 1 = λ l. omega (arith, c.once l, provided-append before old l) in
    splice root before old (M n ∷ (between ++ after)) c (
      (λ l. omega (arith, cv.0 l, d l, ap (hit l) t, uses_provider m e l, uses_provider n e l, used-append between (P p ∷ after) l, used-append between after l, provided-append between (P p ∷ after) l, provided-append between after l)),
      left_out between after (P p) cv.1 (λ l o. omega (arith, o, one l, cv.0 l, ap (hit l) t, uses_provider m e l)),
    )
    (λ l. omega (arith, d l, ap (hit l) t, moved_gives m to l ne, uses_provider m e l, uses_provider n e l, gives_provider m e l, gives_provider n e l, used-append between (P p ∷ after) l, used-append between after l, provided-append between (P p ∷ after) l, provided-append between after l))
    (λ l. omega (arith, c.once l, moved_gives m to l ne, gives_provider m e l, gives_provider n e l, provided-append before old l, provided-append before (M n ∷ (between ++ after)) l, provided-append between (P p ∷ after) l, provided-append between after l))

-- ---- spawns, and steps of a process alone

pub make_case : (root : Link) (before after : List Item) (p child rest : Proc) (k : ℕ) → MakeSound k p child rest → IsConfig root (before ++ (P p ∷ after)) → provided child.own (before ++ (P p ∷ after)) ≡ 0 → IsConfig root (before ++ (P rest ∷ P child ∷ after))
make_case root before after p child rest k d c f =
    let cv : Covered (P p ∷ after) = drop_front before (P p ∷ after) (config_covered root _ c) in
    splice root before (P p ∷ after) (P rest ∷ P child ∷ after) c
    ((λ l. omega (arith, cv.0 l, d.held l)), ((λ l. omega (arith, cv.0 l, d.held l, d.has l)), cv.1))
    (λ l. omega (arith, d.held l, ap (hit l) d.own))
    (λ l. omega (arith, once_more _ child.own c.once f l, ap (hit l) d.own, provided-append before (P p ∷ after) l, provided-append before (P rest ∷ P child ∷ after) l))

pub stay_case : (root : Link) (before after : List Item) (p rest : Proc) → SameLinks p rest → IsConfig root (before ++ (P p ∷ after)) → IsConfig root (before ++ (P rest ∷ after))
stay_case root before after p rest s c =
    let cv : Covered (P p ∷ after) = drop_front before (P p ∷ after) (config_covered root _ c) in
    splice root before (P p ∷ after) (P rest ∷ after) c
    ((λ l. omega (arith, cv.0 l, s.held l)), cv.1)
    (λ l. omega (arith, s.held l, ap (hit l) s.own))
    (λ l. omega (arith, c.once l, ap (hit l) s.own, provided-append before (P p ∷ after) l, provided-append before (P rest ∷ after) l))
