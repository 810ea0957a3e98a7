-- A take keeps what is known of a list of items.
use Rattle.std.proofs.Common.{◌≡◌, ℕ, ◌≤◌, ◌+◌, List, ◌∷◌, ◌++◌, ◌⊎◌, inl, inr, arith, refl, ap, ◌∙◌, sym, subst}
use Rattle.rast_items.specs.Items.{after_link, provides, uses, hit, times, provided, used}
use Rattle.rast_items.specs.Run.{Sent, AreApart}
use Rattle.rast_order.proofs.Words.{Link, Pid, Item, P, M, Proc, Msg, Side, Client, Provider, End}
use Rattle.rast_order.proofs.Counts.{provided-append, used-append, on, on-append, hit_self, hit_of, hit_cases}
use Rattle.rast_order.proofs.Keys.{held_by}
use Rattle.rast_order.proofs.Deeds.{TakeSound}
use Rattle.rast_order.proofs.Received.{UpReceived, DownReceived}
use Rattle.rast_order.proofs.Messages.{Each, each_left, each_right, each_append, each_map, each_both, on_le}
use Rattle.rast_order.proofs.Keeps.{uses_client, uses_provider, gives_client, gives_provider, used_once, take_client_case, take_provider_case}
use Rattle.rast_order.proofs.Queue.{Queue, Chained, EndsUp, Waiting, TakeOff, mark, take_queue}
use Rattle.rast_order.proofs.Sound.{Sound, continued_some}

-- a message on the link before k has k as its next
touches_next : (items : List Item) (l k : Link) (m : Msg) → after_link l ≡ k → 1 ≤ provided k items → Chained items m → EndsUp m → hit l m.link ≤ times k (uses (M m)) + hit k (provides (M m))
touches_next items l k m e o c n = pick (hit_cases l m.link)
  where
    end_no : m.link ≡ l → m.next ≡ k → m.body ≡ End → ⊥
    end_no i x b = absurd (omega (arith, ap (λ y. y.index) e, ap (λ y. y.index) i, ap (λ y. y.index) x, ap (λ y. y.index) (n b).1))

    side : (s : Side) → m.toward ≡ s → m.link ≡ l → m.next ≡ k → hit l m.link ≤ times k (uses (M m)) + hit k (provides (M m))
    side Client t i x = omega (arith, uses_client m t k, continued_some m.body m.next k (end_no i x), hit_of k m.next x, hit_of l m.link i)
    side Provider t i x = omega (arith, gives_provider m t k, hit_of k m.next x, hit_of l m.link i)

    pick : (m.link ≡ l) ⊎ (hit l m.link ≡ 0) → hit l m.link ≤ times k (uses (M m)) + hit k (provides (M m))
    pick (inl i) =
        let f : after_link m.link ≡ k = ap after_link i ∙ e in
        side m.toward refl i (c (subst (λ y. 1 ≤ provided y items) (sym f) o) ∙ f)
    pick (inr z) = omega (arith, z)

all_touch : (snt tkn : Pid → List Sent) (items : List Item) (l k : Link) → Queue snt tkn items → after_link l ≡ k → 1 ≤ provided k items → Each (λ m. hit l m.link ≤ times k (uses (M m)) + hit k (provides (M m))) items
all_touch snt tkn items l k q e o = each_map (λ m. Chained items m × EndsUp m) (λ m. hit l m.link ≤ times k (uses (M m)) + hit k (provides (M m))) (λ m h. touches_next items l k m e o h.0 h.1) items (each_both (Chained items) EndsUp items q.chained q.ends)

-- two links of which one is before the other aren't the same
not_before : (l k : Link) → after_link l ≡ k → hit l k ≡ 0
not_before l k e = pick (hit_cases l k)
  where
    pick : (k ≡ l) ⊎ (hit l k ≡ 0) → hit l k ≡ 0
    pick (inl x) = absurd (omega (arith, ap (λ y. y.index) x, ap (λ y. y.index) e))
    pick (inr z) = z

pub take_client_off : (root : Link) (many : ℕ) (snt tkn : Pid → List Sent) (before between after : List Item) (p q : Proc) (m : Msg) → m.toward ≡ Client → TakeSound p m.link Client → (q.own ≡ p.own) → Sound root many snt tkn (before ++ (P p ∷ (between ++ (M m ∷ after)))) → AreApart (before ++ (P p ∷ (between ++ (M m ∷ after)))) → TakeOff (before ++ (P p ∷ (between ++ (M m ∷ after)))) (before ++ (P q ∷ (between ++ after))) m
take_client_off root many snt tkn before between after p q m e t o c a =
    let old : List Item = before ++ (P p ∷ (between ++ (M m ∷ after))) in
    let new : List Item = before ++ (P q ∷ (between ++ after)) in
    let po : (l : Link) → provided l old ≡ provided l before + hit l p.own + provided l between + hit l m.link + provided l after = λ l. omega (arith, provided-append before (P p ∷ (between ++ (M m ∷ after))) l, provided-append between (M m ∷ after) l, gives_client m e l) in
    let pn : (l : Link) → provided l new ≡ provided l before + hit l p.own + provided l between + provided l after = λ l. omega (arith, provided-append before (P q ∷ (between ++ after)) l, provided-append between after l, ap (hit l) o) in
    let oo : (l : Link) → on l old ≡ on l before + on l between + hit l m.link + on l after = λ l. omega (arith, on-append before (P p ∷ (between ++ (M m ∷ after))) l, on-append between (M m ∷ after) l) in
    let nn : (l : Link) → on l new ≡ on l before + on l between + on l after = λ l. omega (arith, on-append before (P q ∷ (between ++ after)) l, on-append between after l) in
    let uo : (l : Link) → used l old ≡ used l before + held_by l p.uses + used l between + times l (uses (M m)) + used l after = λ l. omega (arith, used-append before (P p ∷ (between ++ (M m ∷ after))) l, used-append between (M m ∷ after) l) in
    let one : 1 ≤ provided m.link old = omega (arith, po m.link, hit_self m.link) in
    record {
      count = λ l. omega (arith, oo l, nn l);
      gives = λ l. omega (arith, po l, pn l);
      gone = omega (arith, po m.link, pn m.link, hit_self m.link, c.config.once m.link);
      free = omega (arith, oo m.link, nn m.link, hit_self m.link, a m.link);
      each = λ Q h. let b = each_right Q before (P p ∷ (between ++ (M m ∷ after))) h in each_append Q before (P q ∷ (between ++ after)) (each_left Q before (P p ∷ (between ++ (M m ∷ after))) h) (each_append Q between after (each_left Q between (M m ∷ after) b) (each_right Q between (M m ∷ after) b).1);
      first = λ l f.
          let Q : Msg → Type 0 = λ x. hit l x.link ≤ times m.link (uses (M x)) + hit m.link (provides (M x)) in
          let ts : Each Q old = all_touch snt tkn old l m.link c.queue f one in
          let r : Each Q (between ++ (M m ∷ after)) = each_right Q before (P p ∷ (between ++ (M m ∷ after))) ts in
          omega (arith, oo l, po m.link, uo m.link, not_before l m.link f, used_once root old c.config m.link, c.config.once m.link, t m.link, hit_self m.link, on_le l m.link before (each_left Q before (P p ∷ (between ++ (M m ∷ after))) ts), on_le l m.link between (each_left Q between (M m ∷ after) r), on_le l m.link after (each_right Q between (M m ∷ after) r).1);
    }

pub take_provider_off : (root : Link) (many : ℕ) (snt tkn : Pid → List Sent) (before between after : List Item) (p q : Proc) (m : Msg) → m.toward ≡ Provider → m.link ≡ p.own → (q.own ≡ m.next) → Sound root many snt tkn (before ++ (M m ∷ (between ++ (P p ∷ after)))) → AreApart (before ++ (M m ∷ (between ++ (P p ∷ after)))) → TakeOff (before ++ (M m ∷ (between ++ (P p ∷ after)))) (before ++ (P q ∷ (between ++ after))) m
take_provider_off root many snt tkn before between after p q m e t o c a =
    let old : List Item = before ++ (M m ∷ (between ++ (P p ∷ after))) in
    let new : List Item = before ++ (P q ∷ (between ++ after)) in
    let po : (l : Link) → provided l old ≡ provided l before + hit l m.next + provided l between + hit l m.link + provided l after = λ l. omega (arith, provided-append before (M m ∷ (between ++ (P p ∷ after))) l, provided-append between (P p ∷ after) l, gives_provider m e l, ap (hit l) t) in
    let pn : (l : Link) → provided l new ≡ provided l before + hit l m.next + provided l between + provided l after = λ l. omega (arith, provided-append before (P q ∷ (between ++ after)) l, provided-append between after l, ap (hit l) o) in
    let oo : (l : Link) → on l old ≡ on l before + on l between + hit l m.link + on l after = λ l. omega (arith, on-append before (M m ∷ (between ++ (P p ∷ after))) l, on-append between (P p ∷ after) l) in
    let nn : (l : Link) → on l new ≡ on l before + on l between + on l after = λ l. omega (arith, on-append before (P q ∷ (between ++ after)) l, on-append between after l) in
    let uo : (l : Link) → used l old ≡ used l before + held_by l p.uses + used l between + times l (uses (M m)) + used l after = λ l. omega (arith, used-append before (M m ∷ (between ++ (P p ∷ after))) l, used-append between (P p ∷ after) l) in
    let one : 1 ≤ provided m.link old = omega (arith, po m.link, hit_self m.link) in
    record {
      count = λ l. omega (arith, oo l, nn l);
      gives = λ l. omega (arith, po l, pn l);
      gone = omega (arith, po m.link, pn m.link, hit_self m.link, c.config.once m.link);
      free = omega (arith, oo m.link, nn m.link, hit_self m.link, a m.link);
      each = λ Q h. let b = (each_right Q before (M m ∷ (between ++ (P p ∷ after))) h).1 in each_append Q before (P q ∷ (between ++ after)) (each_left Q before (M m ∷ (between ++ (P p ∷ after))) h) (each_append Q between after (each_left Q between (P p ∷ after) b) (each_right Q between (P p ∷ after) b));
      first = λ l f.
          let Q : Msg → Type 0 = λ x. hit l x.link ≤ times m.link (uses (M x)) + hit m.link (provides (M x)) in
          let ts : Each Q old = all_touch snt tkn old l m.link c.queue f one in
          let r : Each Q (between ++ (P p ∷ after)) = (each_right Q before (M m ∷ (between ++ (P p ∷ after))) ts).1 in
          omega (arith, oo l, po m.link, uo m.link, uses_provider m e m.link, not_before l m.link f, used_once root old c.config m.link, c.config.once m.link, hit_self m.link, on_le l m.link before (each_left Q before (M m ∷ (between ++ (P p ∷ after))) ts), on_le l m.link between (each_left Q between (P p ∷ after) r), on_le l m.link after (each_right Q between (P p ∷ after) r));
    }

pub waiting_at : (snt tkn : Pid → List Sent) (before between after : List Item) (p : Proc) (m : Msg) → Queue snt tkn (before ++ (P p ∷ (between ++ (M m ∷ after)))) → Waiting snt tkn m
waiting_at snt tkn before between after p m q = (each_right (Waiting snt tkn) between (M m ∷ after) (each_right (Waiting snt tkn) before (P p ∷ (between ++ (M m ∷ after))) q.waiting)).0

pub waiting_in : (snt tkn : Pid → List Sent) (before rest : List Item) (m : Msg) → Queue snt tkn (before ++ (M m ∷ rest)) → Waiting snt tkn m
waiting_in snt tkn before rest m q = (each_right (Waiting snt tkn) before (M m ∷ rest) q.waiting).0

pub take_client_sound : (root : Link) (many : ℕ) (snt tkn : Pid → List Sent) (before between after : List Item) (p q : Proc) (m : Msg) → m.toward ≡ Client → TakeSound p m.link Client → UpReceived p q m.next m.link m.body → Sound root many snt tkn (before ++ (P p ∷ (between ++ (M m ∷ after)))) → AreApart (before ++ (P p ∷ (between ++ (M m ∷ after)))) → Sound root many snt (λ s. tkn s ++ mark s m) (before ++ (P q ∷ (between ++ after)))
take_client_sound root many snt tkn before between after p q m e t r c a =
    let off = take_client_off root many snt tkn before between after p q m e t r.own c a in
    record {
      config = take_client_case root before between after p q m e t r c.config;
      queue = take_queue snt tkn _ _ m c.queue (waiting_at snt tkn before between after p m c.queue) off;
      below = λ l h. c.below l (omega (arith, h, off.gives l));
      unsent = c.unsent;
    }

pub take_provider_sound : (root : Link) (many : ℕ) (snt tkn : Pid → List Sent) (before between after : List Item) (p q : Proc) (m : Msg) → m.toward ≡ Provider → TakeSound p m.link Provider → DownReceived p q m.next m.body → Sound root many snt tkn (before ++ (M m ∷ (between ++ (P p ∷ after)))) → AreApart (before ++ (M m ∷ (between ++ (P p ∷ after)))) → Sound root many snt (λ s. tkn s ++ mark s m) (before ++ (P q ∷ (between ++ after)))
take_provider_sound root many snt tkn before between after p q m e t r c a =
    let off = take_provider_off root many snt tkn before between after p q m e t r.own c a in
    record {
      config = take_provider_case root before between after p q m e t r c.config;
      queue = take_queue snt tkn _ _ m c.queue (waiting_in snt tkn before (between ++ (P p ∷ after)) m c.queue) off;
      below = λ l h. c.below l (omega (arith, h, off.gives l));
      unsent = c.unsent;
    }
