-- A move keeps what is known of a list of items.
use Rattle.std.proofs.Common.{◌≡◌, ℕ, ◌≤◌, ◌<◌, ◌+◌, List, [], ◌∷◌, ◌++◌, ◌⊎◌, inl, inr, arith, refl, ap, ◌∙◌}
use Rattle.rast_items.specs.Items.{hit, provided}
use Rattle.rast_items.specs.Step.{moved}
use Rattle.rast_items.specs.Run.{Sent, AreApart}
use Rattle.rast_order.proofs.Words.{Link, Pid, Item, P, M, Proc, Msg, Side, Client, Provider, End}
use Rattle.rast_order.proofs.Counts.{provided-append, used-append, on, on-append, hit_self}
use Rattle.rast_order.proofs.Keys.{held_by}
use Rattle.rast_order.proofs.Messages.{each_left, each_right, each_append}
use Rattle.rast_order.proofs.Keeps.{uses_provider, gives_client, gives_provider, moved_end, moved_gives, move_client_case, move_provider_case}
use Rattle.rast_order.proofs.Queue.{Queue, EndsUp, PutOn, mark, mark_cases, put_queue, take_queue}
use Rattle.rast_order.proofs.Sound.{Sound}
use Rattle.rast_order.proofs.Takes.{take_client_off, take_provider_off, waiting_at, waiting_in}

move_unsent : (many : ℕ) (snt : Pid → List Sent) (m : Msg) → ((s : Pid) → many ≤ s.0 → snt s ≡ []) → m.link.session.0 < many → (s : Pid) → many ≤ s.0 → snt s ++ mark s m ≡ []
move_unsent many snt m u h s d = pick (mark_cases s m)
  where
    pick : (m.link.session ≡ s) ⊎ (mark s m ≡ []) → snt s ++ mark s m ≡ []
    pick (inl x) = absurd (omega (arith, d, ap (λ k. k.0) x, h))
    pick (inr z) = ap (λ y. y ++ mark s m) (u s d) ∙ z

pub move_client_sound : (root : Link) (many : ℕ) (snt tkn : Pid → List Sent) (before between after : List Item) (p : Proc) (m : Msg) → m.toward ≡ Client → ((x : Link) → held_by x p.uses ≡ hit x m.link) → Sound root many snt tkn (before ++ (P p ∷ (between ++ (M m ∷ after)))) → AreApart (before ++ (P p ∷ (between ++ (M m ∷ after)))) → on p.own (before ++ (P p ∷ (between ++ after))) ≡ 0 → Sound root many (λ s. snt s ++ mark s (moved m p.own)) (λ s. tkn s ++ mark s m) (before ++ (between ++ (M (moved m p.own) ∷ after)))
move_client_sound root many snt tkn before between after p m e d c a b =
    let n : Msg = moved m p.own in
    let mid : List Item = before ++ (P p ∷ (between ++ after)) in
    let new : List Item = before ++ (between ++ (M n ∷ after)) in
    let off = take_client_off root many snt tkn before between after p p m e (λ x. omega (arith, d x)) refl c a in
    let taken : Queue snt (λ s. tkn s ++ mark s m) mid = take_queue snt tkn _ _ m c.queue (waiting_at snt tkn before between after p m c.queue) off in
    let count : (l : Link) → on l new ≡ on l mid + hit l p.own = λ l. omega (arith, on-append before (between ++ (M n ∷ after)) l, on-append between (M n ∷ after) l, on-append before (P p ∷ (between ++ after)) l, on-append between after l) in
    let gives : (l : Link) → provided l new ≤ provided l mid = λ l. omega (arith, provided-append before (between ++ (M n ∷ after)) l, provided-append between (M n ∷ after) l, provided-append before (P p ∷ (between ++ after)) l, provided-append between after l, gives_client n e l) in
    let known : 1 ≤ provided p.own mid = omega (arith, provided-append before (P p ∷ (between ++ after)) p.own, hit_self p.own) in
    let put : PutOn mid new n = record {
      count = count;
      free = b;
      known = known;
      gives = λ l. omega (arith, gives l);
      next = inr gives;
      each = λ Q h k. let r = each_right Q before (P p ∷ (between ++ after)) h in each_append Q before (between ++ (M n ∷ after)) (each_left Q before (P p ∷ (between ++ after)) h) (each_append Q between (M n ∷ after) (each_left Q between after r) (k, each_right Q between after r));
      end = λ x. (e, moved_end m.body p.own m.next x);
    } in
    record {
      config = move_client_case root before between after p m e d c.config;
      queue = put_queue snt (λ s. tkn s ++ mark s m) mid new n taken put;
      below = λ l h. c.below l (omega (arith, h, gives l, off.gives l));
      unsent = move_unsent many snt n c.unsent (c.below p.own (omega (arith, known, off.gives p.own)));
    }

pub move_provider_sound : (root : Link) (many : ℕ) (snt tkn : Pid → List Sent) (before between after : List Item) (p : Proc) (m : Msg) (to : Link) → m.toward ≡ Provider → m.link ≡ p.own → ((x : Link) → held_by x p.uses ≡ hit x to) → Sound root many snt tkn (before ++ (M m ∷ (between ++ (P p ∷ after)))) → AreApart (before ++ (M m ∷ (between ++ (P p ∷ after)))) → on to (before ++ (P (record p { own = m.next }) ∷ (between ++ after))) ≡ 0 → Sound root many (λ s. snt s ++ mark s (moved m to)) (λ s. tkn s ++ mark s m) (before ++ (M (moved m to) ∷ (between ++ after)))
move_provider_sound root many snt tkn before between after p m to e t d c a b =
    let old : List Item = before ++ (M m ∷ (between ++ (P p ∷ after))) in
    let n : Msg = moved m to in
    let q : Proc = record p { own = m.next } in
    let mid : List Item = before ++ (P q ∷ (between ++ after)) in
    let new : List Item = before ++ (M n ∷ (between ++ after)) in
    let no_end : m.body ≡ End → ⊥ = λ x. let k = ((each_right EndsUp before (M m ∷ (between ++ (P p ∷ after))) c.queue.ends).0 x).0 in not_both m.toward e k in
    let off = take_provider_off root many snt tkn before between after p q m e t refl c a in
    let taken : Queue snt (λ s. tkn s ++ mark s m) mid = take_queue snt tkn _ _ m c.queue (waiting_in snt tkn before (between ++ (P p ∷ after)) m c.queue) off in
    let count : (l : Link) → on l new ≡ on l mid + hit l to = λ l. omega (arith, on-append before (M n ∷ (between ++ after)) l, on-append before (P q ∷ (between ++ after)) l) in
    let gives : (l : Link) → provided l new ≤ provided l mid = λ l. omega (arith, provided-append before (M n ∷ (between ++ after)) l, provided-append before (P q ∷ (between ++ after)) l, gives_provider n e l, moved_gives m to l no_end) in
    let known : 1 ≤ provided to mid = omega (
      arith,
      c.config.matched to,
      c.config.once to,
      d to,
      hit_self to,
      uses_provider m e to,
      gives_provider m e to,
      ap (hit to) t,
      used-append before (M m ∷ (between ++ (P p ∷ after))) to,
      used-append between (P p ∷ after) to,
      provided-append before (M m ∷ (between ++ (P p ∷ after))) to,
      provided-append between (P p ∷ after) to,
      provided-append before (P q ∷ (between ++ after)) to,
      provided-append between after to,
    ) in
    let put : PutOn mid new n = record {
      count = count;
      free = b;
      known = known;
      gives = λ l. omega (arith, gives l);
      next = inr gives;
      each = λ Q h k. each_append Q before (M n ∷ (between ++ after)) (each_left Q before (P q ∷ (between ++ after)) h) (k, each_right Q before (P q ∷ (between ++ after)) h);
      end = λ x. absurd (no_end x);
    } in
    record {
      config = move_provider_case root before between after p m to e no_end t d c.config;
      queue = put_queue snt (λ s. tkn s ++ mark s m) mid new n taken put;
      below = λ l h. c.below l (omega (arith, h, gives l, off.gives l));
      unsent = move_unsent many snt n c.unsent (c.below to (omega (arith, known, off.gives to)));
    }
  where
    not_both : (s : Side) → s ≡ Provider → s ≡ Client → ⊥
    not_both Client x y = cc
    not_both Provider x y = cc

-- where no two messages have the same link after a move, there was no other on the link to which it was moved
pub move_client_free : (before between after : List Item) (p : Proc) (m : Msg) → AreApart (before ++ (between ++ (M (moved m p.own) ∷ after))) → on p.own (before ++ (P p ∷ (between ++ after))) ≡ 0
move_client_free before between after p m b =
    let n : Msg = moved m p.own in
    omega (arith, b p.own, hit_self p.own, on-append before (between ++ (M n ∷ after)) p.own, on-append between (M n ∷ after) p.own, on-append before (P p ∷ (between ++ after)) p.own, on-append between after p.own)

pub move_provider_free : (before between after : List Item) (q : Proc) (m : Msg) (to : Link) → AreApart (before ++ (M (moved m to) ∷ (between ++ after))) → on to (before ++ (P q ∷ (between ++ after))) ≡ 0
move_provider_free before between after q m to b =
    let n : Msg = moved m to in
    omega (arith, b to, hit_self to, on-append before (M n ∷ (between ++ after)) to, on-append before (P q ∷ (between ++ after)) to)
