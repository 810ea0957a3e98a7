-- What is known of a list of items, and that a send keeps it.
use Rattle.std.proofs.Common.{◌≡◌, ℕ, zero, suc, ◌≤◌, ◌<◌, ◌+◌, List, [], ◌∷◌, ◌++◌, ◌⊎◌, Option, Some, None, inl, inr, arith, refl, sym, ap, ◌∙◌, subst}
use Rattle.rast_items.specs.Items.{after_link, continued, hit, times, provided, IsConfig}
use Rattle.rast_items.specs.Step.{rest_items, put_beside}
use Rattle.rast_items.specs.Run.{Sent, AreApart}
use Rattle.rast_order.proofs.Words.{Link, Pid, Item, P, M, Proc, Msg, Side, Client, Provider, Body, Label, End, Chan, Nat, Assert, Pay}
use Rattle.rast_order.proofs.Counts.{provided-append, used-append, on, on-append, hit_self, hit_of, hit_cases}
use Rattle.rast_order.proofs.Deeds.{PutSound, GoesOn}
use Rattle.rast_order.proofs.Messages.{each_left, each_right, each_append}
use Rattle.rast_order.proofs.Keeps.{gives_client, gives_provider, put_case}
use Rattle.rast_order.proofs.Queue.{Queue, PutOn, mark, mark_cases, put_queue, put_at_end}

-- what holds of a list of items where so many processes were made, and this was sent and taken
pub record Sound (root : Link) (many : ℕ) (snt tkn : Pid → List Sent) (items : List Item) : Type 0 where
  pub config : IsConfig root items
  pub queue : Queue snt tkn items
  pub below : (l : Link) → 1 ≤ provided l items → l.session.0 < many
  pub unsent : (s : Pid) → many ≤ s.0 → snt s ≡ []

pub continued_some : (b : Body) (n x : Link) → (b ≡ End → ⊥) → times x (continued b n) ≡ hit x n
continued_some (Label l) n x h = omega arith
continued_some End n x h = absurd (h refl)
continued_some (Chan c) n x h = omega arith
continued_some (Nat v) n x h = omega arith
continued_some Assert n x h = omega arith
continued_some Pay n x h = omega arith

pub not_end : (b : Body) → GoesOn b → b ≡ End → ⊥
not_end b h e = let l : Link = record { session = record { 0 = 0 }; index = 0 } in absurd (omega (arith, h l l, hit_self l, ap (λ c. times l (continued c l)) e))

pub put_on : (root : Link) (many : ℕ) (snt tkn : Pid → List Sent) (before after : List Item) (p : Proc) (m : Msg) (s : Side) (rest : Option Proc) → m.toward ≡ s → PutSound p m s rest → Sound root many snt tkn (before ++ (P p ∷ after)) → on m.link (before ++ (P p ∷ after)) ≡ 0 → PutOn (before ++ (P p ∷ after)) (before ++ (put_beside s m (rest_items rest) ++ after)) m
put_on root many snt tkn before after p m Provider None e d c a = absurd d
put_on root many snt tkn before after p m Client None e d c a =
    let count : (l : Link) → on l (before ++ (M m ∷ after)) ≡ on l (before ++ (P p ∷ after)) + hit l m.link = λ l. omega (arith, on-append before (M m ∷ after) l, on-append before (P p ∷ after) l) in
    let known : 1 ≤ provided m.link (before ++ (P p ∷ after)) = omega (arith, provided-append before (P p ∷ after) m.link, hit_of m.link p.own (sym d.link)) in
    record {
      count = count;
      free = a;
      known = known;
      gives = λ l. omega (arith, provided-append before (M m ∷ after) l, provided-append before (P p ∷ after) l, gives_client m e l, ap (hit l) d.link);
      next = inr (λ l. omega (arith, provided-append before (M m ∷ after) l, provided-append before (P p ∷ after) l, gives_client m e l, ap (hit l) d.link));
      each = λ Q h k. each_append Q before (M m ∷ after) (each_left Q before (P p ∷ after) h) (k, each_right Q before (P p ∷ after) h);
      end = λ _. (e, d.next);
    }
put_on root many snt tkn before after p m Client (Some q) e d c a =
    let old : List Item = before ++ (P p ∷ after) in
    let tail : List Item = M m ∷ P q ∷ after in
    let count : (l : Link) → on l (before ++ tail) ≡ on l old + hit l m.link = λ l. omega (arith, on-append before tail l, on-append before (P p ∷ after) l) in
    let known : 1 ≤ provided m.link old = omega (arith, provided-append before (P p ∷ after) m.link, hit_of m.link p.own (sym d.link)) in
    let next : m.next ≡ after_link m.link = d.next ∙ ap after_link (sym d.link) in
    record {
      count = count;
      free = a;
      known = known;
      gives = λ l. omega (arith, provided-append before tail l, provided-append before (P p ∷ after) l, gives_client m e l, ap (hit l) d.link, ap (hit l) d.own, ap (hit l) next);
      next = inl next;
      each = λ Q h k. each_append Q before tail (each_left Q before (P p ∷ after) h) (k, each_right Q before (P p ∷ after) h);
      end = λ b. absurd (not_end m.body d.goes b);
    }
put_on root many snt tkn before after p m Provider (Some q) e d c a =
    let old : List Item = before ++ (P p ∷ after) in
    let tail : List Item = P q ∷ M m ∷ after in
    let count : (l : Link) → on l (before ++ tail) ≡ on l old + hit l m.link = λ l. omega (arith, on-append before tail l, on-append before (P p ∷ after) l) in
    let known : 1 ≤ provided m.link old = omega (arith, c.config.matched m.link, used-append before (P p ∷ after) m.link, d.held m.link, d.has m.link, hit_self m.link) in
    record {
      count = count;
      free = a;
      known = known;
      gives = λ l. omega (arith, provided-append before tail l, provided-append before (P p ∷ after) l, gives_provider m e l, ap (hit l) d.own, ap (hit l) d.next);
      next = inl d.next;
      each = λ Q h k. each_append Q before tail (each_left Q before (P p ∷ after) h) (k, each_right Q before (P p ∷ after) h);
      end = λ b. absurd (not_end m.body d.goes b);
    }

-- the link after one on which a message is put is new
fresh_next : (snt tkn : Pid → List Sent) (old new : List Item) (m : Msg) → Queue snt tkn old → PutOn old new m → provided (after_link m.link) old ≡ 0
fresh_next snt tkn old new m q p = pick (provided (after_link m.link) old) refl
  where
    pick : (n : ℕ) → provided (after_link m.link) old ≡ n → n ≡ 0
    pick zero e = refl
    pick (suc n) e = let r = q.reach (after_link m.link) (omega (arith, e)) in absurd (omega (arith, r.1, put_at_end snt tkn old new m q p))

pub put_sound : (root : Link) (many : ℕ) (snt tkn : Pid → List Sent) (before after : List Item) (p : Proc) (m : Msg) (s : Side) (rest : Option Proc) → m.toward ≡ s → PutSound p m s rest → Sound root many snt tkn (before ++ (P p ∷ after)) → on m.link (before ++ (P p ∷ after)) ≡ 0 → Sound root many (λ s. snt s ++ mark s m) tkn (before ++ (put_beside s m (rest_items rest) ++ after))
put_sound root many snt tkn before after p m s rest e d c a =
    let old : List Item = before ++ (P p ∷ after) in
    let new : List Item = before ++ (put_beside s m (rest_items rest) ++ after) in
    let on' : PutOn old new m = put_on root many snt tkn before after p m s rest e d c a in
    record {
      config = put_case root before after p m s rest e d c.config (λ q r. subst (λ x. provided x old ≡ 0) (sym (next_is s rest q d r)) (fresh_next snt tkn old new m c.queue on'));
      queue = put_queue snt tkn old new m c.queue on';
      below = λ l h. put_below l (hit_cases l (after_link m.link)) on' h;
      unsent = λ t b. put_unsent t b on' (mark_cases t m);
    }
  where
    next_is : (s : Side) (rest : Option Proc) (q : Proc) → PutSound p m s rest → rest ≡ Some q → m.next ≡ after_link m.link
    next_is Client None q d r = cc
    next_is Client (Some x) q d r = d.next ∙ ap after_link (sym d.link)
    next_is Provider None q d r = cc
    next_is Provider (Some x) q d r = d.next

    put_below : (l : Link) → ((after_link m.link ≡ l) ⊎ (hit l (after_link m.link) ≡ 0)) → PutOn (before ++ (P p ∷ after)) (before ++ (put_beside s m (rest_items rest) ++ after)) m → 1 ≤ provided l (before ++ (put_beside s m (rest_items rest) ++ after)) → l.session.0 < many
    put_below l (inl x) o h = omega (arith, ap (λ k. k.session.0) x, c.below m.link o.known)
    put_below l (inr z) o h = c.below l (omega (arith, h, o.gives l, z))

    put_unsent : (t : Pid) → many ≤ t.0 → PutOn (before ++ (P p ∷ after)) (before ++ (put_beside s m (rest_items rest) ++ after)) m → ((m.link.session ≡ t) ⊎ (mark t m ≡ [])) → snt t ++ mark t m ≡ []
    put_unsent t b o (inl x) = absurd (omega (arith, b, ap (λ k. k.0) x, c.below m.link o.known))
    put_unsent t b o (inr z) = ap (λ y. y ++ mark t m) (c.unsent t b) ∙ z

-- where no two messages have the same link after a put, there was none on the link before it
pub put_free : (before after : List Item) (p : Proc) (m : Msg) (s : Side) (rest : Option Proc) → AreApart (before ++ (put_beside s m (rest_items rest) ++ after)) → on m.link (before ++ (P p ∷ after)) ≡ 0
put_free before after p m Client None a = omega (arith, a m.link, hit_self m.link, on-append before (M m ∷ after) m.link, on-append before (P p ∷ after) m.link)
put_free before after p m Client (Some q) a = omega (arith, a m.link, hit_self m.link, on-append before (M m ∷ P q ∷ after) m.link, on-append before (P p ∷ after) m.link)
put_free before after p m Provider None a = omega (arith, a m.link, hit_self m.link, on-append before (M m ∷ after) m.link, on-append before (P p ∷ after) m.link)
put_free before after p m Provider (Some q) a = omega (arith, a m.link, hit_self m.link, on-append before (P q ∷ M m ∷ after) m.link, on-append before (P p ∷ after) m.link)
