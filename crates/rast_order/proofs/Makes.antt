-- A spawn, and a step of a process alone, keep what is known of a list of items.
use Rattle.std.proofs.Common.{◌≡◌, ℕ, zero, suc, ◌≤◌, ◌<◌, ◌+◌, List, [], ◌∷◌, ◌++◌, ◌⊎◌, inl, inr, arith, refl, sym, ap, ◌∙◌}
use Rattle.rast_items.specs.Items.{hit, provided}
use Rattle.rast_items.specs.Run.{Sent}
use Rattle.rast_order.proofs.Words.{Link, Pid, Item, P, Proc}
use Rattle.rast_order.proofs.Counts.{provided-append, on-append, hit_cases}
use Rattle.rast_order.proofs.Deeds.{MakeSound, SameLinks}
use Rattle.rast_order.proofs.Messages.{each_left, each_right, each_append}
use Rattle.rast_order.proofs.Keeps.{make_case, stay_case}
use Rattle.rast_order.proofs.Queue.{keep_queue}
use Rattle.rast_order.proofs.Sound.{Sound}

pub make_sound : (root : Link) (many : ℕ) (snt tkn : Pid → List Sent) (before after : List Item) (p child rest : Proc) → MakeSound many p child rest → Sound root many snt tkn (before ++ (P p ∷ after)) → Sound root (many + 1) snt tkn (before ++ (P rest ∷ P child ∷ after))
make_sound root many snt tkn before after p child rest d c =
    let old : List Item = before ++ (P p ∷ after) in
    let new : List Item = before ++ (P rest ∷ P child ∷ after) in
    let gives : (l : Link) → provided l new ≡ provided l old + hit l child.own = λ l. omega (arith, provided-append before (P p ∷ after) l, provided-append before (P rest ∷ P child ∷ after) l, ap (hit l) d.own) in
    let s : child.own.session.0 ≡ many = ap (λ x. x.session.0) d.child_own in
    let i : child.own.index ≡ 0 = ap (λ x. x.index) d.child_own in
    record {
      config = make_case root before after p child rest many d c.config (none (provided child.own old) refl s);
      queue = keep_queue snt tkn old new c.queue (λ l. omega (arith, on-append before (P p ∷ after) l, on-append before (P rest ∷ P child ∷ after) l)) (λ l. new_link l (gives l) s i (hit_cases l child.own)) (λ Q h. each_append Q before (P rest ∷ P child ∷ after) (each_left Q before (P p ∷ after) h) (each_right Q before (P p ∷ after) h));
      below = λ l h. new_below l (gives l) s h (hit_cases l child.own);
      unsent = λ t h. c.unsent t (omega (arith, h));
    }
  where
    none : (n : ℕ) → provided child.own (before ++ (P p ∷ after)) ≡ n → child.own.session.0 ≡ many → n ≡ 0
    none zero e s = refl
    none (suc n) e s = absurd (omega (arith, s, c.below child.own (omega (arith, e))))

    new_link : (l : Link) → provided l (before ++ (P rest ∷ P child ∷ after)) ≡ provided l (before ++ (P p ∷ after)) + hit l child.own → child.own.session.0 ≡ many → child.own.index ≡ 0 → ((child.own ≡ l) ⊎ (hit l child.own ≡ 0)) → (provided l (before ++ (P rest ∷ P child ∷ after)) ≤ provided l (before ++ (P p ∷ after))) ⊎ ((l.index ≡ 0) × (snt l.session ≡ []))
    new_link l g s i (inl x) = inr (sym (ap (λ y. y.index) x) ∙ i, c.unsent l.session (omega (arith, s, ap (λ y. y.session.0) x)))
    new_link l g s i (inr z) = inl (omega (arith, g, z))

    new_below : (l : Link) → provided l (before ++ (P rest ∷ P child ∷ after)) ≡ provided l (before ++ (P p ∷ after)) + hit l child.own → child.own.session.0 ≡ many → 1 ≤ provided l (before ++ (P rest ∷ P child ∷ after)) → ((child.own ≡ l) ⊎ (hit l child.own ≡ 0)) → l.session.0 < many + 1
    new_below l g s h (inl x) = omega (arith, s, ap (λ y. y.session.0) x)
    new_below l g s h (inr z) = omega (arith, c.below l (omega (arith, h, g, z)))

pub stay_sound : (root : Link) (many : ℕ) (snt tkn : Pid → List Sent) (before after : List Item) (p rest : Proc) → SameLinks p rest → Sound root many snt tkn (before ++ (P p ∷ after)) → Sound root many snt tkn (before ++ (P rest ∷ after))
stay_sound root many snt tkn before after p rest s c =
    let old : List Item = before ++ (P p ∷ after) in
    let new : List Item = before ++ (P rest ∷ after) in
    let gives : (l : Link) → provided l new ≡ provided l old = λ l. omega (arith, provided-append before (P p ∷ after) l, provided-append before (P rest ∷ after) l, ap (hit l) s.own) in
    record {
      config = stay_case root before after p rest s c.config;
      queue = keep_queue snt tkn old new c.queue (λ l. omega (arith, on-append before (P p ∷ after) l, on-append before (P rest ∷ after) l)) (λ l. inl (omega (arith, gives l))) (λ Q x. each_append Q before (P rest ∷ after) (each_left Q before (P p ∷ after) x) (each_right Q before (P p ∷ after) x));
      below = λ l x. c.below l (omega (arith, x, gives l));
      unsent = c.unsent;
    }
