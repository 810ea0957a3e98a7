-- The messages of a session that wait are those that were sent and not taken yet.
use Rattle.std.proofs.Common.{◌≡◌, ℕ, pred, Bool, true, false, ◌≤◌, ◌<◌, ◌+◌, List, [], ◌∷◌, ◌++◌, ◌⊎◌, Some, map, inl, inr, arith, refl, sym, ap, ◌∙◌, slice_get, subst, length, append_assoc, append-nil, length-append, if◌then◌else◌}
use Rattle.std.proofs.lemmas.Option.{slice_get_within}
use Rattle.rast_items.specs.Items.{after_link, same_pid, hit, provided}
use Rattle.rast_items.specs.Run.{Entry, Sent, on_session, AreNumbered}
use Rattle.rast_order.proofs.Words.{Link, Pid, Item, Msg, Client, End}
use Rattle.rast_order.proofs.Counts.{on, same_pid_is, link_is, hit_of, hit_cases}
use Rattle.rast_order.proofs.Messages.{Each, each_map, each_both, each_off, get_left, get_last, get_seam, no_get}

-- a message's link, body and moment
abbrev pub stamp : Msg → Sent
stamp m = record { entry = record { link = m.link; body = m.body }; moment = m.moment }

-- the same, where it is on this session
abbrev pub mark : Pid → Msg → List Sent
mark s m = on_session s m.link m.body m.moment

abbrev pub entries : List Sent → List Entry
entries xs = map (λ x. x.entry) xs

abbrev pub Begins : List Sent → List Sent → Type 0
Begins xs ys = (rest : List Sent) × (xs ++ rest ≡ ys)

same_pid_self : (s : Pid) → same_pid s s ≡ true
same_pid_self s = grind arith

pub mark_same : (s : Pid) (m : Msg) → m.link.session ≡ s → mark s m ≡ stamp m ∷ []
mark_same s m e = ap (λ (b : Bool). if b then stamp m ∷ [] else []) (ap (λ (x : Pid). same_pid x s) e ∙ same_pid_self s)

pub mark_cases : (s : Pid) (m : Msg) → (m.link.session ≡ s) ⊎ (mark s m ≡ [])
mark_cases s m = pick (same_pid m.link.session s) refl
  where
    pick : (b : Bool) → same_pid m.link.session s ≡ b → (m.link.session ≡ s) ⊎ (mark s m ≡ [])
    pick true e = inl (same_pid_is m.link.session s e)
    pick false e = inr (ap (λ (b : Bool). if b then stamp m ∷ [] else []) e)

-- ---- what is known of the messages

abbrev pub Waiting : (Pid → List Sent) → (Pid → List Sent) → Msg → Type 0
Waiting snt tkn m = (length (tkn m.link.session) ≤ m.link.index) × (slice_get (snt m.link.session) m.link.index ≡ Some (stamp m))

-- where the next link is provided, it is the message's
abbrev pub Chained : List Item → Msg → Type 0
Chained items m = 1 ≤ provided (after_link m.link) items → m.next ≡ after_link m.link

-- an end goes to the client, and no further
abbrev pub EndsUp : Msg → Type 0
EndsUp m = m.body ≡ End → (m.toward ≡ Client) × (m.next ≡ m.link)

pub record Queue (snt tkn : Pid → List Sent) (items : List Item) : Type 0 where
  pub prefixes : (s : Pid) → Begins (tkn s) (snt s)
  pub numbered : (s : Pid) → AreNumbered s 0 (entries (snt s))
  pub waiting : Each (Waiting snt tkn) items
  pub present : (l : Link) → length (tkn l.session) ≤ l.index → l.index < length (snt l.session) → 1 ≤ on l items
  pub reach : (l : Link) → 1 ≤ provided l items → (length (tkn l.session) ≤ l.index) × (l.index ≤ length (snt l.session))
  pub chained : Each (Chained items) items
  pub ends : Each EndsUp items

-- ---- lists with one more

pub grown_same : (s : Pid) (m : Msg) (xs : List Sent) → m.link.session ≡ s → length (xs ++ mark s m) ≡ length xs + 1
grown_same s m xs e = ap (λ y. length (xs ++ y)) (mark_same s m e) ∙ length-append xs (stamp m ∷ [])

pub grown_other : (s : Pid) (m : Msg) (xs : List Sent) → mark s m ≡ [] → length (xs ++ mark s m) ≡ length xs
grown_other s m xs e = ap (λ y. length (xs ++ y)) e ∙ ap length (append-nil xs)

pub grown_le : (s : Pid) (m : Msg) (xs : List Sent) → length xs ≤ length (xs ++ mark s m)
grown_le s m xs = omega (arith, length-append xs (mark s m))

abbrev at_index : Pid → ℕ → Link
at_index s i = record { session = s; index = i }

numbered_more : (s : Pid) (k : ℕ) (xs : List Sent) (x : Sent) → AreNumbered s k (entries xs) → x.entry.link ≡ at_index s (k + length xs) → AreNumbered s k (entries (xs ++ x ∷ []))
numbered_more s k [] x h q = (q ∙ ap (at_index s) (omega arith), tt)
numbered_more s k (y ∷ xs) x h q = (h.0, numbered_more s (k + 1) xs x h.1 (q ∙ ap (at_index s) (omega arith)))

-- one more that was sent
prefix_sent : (xs ys zs : List Sent) → Begins xs ys → Begins xs (ys ++ zs)
prefix_sent xs ys zs p = (p.0 ++ zs, sym (append_assoc xs p.0 zs) ∙ ap (λ v. v ++ zs) p.1)

-- the first that wasn't taken is taken
prefix_taken : (xs rest ys : List Sent) (x : Sent) → xs ++ rest ≡ ys → slice_get ys (length xs) ≡ Some x → Begins (xs ++ x ∷ []) ys
prefix_taken xs [] ys x p h =
    let q : slice_get (xs ++ []) (length xs) ≡ Some x = ap (λ v. slice_get v (length xs)) p ∙ h in
    absurd (no_get 0 x (sym (get_seam xs x []) ∙ q))
prefix_taken xs (r ∷ rest) ys x p h =
    let q : slice_get (xs ++ (r ∷ rest)) (length xs) ≡ Some x = ap (λ v. slice_get v (length xs)) p ∙ h in
    let k : Some r ≡ Some x = sym (get_seam xs x (r ∷ rest)) ∙ q in
    let same : r ≡ x = cc in
    (rest, append_assoc xs (x ∷ []) rest ∙ (ap (λ v. xs ++ (v ∷ rest)) (sym same) ∙ p))

-- ---- a message is put

-- what a put does to the lists
pub record PutOn (old new : List Item) (m : Msg) : Type 1 where
  pub count : (l : Link) → on l new ≡ on l old + hit l m.link
  pub free : on m.link old ≡ 0
  pub known : 1 ≤ provided m.link old
  pub gives : (l : Link) → provided l new ≤ provided l old + hit l (after_link m.link)
  pub next : (m.next ≡ after_link m.link) ⊎ ((l : Link) → provided l new ≤ provided l old)
  pub each : (Q : Msg → Type 0) → Each Q old → Q m → Each Q new
  pub end : EndsUp m

-- a message is put on the link whose index is the number of messages sent so far
pub put_at_end : (snt tkn : Pid → List Sent) (old new : List Item) (m : Msg) → Queue snt tkn old → PutOn old new m → m.link.index ≡ length (snt m.link.session)
put_at_end snt tkn old new m q p =
    let r = q.reach m.link p.known in
    let h : m.link.index < length (snt m.link.session) → 1 ≤ on m.link old = q.present m.link r.0 in
    let f : on m.link old ≡ 0 = p.free in
    grind (arith, r, h, f)

put_numbered : (s : Pid) (m : Msg) (xs : List Sent) → AreNumbered s 0 (entries xs) → (m.link.session ≡ s → m.link.index ≡ length xs) → AreNumbered s 0 (entries (xs ++ mark s m))
put_numbered s m xs h at = pick (mark_cases s m)
  where
    pick : (m.link.session ≡ s) ⊎ (mark s m ≡ []) → AreNumbered s 0 (entries (xs ++ mark s m))
    pick (inl e) =
        let k : m.link.index ≡ 0 + length xs = at e ∙ omega arith in
        let n : AreNumbered s 0 (entries (xs ++ stamp m ∷ [])) = numbered_more s 0 xs (stamp m) h (link_is m.link (at_index s (0 + length xs)) e k) in
        subst (λ y. AreNumbered s 0 (entries (xs ++ y))) (sym (mark_same s m e)) n
    pick (inr e) = subst (λ y. AreNumbered s 0 (entries (xs ++ y))) (sym e) (subst (λ y. AreNumbered s 0 (entries y)) (sym (append-nil xs)) h)

put_present : (snt tkn : Pid → List Sent) (old new : List Item) (m : Msg) → Queue snt tkn old → PutOn old new m → m.link.index ≡ length (snt m.link.session) → (l : Link) → length (tkn l.session) ≤ l.index → l.index < length (snt l.session ++ mark l.session m) → 1 ≤ on l new
put_present snt tkn old new m q p at l t h = pick (mark_cases l.session m)
  where
    here : (m.link.session ≡ l.session) → (l.index < length (snt l.session)) ⊎ (l.index ≡ length (snt l.session)) → 1 ≤ on l new
    here e (inl b) = omega (arith, q.present l t b, p.count l)
    here e (inr b) =
        let same : m.link ≡ l = link_is m.link l e (at ∙ (ap (λ s. length (snt s)) e ∙ sym b)) in
        omega (arith, p.count l, hit_of l m.link same)

    below : (n k : ℕ) → n < k + 1 → (n < k) ⊎ (n ≡ k)
    below n k b = grind arith

    pick : (m.link.session ≡ l.session) ⊎ (mark l.session m ≡ []) → 1 ≤ on l new
    pick (inl e) = here e (below l.index (length (snt l.session)) (omega (arith, h, grown_same l.session m (snt l.session) e)))
    pick (inr e) = omega (arith, p.count l, q.present l t (omega (arith, h, grown_other l.session m (snt l.session) e)))

put_reach : (snt tkn : Pid → List Sent) (old new : List Item) (m : Msg) → Queue snt tkn old → PutOn old new m → m.link.index ≡ length (snt m.link.session) → (l : Link) → 1 ≤ provided l new → (length (tkn l.session) ≤ l.index) × (l.index ≤ length (snt l.session ++ mark l.session m))
put_reach snt tkn old new m q p at l h = pick (hit_cases l (after_link m.link))
  where
    pick : (after_link m.link ≡ l) ⊎ (hit l (after_link m.link) ≡ 0) → (length (tkn l.session) ≤ l.index) × (l.index ≤ length (snt l.session ++ mark l.session m))
    pick (inl e) =
        let r = q.reach m.link p.known in
        let s : m.link.session ≡ l.session = ap (λ k. k.session) e in
        let i : m.link.index + 1 ≡ l.index = ap (λ k. k.index) e in
        ((omega (arith, r.0, i, ap (λ k. length (tkn k)) s)), (omega (arith, i, at, ap (λ k. length (snt k)) s, grown_same l.session m (snt l.session) s)))
    pick (inr z) =
        let r = q.reach l (omega (arith, h, p.gives l, z)) in
        (r.0, (omega (arith, r.1, grown_le l.session m (snt l.session))))

put_old_chain : (old new : List Item) (m k : Msg) → PutOn old new m → Chained old k → hit m.link k.link ≡ 0 → Chained new k
put_old_chain old new m k p c z h = pick (hit_cases (after_link k.link) (after_link m.link))
  where
    pick : (after_link m.link ≡ after_link k.link) ⊎ (hit (after_link k.link) (after_link m.link) ≡ 0) → k.next ≡ after_link k.link
    pick (inl e) =
        let i : m.link.index + 1 ≡ k.link.index + 1 = ap (λ x. x.index) e in
        let same : k.link ≡ m.link = link_is k.link m.link (sym (ap (λ x. x.session) e)) (omega (arith, i)) in
        absurd (omega (arith, z, hit_of m.link k.link same))
    pick (inr o) = c (omega (arith, h, p.gives (after_link k.link), o))

put_new_chain : (snt tkn : Pid → List Sent) (old new : List Item) (m : Msg) → Queue snt tkn old → PutOn old new m → m.link.index ≡ length (snt m.link.session) → Chained new m
put_new_chain snt tkn old new m q p at h = pick p.next
  where
    pick : (m.next ≡ after_link m.link) ⊎ ((l : Link) → provided l new ≤ provided l old) → m.next ≡ after_link m.link
    pick (inl e) = e
    pick (inr f) = let r = q.reach (after_link m.link) (omega (arith, h, f (after_link m.link))) in absurd (omega (arith, r.1, at))

put_last : (snt : Pid → List Sent) (m : Msg) → m.link.index ≡ length (snt m.link.session) → slice_get (snt m.link.session ++ mark m.link.session m) m.link.index ≡ Some (stamp m)
put_last snt m at =
    ap (λ y. slice_get (snt m.link.session ++ y) m.link.index) (mark_same m.link.session m refl) ∙ (ap (slice_get (snt m.link.session ++ stamp m ∷ [])) at ∙ get_last (snt m.link.session) (stamp m))

pub put_queue : (snt tkn : Pid → List Sent) (old new : List Item) (m : Msg) → Queue snt tkn old → PutOn old new m → Queue (λ s. snt s ++ mark s m) tkn new
put_queue snt tkn old new m q p =
    let at = put_at_end snt tkn old new m q p in
    record {
      prefixes = λ s. prefix_sent (tkn s) (snt s) (mark s m) (q.prefixes s);
      numbered = λ s. put_numbered s m (snt s) (q.numbered s) (λ e. at ∙ ap (λ k. length (snt k)) e);
      waiting = p.each (Waiting (λ s. snt s ++ mark s m) tkn)
          (each_map (Waiting snt tkn) (Waiting (λ s. snt s ++ mark s m) tkn) (λ k w. (w.0, get_left (snt k.link.session) (mark k.link.session m) k.link.index _ w.1)) old q.waiting)
          ((q.reach m.link p.known).0, put_last snt m at);
      present = put_present snt tkn old new m q p at;
      reach = put_reach snt tkn old new m q p at;
      chained = p.each (Chained new)
          (each_map (λ k. Chained old k × (hit m.link k.link ≡ 0)) (Chained new) (λ k c. put_old_chain old new m k p c.0 c.1) old (each_both (Chained old) (λ k. hit m.link k.link ≡ 0) old q.chained (each_off m.link old p.free)))
          (put_new_chain snt tkn old new m q p at);
      ends = p.each EndsUp q.ends p.end;
    }

-- ---- a message is taken

-- what a take does to the lists
pub record TakeOff (old new : List Item) (m : Msg) : Type 1 where
  pub count : (l : Link) → on l new + hit l m.link ≡ on l old
  pub gives : (l : Link) → provided l new ≤ provided l old
  pub gone : provided m.link new ≡ 0
  pub free : on m.link new ≡ 0
  pub each : (Q : Msg → Type 0) → Each Q old → Each Q new
  pub first : (l : Link) → after_link l ≡ m.link → on l old ≡ 0

-- a message that is taken is the first that waits
pub take_at_front : (snt tkn : Pid → List Sent) (old new : List Item) (m : Msg) → Queue snt tkn old → Waiting snt tkn m → TakeOff old new m → length (tkn m.link.session) ≡ m.link.index
take_at_front snt tkn old new m q w p = pick (cases (length (tkn m.link.session)) m.link.index w.0)
  where
    cases : (t j : ℕ) → t ≤ j → (t ≡ j) ⊎ (t < j)
    cases t j h = grind arith

    pick : (length (tkn m.link.session) ≡ m.link.index) ⊎ (length (tkn m.link.session) < m.link.index) → length (tkn m.link.session) ≡ m.link.index
    pick (inl e) = e
    pick (inr b) =
        let l : Link = record { session = m.link.session; index = pred m.link.index } in
        let n : m.link.index < length (snt m.link.session) = slice_get_within (snt m.link.session) m.link.index _ w.1 in
        let one : 1 ≤ on l old = q.present l (omega (arith, b)) (omega (arith, n)) in
        let up : pred m.link.index + 1 ≡ m.link.index = omega (arith, b) in
        absurd (omega (arith, one, p.first l (link_is (after_link l) m.link refl up)))

take_prefix : (s : Pid) (snt tkn : Pid → List Sent) (m : Msg) → Begins (tkn s) (snt s) → length (tkn m.link.session) ≡ m.link.index → slice_get (snt m.link.session) m.link.index ≡ Some (stamp m) → Begins (tkn s ++ mark s m) (snt s)
take_prefix s snt tkn m h at g = pick (mark_cases s m)
  where
    pick : (m.link.session ≡ s) ⊎ (mark s m ≡ []) → Begins (tkn s ++ mark s m) (snt s)
    pick (inl e) =
        let k : slice_get (snt s) (length (tkn s)) ≡ Some (stamp m) = ap (λ x. slice_get (snt x) (length (tkn x))) (sym e) ∙ (ap (slice_get (snt m.link.session)) at ∙ g) in
        subst (λ y. Begins (tkn s ++ y) (snt s)) (sym (mark_same s m e)) (prefix_taken (tkn s) h.0 (snt s) (stamp m) h.1 k)
    pick (inr e) = subst (λ y. Begins (tkn s ++ y) (snt s)) (sym e) (subst (λ y. Begins y (snt s)) (sym (append-nil (tkn s))) h)

-- another link of the session that isn't before the first waiting one is behind it
behind : (tkn : Pid → List Sent) (m : Msg) (l : Link) → length (tkn m.link.session) ≡ m.link.index → length (tkn l.session) ≤ l.index → (m.link ≡ l → ⊥) → length (tkn l.session ++ mark l.session m) ≤ l.index
behind tkn m l at h other = pick (mark_cases l.session m)
  where
    cases : (t j : ℕ) → t ≤ j → (t ≡ j) ⊎ (t < j)
    cases t j h = grind arith

    here : m.link.session ≡ l.session → (length (tkn l.session) ≡ l.index) ⊎ (length (tkn l.session) < l.index) → length (tkn l.session ++ mark l.session m) ≤ l.index
    here e (inl i) = absurd (other (link_is m.link l e (sym at ∙ (ap (λ s. length (tkn s)) e ∙ i))))
    here e (inr i) = omega (arith, i, grown_same l.session m (tkn l.session) e)

    pick : (m.link.session ≡ l.session) ⊎ (mark l.session m ≡ []) → length (tkn l.session ++ mark l.session m) ≤ l.index
    pick (inl e) = here e (cases _ _ h)
    pick (inr e) = omega (arith, h, grown_other l.session m (tkn l.session) e)

pub take_queue : (snt tkn : Pid → List Sent) (old new : List Item) (m : Msg) → Queue snt tkn old → Waiting snt tkn m → TakeOff old new m → Queue snt (λ s. tkn s ++ mark s m) new
take_queue snt tkn old new m q w p =
    let at = take_at_front snt tkn old new m q w p in
    record {
      prefixes = λ s. take_prefix s snt tkn m (q.prefixes s) at w.1;
      numbered = q.numbered;
      waiting = each_map (λ k. Waiting snt tkn k × (hit m.link k.link ≡ 0)) (Waiting snt (λ s. tkn s ++ mark s m)) (λ k x. (behind tkn m k.link at x.0.0 (λ e. absurd (omega (arith, x.1, hit_of m.link k.link (sym e)))), x.0.1)) new (each_both (Waiting snt tkn) (λ k. hit m.link k.link ≡ 0) new (p.each (Waiting snt tkn) q.waiting) (each_off m.link new p.free));
      present = λ l t n. take_present l t n at;
      reach = λ l h. let r = q.reach l (omega (arith, h, p.gives l)) in (behind tkn m l at r.0 (λ e. no_gone l e h), r.1);
      chained = each_map (Chained old) (Chained new) (λ k c h. c (omega (arith, h, p.gives (after_link k.link)))) new (p.each (Chained old) q.chained);
      ends = p.each EndsUp q.ends;
    }
  where
    no_gone : (l : Link) → m.link ≡ l → 1 ≤ provided l new → ⊥
    no_gone l e h = let z : provided l new ≡ 0 = subst (λ x. provided x new ≡ 0) e p.gone in absurd (omega (arith, h, z))

    still : (l : Link) → length (tkn l.session ++ mark l.session m) ≤ l.index → length (tkn m.link.session) ≡ m.link.index → (m.link ≡ l) ⊎ (hit l m.link ≡ 0) → 1 ≤ on l old → 1 ≤ on l new
    still l t at (inl e) o = absurd (omega (arith, t, at, ap (λ k. k.index) e, ap (λ k. length (tkn k.session)) e, grown_same l.session m (tkn l.session) (ap (λ k. k.session) e)))
    still l t at (inr z) o = omega (arith, o, z, p.count l)

    take_present : (l : Link) → length (tkn l.session ++ mark l.session m) ≤ l.index → l.index < length (snt l.session) → length (tkn m.link.session) ≡ m.link.index → 1 ≤ on l new
    take_present l t n at = still l t at (hit_cases l m.link) (q.present l (omega (arith, t, grown_le l.session m (tkn l.session))) n)

-- ---- the messages stay

-- only the first link of a session without messages is new
pub keep_queue : (snt tkn : Pid → List Sent) (old new : List Item) → Queue snt tkn old → ((l : Link) → on l new ≡ on l old) → ((l : Link) → (provided l new ≤ provided l old) ⊎ ((l.index ≡ 0) × (snt l.session ≡ []))) → ((Q : Msg → Type 0) → Each Q old → Each Q new) → Queue snt tkn new
keep_queue snt tkn old new q n g each =
    record {
      prefixes = q.prefixes;
      numbered = q.numbered;
      waiting = each (Waiting snt tkn) q.waiting;
      present = λ l t h. omega (arith, q.present l t h, n l);
      reach = λ l h. at l h (g l);
      chained = each_map (Chained old) (Chained new) (λ k c h. chain k c h (g (after_link k.link))) new (each (Chained old) q.chained);
      ends = each EndsUp q.ends;
    }
  where
    at : (l : Link) → 1 ≤ provided l new → (provided l new ≤ provided l old) ⊎ ((l.index ≡ 0) × (snt l.session ≡ [])) → (length (tkn l.session) ≤ l.index) × (l.index ≤ length (snt l.session))
    at l h (inl x) = q.reach l (omega (arith, h, x))
    at l h (inr x) =
        let p = q.prefixes l.session in
        let e : length (tkn l.session) + length p.0 ≡ 0 = sym (length-append (tkn l.session) p.0) ∙ (ap length p.1 ∙ ap length x.1) in
        ((omega (arith, e)), (omega (arith, x.0)))

    chain : (k : Msg) → Chained old k → 1 ≤ provided (after_link k.link) new → (provided (after_link k.link) new ≤ provided (after_link k.link) old) ⊎ ((k.link.index + 1 ≡ 0) × (snt k.link.session ≡ [])) → k.next ≡ after_link k.link
    chain k c h (inl x) = c (omega (arith, h, x))
    chain k c h (inr x) = absurd (omega (arith, x.0))
