-- A value is printed link by link.
use Rattle.std.proofs.Common.{◌≡◌, ℕ, zero, suc, ◌+◌, ◌-◌, ◌<◌, ◌≤◌, Bool, true, List, [], ◌∷◌, ◌++◌, Option, Some, None, length, drop, sym, ◌∙◌, ap, ap₂, refl, arith, append_assoc, codes, subst, if◌then◌else◌}
use Rattle.rast_terms.specs.declared.program.Program.{Program}
use Rattle.rast_core.specs.Words.{Link, Item, P, M, Msg, Proc, Side, Client, Provider, Body, Label, End, Chan, Nat, Assert, Pay}
use Rattle.rast_core.specs.Shown.{Shown}
use Rattle.rast_core.specs.Handles.{rest, rest_of}
use Rattle.rast_core.specs.declared.handle.Handle.{Handle}
use Rattle.rast_core.specs.Promises.{IsGoing}
use Rattle.rast_core.proofs.SoundLemmas.{going_links}
use Rattle.rast_items.specs.Links.{same_link}
use Rattle.rast_items.specs.Items.{hit, times, uses, msg_uses}
use Rattle.rast_terms.specs.Texts.{Text}
use Rattle.rast_report.specs.Values.{value_from, message_text, process_text, is_client}
use Rattle.rast_report.specs.Waiting.{value_at, waiting_text, behind}
use Rattle.rast_report.specs.Providers.{is_at, found, handle_on, FindsAll}
use Rattle.rast_report.specs.declared.providers.Providers.{Providers}
use Rattle.rast_report.specs.Printed.{all_text, triple, left, weight, load, Advances, IsUsedBy, Goes, TurnsAt, GoesBack}
use Rattle.rast_report.specs.declared.printing.Turn.{Turn}
use Rattle.rast_report.specs.declared.printing.Turn.TheVariants as turn
use Rattle.rast_report.proofs.Finding.{hit_self, found_offers, value_found, IsBehind, used_behind}

nothing_more : (xs : Text) → xs ++ [] ≡ xs
nothing_more [] = refl
nothing_more (x ∷ xs) = ap (λ ys. x ∷ ys) (nothing_more xs)

-- ---- what is left

triple_some : (k : ℕ) → 1 ≤ triple k
triple_some zero = omega arith
triple_some (suc k) = let h : 1 ≤ triple k = triple_some k in omega (arith, h)

triple_sum : (d k : ℕ) → triple k ≤ triple (d + k)
triple_sum zero k = let z : 0 + k ≡ k = omega arith in let e : triple (0 + k) ≡ triple k = ap triple z in omega (arith, e)
triple_sum (suc d) k =
    let z : suc d + k ≡ suc (d + k) = omega arith in
    let e : triple (suc d + k) ≡ triple (d + k) + (triple (d + k) + triple (d + k)) = ap triple z in
    let h : triple k ≤ triple (d + k) = triple_sum d k in
    omega (arith, h, e)

triple_more : (j k : ℕ) → j ≤ k → triple j ≤ triple k
triple_more j k h = let e : k - j + j ≡ k = omega (arith, h) in subst (λ (n : ℕ). triple j ≤ triple n) e (triple_sum (k - j) j)

-- two later values are less
triple_two : (i j n : ℕ) → i < n → j < n → triple i + triple j < triple n
triple_two i j zero a b = absurd (omega (arith, a))
triple_two i j (suc n) a b =
    let h : triple i ≤ triple n = triple_more i n (omega (arith, a)) in
    let k : triple j ≤ triple n = triple_more j n (omega (arith, b)) in
    let s : 1 ≤ triple n = triple_some n in
    omega (arith, h, k, s)

triple_one : (i n : ℕ) → i < n → triple i < triple n
triple_one i n a = let h : triple i + triple i < triple n = triple_two i i n a a in omega (arith, h)

module _ (g : Program) (v : Shown) where
  weight_more : (ws : List Link) (w : Link) → weight v (ws ++ w ∷ []) ≡ weight v ws + left v w
  weight_more [] w = omega arith
  weight_more (x ∷ ws) w = let h : weight v (ws ++ w ∷ []) ≡ weight v ws + left v w = weight_more ws w in omega (arith, h)

  -- ---- texts that wait

  waits_more : (ws : List Link) (w : Link) → waiting_text g v (ws ++ w ∷ []) ≡ behind g v w ++ waiting_text g v ws
  waits_more [] w = sym (nothing_more (behind g v w))
  waits_more (x ∷ ws) w = ap (λ (t : Text). t ++ behind g v x) (waits_more ws w) ∙ append_assoc (behind g v w) (waiting_text g v ws) (behind g v x)

  -- what was written, and then a text that goes on with what was written and more
  written : (old new wrote all more : Text) → new ≡ old ++ wrote → all ≡ wrote ++ more → new ++ more ≡ old ++ all
  written old new wrote all more n e = ap (λ (t : Text). t ++ more) n ∙ append_assoc old wrote more ∙ ap (λ (t : Text). old ++ t) (sym e)

  -- the value goes on at another link
  pub next_advances : (old new : Text) (l k : Link) (ws : List Link) → TurnsAt g v old new l (turn.Next k) → Advances g v old new ws ws l (Some k)
  next_advances old new l k ws t =
      let less : left v k < left v l = triple_one (length (found v.items k)) (length (found v.items l)) t.2.1 in
      (ap (λ (x : Text). x ++ waiting_text g v ws) (written old new t.0 (value_at g v l) (value_at g v k) t.1 t.2.0), omega (arith, less))

  -- a sent channel's value comes first
  goes_in : (old new wrote : Text) (l k n : Link) (ws : List Link) → new ≡ old ++ wrote → value_at g v l ≡ wrote ++ (value_at g v k ++ behind g v n) →
      all_text g v new k (ws ++ n ∷ []) ≡ all_text g v old l ws
  goes_in old new wrote l k n ws m e =
      let b = behind g v n in
      let x = value_at g v k in
      let r = waiting_text g v ws in
      ap (λ (t : Text). (new ++ x) ++ t) (waits_more ws n)
      ∙ sym (append_assoc (new ++ x) b r)
      ∙ ap (λ (t : Text). t ++ r) (append_assoc new x b ∙ written old new wrote (value_at g v l) (x ++ b) m e)

  pub sent_advances : (old new : Text) (l k n : Link) (ws after : List Link) → TurnsAt g v old new l (turn.Sent k n) → after ≡ ws ++ n ∷ [] → Advances g v old new ws after l (Some k)
  sent_advances old new l k n ws after t s =
      let less : left v k + left v n < left v l = triple_two (length (found v.items k)) (length (found v.items n)) (length (found v.items l)) t.2.1 t.2.2 in
      subst (λ (ys : List Link). Advances g v old new ws ys l (Some k)) (sym s)
      (goes_in old new t.0 l k n ws t.1 t.2.0, omega (arith, less, weight_more ws n))

  -- the value ends, and none waits
  ends_all : (old mid new wrote : Text) (l : Link) (before : List Link) → mid ≡ old ++ wrote → value_at g v l ≡ wrote → before ≡ [] → new ≡ mid → new ≡ all_text g v old l before
  ends_all old mid new wrote l before m e b n =
      n ∙ m ∙ ap (λ (t : Text). old ++ t) (sym e) ∙ sym (nothing_more (old ++ value_at g v l)) ∙ ap (λ (ws : List Link). (old ++ value_at g v l) ++ waiting_text g v ws) (sym b)

  -- the value ends, and the last one that waits goes on
  ends_one : (old mid new wrote : Text) (l : Link) (before after : List Link) (w : Link) → mid ≡ old ++ wrote → value_at g v l ≡ wrote → before ≡ after ++ w ∷ [] → new ≡ mid ++ codes ") . " →
      all_text g v new w after ≡ all_text g v old l before
  ends_one old mid new wrote l before after w m e b n =
      let x = value_at g v w in
      let r = waiting_text g v after in
      ap (λ (t : Text). (t ++ x) ++ r) n
      ∙ ap (λ (t : Text). t ++ r) (append_assoc mid (codes ") . ") x)
      ∙ append_assoc mid (behind g v w) r
      ∙ ap (λ (t : Text). mid ++ t) (sym (waits_more after w))
      ∙ ap₂ (λ (s : Text) (ws : List Link). s ++ waiting_text g v ws) (m ∙ ap (λ (t : Text). old ++ t) (sym e)) (sym b)

  back_less : (l : Link) (before after : List Link) (w : Link) → before ≡ after ++ w ∷ [] → load v w after < load v l before
  back_less l before after w b = let e : weight v before ≡ weight v (after ++ w ∷ []) = ap (weight v) b in omega (arith, e, weight_more after w, triple_some (length (found v.items l)))

  pub end_advances : (old mid new : Text) (l : Link) (before after : List Link) (next : Option Link) → TurnsAt g v old mid l turn.Ends → GoesBack mid new before after next → Advances g v old new before after l next
  end_advances old mid new l before after None t b = ends_all old mid new t.0 l before t.1 t.2 b.0 b.1
  end_advances old mid new l before after (Some w) t b = (ends_one old mid new t.0 l before after w t.1 t.2 b.0 b.1, back_less l before after w b.0)

  -- ---- what stands at a link

  value_here : (l : Link) (xs : List Item) → found v.items l ≡ xs → value_at g v l ≡ value_from g v xs l
  value_here l xs f = value_found g v v.items l ∙ ap (λ (is : List Item). value_from g v is l) f

  -- no value stands there
  pub none_stands : (t : Providers) (o : Option Handle) (old new : Text) (l : Link) → FindsAll t v → o ≡ handle_on t l → ((h : Handle) → o ≡ Some h → ⊥) → new ≡ old ++ codes "..." → TurnsAt g v old new l turn.Ends
  none_stands t None old new l f e h n =
      let none : found v.items l ≡ [] = sym (f l).0 ∙ ap (rest_of v) (sym e) in
      (codes "...", n, value_here l [] none)
  none_stands t (Some q) old new l f e h n = absurd (h q refl)

  -- the item that is read at its handle is the first that is found
  pub stands_at : (t : Providers) (o : Option Handle) (l : Link) (h : Handle) (i j : Item) → FindsAll t v → o ≡ handle_on t l → o ≡ Some h → rest v h ≡ i ∷ drop 1 (rest v h) → i ≡ j → found v.items l ≡ j ∷ drop 1 (rest v h)
  stands_at t o l h i j f e s r k = sym (f l).0 ∙ (ap (rest_of v) (sym e ∙ s) ∙ (r ∙ ap (λ (x : Item). x ∷ drop 1 (rest v h)) k))

  offered_by : (p : Proc) (l : Link) (is : List Item) → found v.items l ≡ P p ∷ is → same_link p.own l ≡ true
  offered_by p l is f = found_offers v.items l (P p) is f

  pub process_stands : (p : Proc) (old new wrote : Text) (l : Link) (is : List Item) → found v.items l ≡ P p ∷ is → wrote ≡ process_text g v p → new ≡ old ++ wrote → TurnsAt g v old new l turn.Ends
  process_stands p old new wrote l is f w n =
      (wrote, n, value_here l (P p ∷ is) f ∙ (ap (λ (b : Bool). if b then process_text g v p else value_from g v is l) (offered_by p l is f) ∙ sym w))

  to_client : (s : Side) (l k : Link) → is_at (if is_client s then Some k else None) l ≡ true → (s ≡ Client) × (same_link k l ≡ true)
  to_client Client l k h = (refl, h)
  to_client Provider l k h = cc

  used_here : (m : Msg) (k : Link) → m.toward ≡ Client → IsUsedBy m k → 1 ≤ times k (uses (M m))
  used_here m k c u = subst (λ (s : Side). 1 ≤ times k (msg_uses s m)) (sym c) u

  pub message_stands : (m : Msg) (old new : Text) (l : Link) (t : Turn) (is : List Item) → IsGoing g v → found v.items l ≡ M m ∷ is → Goes g m old new t → TurnsAt g v old new l t
  message_stands m old new l t is going f goes = by t goes
    where
      client : (m.toward ≡ Client) × (same_link m.link l ≡ true)
      client = to_client m.toward l m.link (found_offers v.items l (M m) is f)

      value_is : value_at g v l ≡ message_text g m.body m.potential (value_from g v is) m.next
      value_is = value_here l (M m ∷ is) f ∙ rw (client.0, client.1) refl

      later : (k : Link) → IsUsedBy m k → IsBehind g v l k is
      later k u = used_behind g v l k (M m) is (going_links g v going) f (used_here m k client.0 u)

      by : (t : Turn) → Goes g m old new t → TurnsAt g v old new l t
      by turn.Ends goes = (goes.0, goes.1, value_is ∙ goes.2 (value_from g v is))
      by (turn.Next k) goes =
          let b = later k goes.3 in
          (goes.0, goes.1, (value_is ∙ (goes.2 (value_from g v is) ∙ ap (λ (x : Text). goes.0 ++ x) b.same), b.later))
      by (turn.Sent k n) goes =
          let b = later k goes.3.0 in
          let c = later n goes.3.1 in
          let e = value_is ∙ (goes.2 (value_from g v is) ∙ ap₂ (λ (x y : Text). goes.0 ++ (x ++ (codes ") . " ++ y))) b.same c.same) in
          (goes.0, goes.1, (e, b.later, c.later))

-- ---- links that a message uses

pub uses_next : (m : Msg) → (m.body ≡ End → ⊥) → IsUsedBy m m.next
uses_next m h = by m.body refl
  where
    by : (b : Body) → m.body ≡ b → IsUsedBy m m.next
    by (Label x) e = rw e (let s : hit m.next m.next ≡ 1 = hit_self m.next in omega (arith, s))
    by End e = absurd (h e)
    by (Chan k) e = rw e (let s : hit m.next m.next ≡ 1 = hit_self m.next in omega (arith, s))
    by (Nat n) e = rw e (let s : hit m.next m.next ≡ 1 = hit_self m.next in omega (arith, s))
    by Assert e = rw e (let s : hit m.next m.next ≡ 1 = hit_self m.next in omega (arith, s))
    by Pay e = rw e (let s : hit m.next m.next ≡ 1 = hit_self m.next in omega (arith, s))

pub uses_sent : (m : Msg) (k : Link) → m.body ≡ Chan k → IsUsedBy m k
uses_sent m k e = rw e (let s : hit k k ≡ 1 = hit_self k in omega (arith, s))
