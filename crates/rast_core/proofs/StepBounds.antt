-- What a step keeps of the bounds of a list of items.
use Rattle.std.proofs.Common.{◌≡◌, ℕ, true, cond, ◌+◌, ◌^◌, ◌<◌, ◌≤◌, List, [], ◌∷◌, ◌++◌, Option, Some, None, refl, sym, ap, ◌∙◌, subst, arith, length, get_or, append_assoc}
use Rattle.std.specs.Prelude.{All}
use Rattle.std.proofs.lemmas.List.{get_or_append_left, get_or-append-add, length-append}
use Rattle.std.proofs.lemmas.List.Elements.{All-head, All-tail, All-cons, All-append, All-nil}
use Rattle.std.proofs.lemmas.Bool.{eqb-true}
use Rattle.rast_core.specs.Words.{Link, Pid, Side, Client, Provider, Body, End, Msg, Item, P, M, Proc, Event, Send, Take, Move, Spawn, Call, Work, Delay}
use Rattle.rast_items.specs.Items.{same_pid, pid_at, total, held, potential_of}
use Rattle.rast_items.specs.Deeds.{Code, Deed, Puts, Takes, Moves, Makes, Turns, Works, Delays, Halts, Breaks, deed, after_take}
use Rattle.rast_items.specs.Step.{Cut, cut, is_proc, is_msg, rest_items, put_beside, Ready, take_it, take_from, take_client, take_provider, take_side, move_it, move_provider, move_client, moved, moved_next, does, at_item, at_cut, step}
use Rattle.rast_items.specs.Run.{pid_of, numbered_as, work_by}
use Rattle.rast_items.specs.Slack.{IsOpen, IsSlack, IsItemSlack}
use Rattle.rast_core.proofs.Cuts.{cut_is}
use Rattle.rast_core.proofs.DeedBounds.{weaker_open, weaker_item, Goes, MakesOne, DeedKeeps, deed_keeps}
use Rattle.rast_core.proofs.TakeBounds.{Took, taken_keeps}

-- whether an event makes the process with this number, where the next child has the number k
abbrev pub born_as : ℕ → Pid → Event → ℕ
born_as k j (Spawn pid child d moment) = cond (same_pid (pid_at k) j) 1 0
born_as k j e = 0

pub record StepHolds (s k : ℕ) (pid : Pid) (items new : List Item) (e : Event) : Type 0 where
  pub by : pid_of e ≡ pid
  pub each : All (IsItemSlack s) new
  pub potential : work_by e + held new ≤ held items
  pub numbers : (j : Pid) → total (numbered_as j) new ≤ total (numbered_as j) items + born_as k j e

-- ---- lists

pub total-append : (w : Item → ℕ) (xs ys : List Item) → total w (xs ++ ys) ≡ total w xs + total w ys
total-append w [] ys = omega arith
total-append w (x ∷ xs) ys = omega (arith, total-append w xs ys)

all_left : (Q : Item → Type 0) (xs ys : List Item) → All Q (xs ++ ys) → All Q xs
all_left Q xs ys a = λ k d l. subst Q (get_or_append_left xs ys d k l) (a k d (omega (arith, length-append xs ys, l)))

all_right : (Q : Item → Type 0) (xs ys : List Item) → All Q (xs ++ ys) → All Q ys
all_right Q xs ys a = λ k d l. subst Q (get_or-append-add xs ys k d) (a (length xs + k) d (omega (arith, length-append xs ys, l)))

-- some items for one
all_for_one : (Q : Item → Type 0) (before mid after : List Item) (x : Item) → All Q (before ++ (x ∷ after)) → All Q mid → All Q (before ++ (mid ++ after))
all_for_one Q before mid after x a m = All-append Q before (mid ++ after) (all_left Q before (x ∷ after) a) (All-append Q mid after m (All-tail Q x after (all_right Q before (x ∷ after) a)))

weight_for_one : (w : Item → ℕ) (before mid after : List Item) (x : Item) (a b : ℕ) → a + total w mid ≤ w x + b → a + total w (before ++ (mid ++ after)) ≤ total w (before ++ (x ∷ after)) + b
weight_for_one w before mid after x a b h = omega (arith, total-append w before (mid ++ after), total-append w mid after, total-append w before (x ∷ after), h)

-- one item for two, in the place of the first or of the second
all_first : (Q : Item → Type 0) (before between after : List Item) (x y z : Item) → All Q (before ++ (x ∷ (between ++ (y ∷ after)))) → Q z → All Q (before ++ (z ∷ (between ++ after)))
all_first Q before between after x y z a h =
    let r = All-tail Q x (between ++ (y ∷ after)) (all_right Q before (x ∷ (between ++ (y ∷ after))) a) in
    All-append Q before (z ∷ (between ++ after)) (all_left Q before (x ∷ (between ++ (y ∷ after))) a)
    (All-cons Q z (between ++ after) h (All-append Q between after (all_left Q between (y ∷ after) r) (All-tail Q y after (all_right Q between (y ∷ after) r))))

all_second : (Q : Item → Type 0) (before between after : List Item) (x y z : Item) → All Q (before ++ (x ∷ (between ++ (y ∷ after)))) → Q z → All Q (before ++ (between ++ (z ∷ after)))
all_second Q before between after x y z a h =
    let r = All-tail Q x (between ++ (y ∷ after)) (all_right Q before (x ∷ (between ++ (y ∷ after))) a) in
    All-append Q before (between ++ (z ∷ after)) (all_left Q before (x ∷ (between ++ (y ∷ after))) a)
    (All-append Q between (z ∷ after) (all_left Q between (y ∷ after) r) (All-cons Q z after h (All-tail Q y after (all_right Q between (y ∷ after) r))))

weight_first : (w : Item → ℕ) (before between after : List Item) (x y z : Item) → w z ≤ w x + w y → total w (before ++ (z ∷ (between ++ after))) ≤ total w (before ++ (x ∷ (between ++ (y ∷ after))))
weight_first w before between after x y z h = omega (arith, total-append w before (z ∷ (between ++ after)), total-append w between after, total-append w before (x ∷ (between ++ (y ∷ after))), total-append w between (y ∷ after), h)

weight_second : (w : Item → ℕ) (before between after : List Item) (x y z : Item) → w z ≤ w x + w y → total w (before ++ (between ++ (z ∷ after))) ≤ total w (before ++ (x ∷ (between ++ (y ∷ after))))
weight_second w before between after x y z h = omega (arith, total-append w before (between ++ (z ∷ after)), total-append w between (z ∷ after), total-append w before (x ∷ (between ++ (y ∷ after))), total-append w between (y ∷ after), h)

-- ---- what a step shows

pub ready_event : (e f : Event) (xs ys : List Item) → Ready e xs ≡ Ready f ys → e ≡ f
ready_event e f xs ys h = cc

pub ready_items : (e f : Event) (xs ys : List Item) → Ready e xs ≡ Ready f ys → xs ≡ ys
ready_items e f xs ys h = cc

holds_ready : (s k : ℕ) (pid : Pid) (items : List Item) (e f : Event) (xs ys : List Item) → Ready e xs ≡ Ready f ys → StepHolds s k pid items xs e → StepHolds s k pid items ys f
holds_ready s k pid items e f xs ys h t = subst (λ (x : Event). StepHolds s k pid items ys x) (ready_event e f xs ys h) (subst (λ (zs : List Item). StepHolds s k pid items zs e) (ready_items e f xs ys h) t)

weaker_items : (s : ℕ) (items : List Item) → All (IsItemSlack (s + 1)) items → All (IsItemSlack s) items
weaker_items s items a = λ n d l. weaker_item s (get_or items n d) (a n d l)

beside_total : (w : Item → ℕ) (t : Side) (m : Msg) (xs : List Item) → total w (put_beside t m xs) ≡ w (M m) + total w xs
beside_total w Client m xs = refl
beside_total w Provider m xs = omega (arith, total-append w xs (M m ∷ []))

beside_all : (Q : Item → Type 0) (t : Side) (m : Msg) (xs : List Item) → Q (M m) → All Q xs → All Q (put_beside t m xs)
beside_all Q Client m xs h a = All-cons Q (M m) xs h a
beside_all Q Provider m xs h a = All-append Q xs (M m ∷ []) a (All-cons Q (M m) [] h (All-nil Q))

same_number : (j : Pid) (p q : Proc) → q.pid ≡ p.pid → numbered_as j (P q) ≡ numbered_as j (P p)
same_number j p q e = ap (λ (i : Pid). cond (same_pid i j) 1 0) e

-- one process goes on in its place
one_goes : (s k : ℕ) (pid : Pid) (before after : List Item) (p q : Proc) (e : Event) → All (IsItemSlack (s + 1)) (before ++ (P p ∷ after)) → Goes s p q (work_by e) → pid_of e ≡ pid → ((j : Pid) → born_as k j e ≡ 0) → StepHolds s k pid (before ++ (P p ∷ after)) (before ++ (P q ∷ after)) e
one_goes s k pid before after p q e a g h b = record {
  by = h;
  each = all_for_one (IsItemSlack s) before (P q ∷ []) after (P p) (weaker_items s (before ++ (P p ∷ after)) a) (All-cons (IsItemSlack s) (P q) [] g.slack (All-nil (IsItemSlack s)));
  potential = omega (arith, weight_for_one potential_of before (P q ∷ []) after (P p) (work_by e) 0 (omega (arith, g.potential)));
  numbers = λ j. omega (arith, weight_for_one (numbered_as j) before (P q ∷ []) after (P p) 0 0 (omega (arith, same_number j p q g.pid)), b j);
}

put_holds : (s k : ℕ) (pid : Pid) (before after : List Item) (p : Proc) (m : Msg) (rest : Option Proc) → p.pid ≡ pid → All (IsItemSlack (s + 1)) (before ++ (P p ∷ after)) → DeedKeeps s k p (Puts m rest) →
    StepHolds s k pid (before ++ (P p ∷ after)) (before ++ (put_beside m.toward m (rest_items rest) ++ after)) (Send p.pid m.link m.body m.moment m.potential)
put_holds s k pid before after p m None i a d = record {
  by = i;
  each = all_for_one (IsItemSlack s) before (put_beside m.toward m []) after (P p) (weaker_items s (before ++ (P p ∷ after)) a) (beside_all (IsItemSlack s) m.toward m [] d.0 (All-nil (IsItemSlack s)));
  potential = omega (arith, weight_for_one potential_of before (put_beside m.toward m []) after (P p) 0 0 (omega (arith, beside_total potential_of m.toward m [], d.1)));
  numbers = λ j. omega (arith, weight_for_one (numbered_as j) before (put_beside m.toward m []) after (P p) 0 0 (omega (arith, beside_total (numbered_as j) m.toward m [])));
}
put_holds s k pid before after p m (Some q) i a d = record {
  by = i;
  each = all_for_one (IsItemSlack s) before (put_beside m.toward m (P q ∷ [])) after (P p) (weaker_items s (before ++ (P p ∷ after)) a) (beside_all (IsItemSlack s) m.toward m (P q ∷ []) d.0 (All-cons (IsItemSlack s) (P q) [] d.1.slack (All-nil (IsItemSlack s))));
  potential = omega (arith, weight_for_one potential_of before (put_beside m.toward m (P q ∷ [])) after (P p) 0 0 (omega (arith, beside_total potential_of m.toward m (P q ∷ []), d.1.potential)));
  numbers = λ j. omega (arith, weight_for_one (numbered_as j) before (put_beside m.toward m (P q ∷ [])) after (P p) 0 0 (omega (arith, beside_total (numbered_as j) m.toward m (P q ∷ []), same_number j p q d.1.pid)));
}

make_holds : (s k : ℕ) (pid : Pid) (before after : List Item) (p child rest : Proc) (d : ℕ) → p.pid ≡ pid → All (IsItemSlack (s + 1)) (before ++ (P p ∷ after)) → MakesOne s k p child rest →
    StepHolds s k pid (before ++ (P p ∷ after)) (before ++ (P rest ∷ P child ∷ after)) (Spawn p.pid child.pid d rest.moment)
make_holds s k pid before after p child rest d i a h = record {
  by = i;
  each = all_for_one (IsItemSlack s) before (P rest ∷ P child ∷ []) after (P p) (weaker_items s (before ++ (P p ∷ after)) a) (All-cons (IsItemSlack s) (P rest) (P child ∷ []) h.goes.slack (All-cons (IsItemSlack s) (P child) [] h.child_slack (All-nil (IsItemSlack s))));
  potential = omega (arith, weight_for_one potential_of before (P rest ∷ P child ∷ []) after (P p) 0 0 (omega (arith, h.goes.potential)));
  numbers = λ j. omega (arith, weight_for_one (numbered_as j) before (P rest ∷ P child ∷ []) after (P p) 0 (cond (same_pid (pid_at k) j) 1 0) (omega (arith, same_number j p rest h.goes.pid, ap {B = ℕ} (λ (n : Pid). cond (same_pid n j) 1 0) h.child_pid)));
}

-- ---- with a message

first_taken : (s k : ℕ) (pid : Pid) (before between after : List Item) (p q : Proc) (m : Msg) → q.pid ≡ pid → All (IsItemSlack (s + 1)) (before ++ (P p ∷ (between ++ (M m ∷ after)))) → Took s p q m →
    StepHolds s k pid (before ++ (P p ∷ (between ++ (M m ∷ after)))) (before ++ (P q ∷ (between ++ after))) (Take q.pid m.link m.body q.moment)
first_taken s k pid before between after p q m i a t = record {
  by = i;
  each = all_first (IsItemSlack s) before between after (P p) (M m) (P q) (weaker_items s (before ++ (P p ∷ (between ++ (M m ∷ after)))) a) t.slack;
  potential = omega (arith, weight_first potential_of before between after (P p) (M m) (P q) (omega (arith, t.potential)));
  numbers = λ j. omega (arith, weight_first (numbered_as j) before between after (P p) (M m) (P q) (omega (arith, same_number j p q t.pid)));
}

second_taken : (s k : ℕ) (pid : Pid) (before between after : List Item) (p q : Proc) (m : Msg) → q.pid ≡ pid → All (IsItemSlack (s + 1)) (before ++ (M m ∷ (between ++ (P p ∷ after)))) → Took s p q m →
    StepHolds s k pid (before ++ (M m ∷ (between ++ (P p ∷ after)))) (before ++ (P q ∷ (between ++ after))) (Take q.pid m.link m.body q.moment)
second_taken s k pid before between after p q m i a t = record {
  by = i;
  each = all_first (IsItemSlack s) before between after (M m) (P p) (P q) (weaker_items s (before ++ (M m ∷ (between ++ (P p ∷ after)))) a) t.slack;
  potential = omega (arith, weight_first potential_of before between after (M m) (P p) (P q) (omega (arith, t.potential)));
  numbers = λ j. omega (arith, weight_first (numbered_as j) before between after (M m) (P p) (P q) (omega (arith, same_number j p q t.pid)));
}

next_open : (s : ℕ) (b : Body) (to next : Link) → IsOpen s to → IsOpen s next → IsOpen s (moved_next b to next)
next_open s End to next h k = h
next_open s b to next h k = k

moved_slack : (s : ℕ) (m : Msg) (to : Link) → IsSlack s m → IsOpen s to → IsSlack s (moved m to)
moved_slack s m to h o = record { link = o; next = next_open s m.body to m.next o h.next; carried = h.carried; moment = h.moment }

below_moved : (s k : ℕ) (pid : Pid) (before between after : List Item) (p : Proc) (m : Msg) (to : Link) → p.pid ≡ pid → IsOpen s to → All (IsItemSlack (s + 1)) (before ++ (P p ∷ (between ++ (M m ∷ after)))) →
    StepHolds s k pid (before ++ (P p ∷ (between ++ (M m ∷ after)))) (before ++ (between ++ (M (moved m to) ∷ after))) (Move p.pid m.link to m.body m.moment)
below_moved s k pid before between after p m to i o a =
    let w = weaker_items s (before ++ (P p ∷ (between ++ (M m ∷ after)))) a in
    let h : IsItemSlack s (M m) = All-head (IsItemSlack s) (M m) after (all_right (IsItemSlack s) between (M m ∷ after) (All-tail (IsItemSlack s) (P p) (between ++ (M m ∷ after)) (all_right (IsItemSlack s) before (P p ∷ (between ++ (M m ∷ after))) w))) in
    record {
      by = i;
      each = all_second (IsItemSlack s) before between after (P p) (M m) (M (moved m to)) w (moved_slack s m to h o);
      potential = omega (arith, weight_second potential_of before between after (P p) (M m) (M (moved m to)) (omega arith));
      numbers = λ j. omega (arith, weight_second (numbered_as j) before between after (P p) (M m) (M (moved m to)) (omega arith));
    }

above_moved : (s k : ℕ) (pid : Pid) (before between after : List Item) (p : Proc) (m : Msg) (to : Link) → p.pid ≡ pid → IsOpen s to → All (IsItemSlack (s + 1)) (before ++ (M m ∷ (between ++ (P p ∷ after)))) →
    StepHolds s k pid (before ++ (M m ∷ (between ++ (P p ∷ after)))) (before ++ (M (moved m to) ∷ (between ++ after))) (Move p.pid m.link to m.body m.moment)
above_moved s k pid before between after p m to i o a =
    let w = weaker_items s (before ++ (M m ∷ (between ++ (P p ∷ after)))) a in
    let h : IsItemSlack s (M m) = All-head (IsItemSlack s) (M m) (between ++ (P p ∷ after)) (all_right (IsItemSlack s) before (M m ∷ (between ++ (P p ∷ after))) w) in
    record {
      by = i;
      each = all_first (IsItemSlack s) before between after (M m) (P p) (M (moved m to)) w (moved_slack s m to h o);
      potential = omega (arith, weight_first potential_of before between after (M m) (P p) (M (moved m to)) (omega arith));
      numbers = λ j. omega (arith, weight_first (numbered_as j) before between after (M m) (P p) (M (moved m to)) (omega arith));
    }

-- ---- takes and moves in a list

abbrev Low : List Item → Proc → List Item → Item → List Item → List Item
Low before p between x after = before ++ (P p ∷ (between ++ (x ∷ after)))

abbrev High : List Item → Item → List Item → Proc → List Item → List Item
High before x between p after = before ++ (x ∷ (between ++ (P p ∷ after)))

low_process : (s : ℕ) (before between after : List Item) (p : Proc) (x : Item) → All (IsItemSlack s) (Low before p between x after) → IsItemSlack s (P p)
low_process s before between after p x a = All-head (IsItemSlack s) (P p) (between ++ (x ∷ after)) (all_right (IsItemSlack s) before (P p ∷ (between ++ (x ∷ after))) a)

low_item : (s : ℕ) (before between after : List Item) (p : Proc) (x : Item) → All (IsItemSlack s) (Low before p between x after) → IsItemSlack s x
low_item s before between after p x a = All-head (IsItemSlack s) x after (all_right (IsItemSlack s) between (x ∷ after) (All-tail (IsItemSlack s) (P p) (between ++ (x ∷ after)) (all_right (IsItemSlack s) before (P p ∷ (between ++ (x ∷ after))) a)))

high_item : (s : ℕ) (before between after : List Item) (p : Proc) (x : Item) → All (IsItemSlack s) (High before x between p after) → IsItemSlack s x
high_item s before between after p x a = All-head (IsItemSlack s) x (between ++ (P p ∷ after)) (all_right (IsItemSlack s) before (x ∷ (between ++ (P p ∷ after))) a)

high_process : (s : ℕ) (before between after : List Item) (p : Proc) (x : Item) → All (IsItemSlack s) (High before x between p after) → IsItemSlack s (P p)
high_process s before between after p x a = All-head (IsItemSlack s) (P p) after (all_right (IsItemSlack s) between (P p ∷ after) (All-tail (IsItemSlack s) x (between ++ (P p ∷ after)) (all_right (IsItemSlack s) before (x ∷ (between ++ (P p ∷ after))) a)))

took_low : (c : Code) (s k : ℕ) (pid : Pid) (before between after : List Item) (p : Proc) (m : Msg) (o : Option Proc) (e : Event) (new : List Item) → p.pid ≡ pid → All (IsItemSlack (s + 1)) (Low before p between (M m) after) → after_take c p m ≡ o →
    take_it (λ q. before ++ (P q ∷ (between ++ after))) m o ≡ Ready e new → StepHolds s k pid (Low before p between (M m) after) new e
took_low c s k pid before between after p m None e new i a t h = cc
took_low c s k pid before between after p m (Some q) e new i a t h =
    let r = taken_keeps c s p q m (low_process (s + 1) before between after p (M m) a) (low_item (s + 1) before between after p (M m) a) t in
    holds_ready s k pid (Low before p between (M m) after) (Take q.pid m.link m.body q.moment) e (before ++ (P q ∷ (between ++ after))) new h (first_taken s k pid before between after p q m (r.pid ∙ i) a r)

take_low : (c : Code) (s k : ℕ) (pid : Pid) (before between after : List Item) (p : Proc) (x : Item) (e : Event) (new : List Item) → p.pid ≡ pid → All (IsItemSlack (s + 1)) (Low before p between x after) →
    take_from c p (λ q. before ++ (P q ∷ (between ++ after))) x ≡ Ready e new → StepHolds s k pid (Low before p between x after) new e
take_low c s k pid before between after p (P q) e new i a h = cc
take_low c s k pid before between after p (M m) e new i a h = took_low c s k pid before between after p m (after_take c p m) e new i a refl h

took_high : (c : Code) (s k : ℕ) (pid : Pid) (before between after : List Item) (p : Proc) (m : Msg) (o : Option Proc) (e : Event) (new : List Item) → p.pid ≡ pid → All (IsItemSlack (s + 1)) (High before (M m) between p after) → after_take c p m ≡ o →
    take_it (λ q. before ++ (P q ∷ (between ++ after))) m o ≡ Ready e new → StepHolds s k pid (High before (M m) between p after) new e
took_high c s k pid before between after p m None e new i a t h = cc
took_high c s k pid before between after p m (Some q) e new i a t h =
    let r = taken_keeps c s p q m (high_process (s + 1) before between after p (M m) a) (high_item (s + 1) before between after p (M m) a) t in
    holds_ready s k pid (High before (M m) between p after) (Take q.pid m.link m.body q.moment) e (before ++ (P q ∷ (between ++ after))) new h (second_taken s k pid before between after p q m (r.pid ∙ i) a r)

take_high : (c : Code) (s k : ℕ) (pid : Pid) (before between after : List Item) (p : Proc) (x : Item) (e : Event) (new : List Item) → p.pid ≡ pid → All (IsItemSlack (s + 1)) (High before x between p after) →
    take_from c p (λ q. before ++ (P q ∷ (between ++ after))) x ≡ Ready e new → StepHolds s k pid (High before x between p after) new e
take_high c s k pid before between after p (P q) e new i a h = cc
take_high c s k pid before between after p (M m) e new i a h = took_high c s k pid before between after p m (after_take c p m) e new i a refl h

move_low : (s k : ℕ) (pid : Pid) (before between after : List Item) (p : Proc) (x : Item) (to : Link) (e : Event) (new : List Item) → p.pid ≡ pid → IsOpen s to → All (IsItemSlack (s + 1)) (Low before p between x after) →
    move_it (λ m. before ++ (between ++ (M m ∷ after))) to p.pid x ≡ Ready e new → StepHolds s k pid (Low before p between x after) new e
move_low s k pid before between after p (P q) to e new i o a h = cc
move_low s k pid before between after p (M m) to e new i o a h =
    holds_ready s k pid (Low before p between (M m) after) (Move p.pid m.link to m.body m.moment) e (before ++ (between ++ (M (moved m to) ∷ after))) new h (below_moved s k pid before between after p m to i o a)

move_high : (s k : ℕ) (pid : Pid) (before between after : List Item) (p : Proc) (x : Item) (to : Link) (e : Event) (new : List Item) → p.pid ≡ pid → IsOpen s to → All (IsItemSlack (s + 1)) (High before x between p after) →
    move_it (λ m. before ++ (M m ∷ (between ++ after))) to p.pid x ≡ Ready e new → StepHolds s k pid (High before x between p after) new e
move_high s k pid before between after p (P q) to e new i o a h = cc
move_high s k pid before between after p (M m) to e new i o a h =
    holds_ready s k pid (High before (M m) between p after) (Move p.pid m.link to m.body m.moment) e (before ++ (M (moved m to) ∷ (between ++ after))) new h (above_moved s k pid before between after p m to i o a)

abbrev Here : List Item → Proc → List Item → List Item
Here before p after = before ++ (P p ∷ after)

take_client_holds : (c : Code) (s k : ℕ) (pid : Pid) (before after : List Item) (p : Proc) (l : Link) (o : Option Cut) (e : Event) (new : List Item) → cut (is_msg l Client) after ≡ o → p.pid ≡ pid → All (IsItemSlack (s + 1)) (Here before p after) →
    take_client c before p l o ≡ Ready e new → StepHolds s k pid (Here before p after) new e
take_client_holds c s k pid before after p l None e new t i a h = cc
take_client_holds c s k pid before after p l (Some x) e new t i a h =
    let v = (cut_is (is_msg l Client) after x t).list in
    subst (λ (xs : List Item). StepHolds s k pid (Here before p xs) new e) (sym v) (take_low c s k pid before x.before x.after p x.item e new i (subst (λ (xs : List Item). All (IsItemSlack (s + 1)) (Here before p xs)) v a) h)

again : (xs ys zs : List Item) (x : Item) → (xs ++ (x ∷ ys)) ++ zs ≡ xs ++ (x ∷ (ys ++ zs))
again xs ys zs x = append_assoc xs (x ∷ ys) zs

take_provider_holds : (c : Code) (s k : ℕ) (pid : Pid) (before after : List Item) (p : Proc) (l : Link) (o : Option Cut) (e : Event) (new : List Item) → cut (is_msg l Provider) before ≡ o → p.pid ≡ pid → All (IsItemSlack (s + 1)) (Here before p after) →
    take_provider c p l o after ≡ Ready e new → StepHolds s k pid (Here before p after) new e
take_provider_holds c s k pid before after p l None e new t i a h = cc
take_provider_holds c s k pid before after p l (Some x) e new t i a h =
    let v : Here before p after ≡ High x.before x.item x.after p after = ap (λ (xs : List Item). Here xs p after) (cut_is (is_msg l Provider) before x t).list ∙ again x.before x.after (P p ∷ after) x.item in
    subst (λ (xs : List Item). StepHolds s k pid xs new e) (sym v) (take_high c s k pid x.before x.after after p x.item e new i (subst (All (IsItemSlack (s + 1))) v a) h)

move_provider_holds : (s k : ℕ) (pid : Pid) (before after : List Item) (p : Proc) (other wait : Link) (o : Option Cut) (e : Event) (new : List Item) → cut (is_msg p.own Provider) before ≡ o → p.pid ≡ pid → IsOpen s other → All (IsItemSlack (s + 1)) (Here before p after) →
    move_provider p other wait o after ≡ Ready e new → StepHolds s k pid (Here before p after) new e
move_provider_holds s k pid before after p other wait None e new t i f a h = cc
move_provider_holds s k pid before after p other wait (Some x) e new t i f a h =
    let v : Here before p after ≡ High x.before x.item x.after p after = ap (λ (xs : List Item). Here xs p after) (cut_is (is_msg p.own Provider) before x t).list ∙ again x.before x.after (P p ∷ after) x.item in
    subst (λ (xs : List Item). StepHolds s k pid xs new e) (sym v) (move_high s k pid x.before x.after after p x.item other e new i f (subst (All (IsItemSlack (s + 1))) v a) h)

here_slack : (s : ℕ) (before after : List Item) (p : Proc) → All (IsItemSlack s) (Here before p after) → IsItemSlack s (P p)
here_slack s before after p a = All-head (IsItemSlack s) (P p) after (all_right (IsItemSlack s) before (P p ∷ after) a)

move_client_holds : (s k : ℕ) (pid : Pid) (before after : List Item) (p : Proc) (other wait : Link) (o : Option Cut) (e : Event) (new : List Item) → cut (is_msg other Client) after ≡ o → p.pid ≡ pid → IsOpen s other → All (IsItemSlack (s + 1)) (Here before p after) →
    move_client before p other wait o after ≡ Ready e new → StepHolds s k pid (Here before p after) new e
move_client_holds s k pid before after p other wait None e new t i f a h = move_provider_holds s k pid before after p other wait (cut (is_msg p.own Provider) before) e new refl i f a h
move_client_holds s k pid before after p other wait (Some x) e new t i f a h =
    let v = (cut_is (is_msg other Client) after x t).list in
    let own = weaker_open s p.own (here_slack (s + 1) before after p a).0.own in
    subst (λ (xs : List Item). StepHolds s k pid (Here before p xs) new e) (sym v) (move_low s k pid before x.before x.after p x.item p.own e new i own (subst (λ (xs : List Item). All (IsItemSlack (s + 1)) (Here before p xs)) v a) h)

take_side_holds : (c : Code) (s k : ℕ) (pid : Pid) (before after : List Item) (p : Proc) (l : Link) (t : Side) (e : Event) (new : List Item) → p.pid ≡ pid → All (IsItemSlack (s + 1)) (Here before p after) →
    take_side c before p after l t ≡ Ready e new → StepHolds s k pid (Here before p after) new e
take_side_holds c s k pid before after p l Client e new i a h = take_client_holds c s k pid before after p l (cut (is_msg l Client) after) e new refl i a h
take_side_holds c s k pid before after p l Provider e new i a h = take_provider_holds c s k pid before after p l (cut (is_msg l Provider) before) e new refl i a h

does_holds : (c : Code) (s k : ℕ) (pid : Pid) (before after : List Item) (p : Proc) (d : Deed) (e : Event) (new : List Item) → p.pid ≡ pid → All (IsItemSlack (s + 1)) (Here before p after) → DeedKeeps s k p d →
    does c before p after d ≡ Ready e new → StepHolds s k pid (Here before p after) new e
does_holds c s k pid before after p (Puts m rest) e new i a d h =
    holds_ready s k pid (Here before p after) (Send p.pid m.link m.body m.moment m.potential) e (before ++ (put_beside m.toward m (rest_items rest) ++ after)) new h (put_holds s k pid before after p m rest i a d)
does_holds c s k pid before after p (Takes l t) e new i a d h = take_side_holds c s k pid before after p l t e new i a h
does_holds c s k pid before after p (Moves other wait) e new i a d h = move_client_holds s k pid before after p other wait (cut (is_msg other Client) after) e new refl i d a h
does_holds c s k pid before after p (Makes child rest n) e new i a d h =
    holds_ready s k pid (Here before p after) (Spawn p.pid child.pid n rest.moment) e (before ++ (P rest ∷ P child ∷ after)) new h (make_holds s k pid before after p child rest n i a d)
does_holds c s k pid before after p (Turns rest n) e new i a d h =
    holds_ready s k pid (Here before p after) (Call p.pid n rest.moment) e (before ++ (P rest ∷ after)) new h (one_goes s k pid before after p rest (Call p.pid n rest.moment) a d i (λ j. refl))
does_holds c s k pid before after p (Works q rest) e new i a d h =
    holds_ready s k pid (Here before p after) (Work p.pid q rest.moment) e (before ++ (P rest ∷ after)) new h (one_goes s k pid before after p rest (Work p.pid q rest.moment) a d i (λ j. refl))
does_holds c s k pid before after p (Delays t rest) e new i a d h =
    holds_ready s k pid (Here before p after) (Delay p.pid t rest.moment) e (before ++ (P rest ∷ after)) new h (one_goes s k pid before after p rest (Delay p.pid t rest.moment) a d i (λ j. refl))
does_holds c s k pid before after p (Halts v) e new i a d h = cc
does_holds c s k pid before after p Breaks e new i a d h = cc

item_holds : (c : Code) (s k : ℕ) (pid : Pid) (before after : List Item) (x : Item) (e : Event) (new : List Item) → s + 16 < 2 ^ 32 → is_proc pid x ≡ true → All (IsItemSlack (s + 1)) (before ++ (x ∷ after)) →
    at_item c k before x after ≡ Ready e new → StepHolds s k pid (before ++ (x ∷ after)) new e
item_holds c s k pid before after (M m) e new b t a h = cc
item_holds c s k pid before after (P p) e new b t a h =
    let i : p.pid ≡ pid = ap (λ (n : ℕ). (let q : Pid = record { 0 = n } in q)) (eqb-true p.pid.0 pid.0 t) in
    does_holds c s k pid before after p (deed c k p) e new i a (deed_keeps c s k p b (here_slack (s + 1) before after p a)) h

cut_holds : (c : Code) (s k : ℕ) (pid : Pid) (items : List Item) (o : Option Cut) (e : Event) (new : List Item) → s + 16 < 2 ^ 32 → cut (is_proc pid) items ≡ o → All (IsItemSlack (s + 1)) items → at_cut c k o ≡ Ready e new → StepHolds s k pid items new e
cut_holds c s k pid items None e new b t a h = cc
cut_holds c s k pid items (Some x) e new b t a h =
    let r = cut_is (is_proc pid) items x t in
    subst (λ (xs : List Item). StepHolds s k pid xs new e) (sym r.list) (item_holds c s k pid x.before x.after x.item e new b r.passes (subst (All (IsItemSlack (s + 1))) r.list a) h)

-- what a step of a process keeps
pub step_holds : (c : Code) (s k : ℕ) (pid : Pid) (items new : List Item) (e : Event) → s + 16 < 2 ^ 32 → All (IsItemSlack (s + 1)) items → step c k pid items ≡ Ready e new → StepHolds s k pid items new e
step_holds c s k pid items new e b a h = cut_holds c s k pid items (cut (is_proc pid) items) e new b refl a h
