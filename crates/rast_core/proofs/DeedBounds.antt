-- What each deed keeps of the bounds of a process.
use Rattle.std.proofs.Common.{◌≡◌, ℕ, zero, suc, ℤ, pos, negsuc, Bool, true, false, ◌+◌, ◌-◌, ◌^◌, ◌<◌, ◌≤◌, ◌==◌, List, [], ◌∷◌, Option, Some, None, refl, ◌∙◌, subst, arith, length, get_or, if◌then◌else◌}
use Rattle.std.specs.Prelude.{slice_get, All, nat_le, ◌&&◌}
use Rattle.std.proofs.lemmas.Bool.{leb-true, leb-false, ltb-true}
use Rattle.std.proofs.lemmas.List.{length_push}
use Rattle.std.proofs.lemmas.List.Elements.{All-head, All-tail, All-cons, All-push, All-nil}
use Rattle.rast_index.specs.Keys.{find_key, set_key, drop_key, pull, put_first, numbered}
use Rattle.rast_index.specs.Linear.{Linear, nought}
use Rattle.rast_terms.specs.declared.program.Program.{Program}
use Rattle.rast_terms.specs.declared.program.Decl.{Decl}
use Rattle.rast_terms.specs.declared.node.Node.{Node}
use Rattle.rast_terms.specs.declared.node.Node.TheVariants as node
use Rattle.rast_core.specs.Words.{Link, Body, Label, Chan, Nat, Assert, Pay, Item, P, M, Proc}
use Rattle.rast_items.specs.Items.{after_link, link_at, pid_at, carried}
use Rattle.rast_items.specs.Deeds.{Code, Deed, Puts, Takes, Moves, Makes, Turns, Works, Delays, Halts, Breaks, at_values, large_in, naturals, unless_large, with_values, with_arguments, argument_values, handed_over, first, link_of, with_link, less_channel, at_node, out, msg_on, puts_at, puts, puts_chan, takes_at, closes, forwards, process_at, parent_after, has_room, makes, turns, makes_at, turns_at, works, delays, act, act_at, deed}
use Rattle.rast_items.specs.Slack.{IsOpen, HasSlack, IsSlack, IsItemSlack}
use Rattle.rast_items.specs.Actions.{action_of}
use Rattle.rast_core.specs.Edits.{KeepsPid}
use Rattle.rast_items.proofs.SlackLemmas.{found_all, dropped_all, link_open}

abbrev Entry : Type 0
Entry = ℕ × Link

-- ---- one event less

pub weaker_open : (s : ℕ) (l : Link) → IsOpen (s + 1) l → IsOpen s l
weaker_open s l h = omega (arith, h)

pub weaker_all : (s : ℕ) (us : List Entry) → All (λ u. IsOpen (s + 1) u.1) us → All (λ u. IsOpen s u.1) us
weaker_all s us a = λ k d l. weaker_open s (get_or us k d).1 (a k d l)

pub weaker_links : (s : ℕ) (ls : List Link) → All (IsOpen (s + 1)) ls → All (IsOpen s) ls
weaker_links s ls a = λ k d l. weaker_open s (get_or ls k d) (a k d l)

pub weaker_slack : (s : ℕ) (p : Proc) → HasSlack (s + 1) p → HasSlack s p
weaker_slack s p h = record { own = weaker_open s p.own h.own; uses = weaker_all s p.uses h.uses; fresh = omega (arith, h.fresh); moment = omega (arith, h.moment); spawned = omega (arith, h.spawned); steps = omega (arith, h.steps) }

pub weaker_item : (s : ℕ) (x : Item) → IsItemSlack (s + 1) x → IsItemSlack s x
weaker_item s (P p) h = (weaker_slack s p h.0, h.1)
weaker_item s (M m) h = record { link = weaker_open s m.link h.link; next = weaker_open s m.next h.next; carried = weaker_links s (carried m.body) h.carried; moment = omega (arith, h.moment) }

-- ---- lists of channels

set_one : (Q : Entry → Type 0) (b : Bool) (k : ℕ) (l : Link) (e : Entry) (es fs : List Entry) → Q (k, l) → Q e → All Q es → All Q fs → All Q (if b then (k, l) ∷ es else e ∷ fs)
set_one Q true k l e es fs n q a f = All-cons Q (k, l) es n a
set_one Q false k l e es fs n q a f = All-cons Q e fs q f

pub set_all : (Q : Entry → Type 0) (k : ℕ) (l : Link) (es : List Entry) → Q (k, l) → All Q es → All Q (set_key k l es)
set_all Q k l [] n a = a
set_all Q k l (e ∷ es) n a = set_one Q (e.0 == k) k l e es (set_key k l es) n (All-head Q e es a) (All-tail Q e es a) (set_all Q k l es n (All-tail Q e es a))

length_if : {A : Type 0} (b : Bool) (x y : List A) (n : ℕ) → length x ≤ n → length y ≤ n → length (if b then x else y) ≤ n
length_if true x y n h k = h
length_if false x y n h k = k

pub length-set_key : (k : ℕ) (l : Link) (es : List Entry) → length (set_key k l es) ≤ length es
length-set_key k l [] = omega arith
length-set_key k l (e ∷ es) = length_if (e.0 == k) ((k, l) ∷ es) (e ∷ set_key k l es) (suc (length es)) (omega arith) (omega (arith, length-set_key k l es))

pub length-drop_key : (k : ℕ) (es : List Entry) → length (drop_key k es) ≤ length es
length-drop_key k [] = omega arith
length-drop_key k (e ∷ es) = length_if (e.0 == k) es (e ∷ drop_key k es) (suc (length es)) (omega arith) (omega (arith, length-drop_key k es))

-- what comes of pulling
pub record Pulls (s : ℕ) (us : List Entry) (r : List Link × List Entry) : Type 0 where
  pub links : All (IsOpen s) r.0
  pub rest : All (λ u. IsOpen s u.1) r.1
  pub count : length r.0 + length r.1 ≤ length us

abbrev pulled_by : Option Link → List ℕ → List Entry → Option (List Link × List Entry)
pulled_by f ys us = elim f [ None ↦ None | Some l ↦ put_first l (pull ys us) ]

some_same : {A : Type 0} (x y : A) → Some x ≡ Some y → x ≡ y
some_same x y h = cc

first_pulls : (s : ℕ) (us vs : List Entry) (l : Link) (o : Option (List Link × List Entry)) (r : List Link × List Entry) → IsOpen s l → length vs + 1 ≤ length us → put_first l o ≡ Some r → ((q : List Link × List Entry) → o ≡ Some q → Pulls s vs q) → Pulls s us r
first_pulls s us vs l None r h n e f = cc
first_pulls s us vs l (Some q) r h n e f =
    let k = f q refl in
    subst (Pulls s us) (some_same (l ∷ q.0, q.1) r e) (record { links = All-cons (IsOpen s) l q.0 h k.links; rest = k.rest; count = omega (arith, k.count, n) })

pulls_by : (s : ℕ) (f : Option Link) (ys : List ℕ) (us vs : List Entry) (r : List Link × List Entry) → ((l : Link) → f ≡ Some l → IsOpen s l × (length vs + 1 ≤ length us)) → pulled_by f ys vs ≡ Some r → ((q : List Link × List Entry) → pull ys vs ≡ Some q → Pulls s vs q) → Pulls s us r
pulls_by s None ys us vs r h e f = cc
pulls_by s (Some l) ys us vs r h e f = let k = h l refl in first_pulls s us vs l (pull ys vs) r k.0 k.1 e f

fewer_by : (b : Bool) (a : Link) (e : Entry) (es fs : List Entry) (o : Option Link) → (if b then Some e.1 else o) ≡ Some a → (o ≡ Some a → length fs + 1 ≤ length es) → length (if b then es else e ∷ fs) + 1 ≤ length (e ∷ es)
fewer_by true a e es fs o h f = omega arith
fewer_by false a e es fs o h f = omega (arith, f h)

fewer : (y : ℕ) (us : List Entry) (l : Link) → find_key y us ≡ Some l → length (drop_key y us) + 1 ≤ length us
fewer y [] l h = cc
fewer y (u ∷ us) l h = fewer_by (u.0 == y) l u us (drop_key y us) (find_key y us) h (fewer y us l)

pub pulls : (s : ℕ) (ys : List ℕ) (us : List Entry) (r : List Link × List Entry) → All (λ u. IsOpen s u.1) us → pull ys us ≡ Some r → Pulls s us r
pulls s [] us r a e = subst (Pulls s us) (some_same ([], us) r e) (record { links = All-nil (IsOpen s); rest = a; count = omega arith })
pulls s (y ∷ ys) us r a e =
    pulls_by s (find_key y us) ys us (drop_key y us) r (λ l h. (found_all (IsOpen s) y us l a h, fewer y us l h)) e (λ q h. pulls s ys (drop_key y us) q (dropped_all (λ (u : Entry). IsOpen s u.1) y us a) h)

numbered_all : (s k : ℕ) (ls : List Link) → All (IsOpen s) ls → All (λ (u : Entry). IsOpen s u.1) (numbered k ls)
numbered_all s k [] a = All-nil (λ (u : Entry). IsOpen s u.1)
numbered_all s k (l ∷ ls) a = All-cons (λ (u : Entry). IsOpen s u.1) (k, l) (numbered (k + 1) ls) (All-head (IsOpen s) l ls a) (numbered_all s (k + 1) ls (All-tail (IsOpen s) l ls a))

length-numbered : (k : ℕ) (ls : List Link) → length (numbered k ls) ≡ length ls
length-numbered k [] = refl
length-numbered k (l ∷ ls) = omega (arith, length-numbered (k + 1) ls)

-- ---- what a deed keeps

-- the process goes on, and has spent potential
pub record Goes (s : ℕ) (p q : Proc) (spent : ℕ) : Type 0 where
  pub slack : IsItemSlack s (P q)
  pub pid : q.pid ≡ p.pid
  pub potential : spent + q.potential ≤ p.potential

pub record MakesOne (s k : ℕ) (p child rest : Proc) : Type 0 where
  pub child_slack : IsItemSlack s (P child)
  pub child_pid : child.pid ≡ pid_at k
  pub goes : Goes s p rest child.potential

abbrev pub DeedKeeps : ℕ → ℕ → Proc → Deed → Type 0
DeedKeeps s k p (Puts m None) = IsSlack s m × (m.potential ≤ p.potential)
DeedKeeps s k p (Puts m (Some q)) = IsSlack s m × Goes s p q m.potential
DeedKeeps s k p (Takes l t) = Unit {0}
DeedKeeps s k p (Moves other wait) = IsOpen s other
DeedKeeps s k p (Makes child rest d) = MakesOne s k p child rest
DeedKeeps s k p (Turns rest d) = Goes s p rest 0
DeedKeeps s k p (Works q rest) = Goes s p rest q
DeedKeeps s k p (Delays t rest) = Goes s p rest 0
DeedKeeps s k p (Halts v) = Unit {0}
DeedKeeps s k p Breaks = Unit {0}

unless_large_to : (F : Deed → Type 0) (v : Option ℕ) (o : Option (List ℕ)) (f : List ℕ → Deed) → ((n : ℕ) → F (Halts n)) → F Breaks → ((ns : List ℕ) → F (f ns)) → F (unless_large v o f)
unless_large_to F (Some n) o f h b t = h n
unless_large_to F None None f h b t = b
unless_large_to F None (Some ns) f h b t = t ns

values_keep : (s k : ℕ) (p : Proc) (zs : List ℤ) (f : List ℕ → Deed) → ((ns : List ℕ) → DeedKeeps s k p (f ns)) → DeedKeeps s k p (with_values zs f)
values_keep s k p zs f t = unless_large_to (DeedKeeps s k p) (large_in zs) (naturals zs) f (λ n. tt) tt t

if_keep : (s k : ℕ) (p : Proc) (b : Bool) (d : Deed) → (b ≡ true → DeedKeeps s k p d) → DeedKeeps s k p (if b then d else Breaks)
if_keep s k p true d f = f refl
if_keep s k p false d f = tt

arguments_keep : (s k : ℕ) (p : Proc) (es : List Linear) (decl : Decl) (f : List ℕ → ℕ → Deed) → ((ns : List ℕ) (q : ℕ) → DeedKeeps s k p (f ns q)) → DeedKeeps s k p (with_arguments p es decl f)
arguments_keep s k p es decl f t =
    if_keep s k p (nat_le (length es) 16) (with_values (argument_values p es) (λ ns. with_values (handed_over decl ns) (λ qs. f ns (first qs))))
    (λ h. values_keep s k p (argument_values p es) (λ ns. with_values (handed_over decl ns) (λ qs. f ns (first qs))) (λ ns. values_keep s k p (handed_over decl ns) (λ qs. f ns (first qs)) (λ qs. t ns (first qs))))

-- ---- sends

sent_slack : (s x n q : ℕ) (r : Proc) (l : Link) → HasSlack (s + 1) r → length r.uses ≤ 15 → IsOpen (s + 1) l → IsItemSlack s (P (at_node (record (with_link r x (after_link l)) { potential = r.potential - q }) n))
sent_slack s zero n q r l h c o = (record { own = omega (arith, o); uses = weaker_all s r.uses h.uses; fresh = omega (arith, h.fresh); moment = omega (arith, h.moment); spawned = omega (arith, h.spawned); steps = omega (arith, h.steps) }, c)
sent_slack s (suc x) n q r l h c o = (
  record { own = weaker_open s r.own h.own; uses = set_all (λ (u : Entry). IsOpen s u.1) (suc x) (after_link l) r.uses (let g : IsOpen s (after_link l) = omega (arith, o) in g) (weaker_all s r.uses h.uses); fresh = omega (arith, h.fresh); moment = omega (arith, h.moment); spawned = omega (arith, h.spawned); steps = omega (arith, h.steps) },
  omega (arith, c, length-set_key (suc x) (after_link l) r.uses),
)

sent_pid : (x n q : ℕ) (r : Proc) (l : Link) → (at_node (record (with_link r x l) { potential = r.potential - q }) n).pid ≡ r.pid
sent_pid zero n q r l = refl
sent_pid (suc x) n q r l = refl

puts_on : (s k : ℕ) (p r : Proc) (x : ℕ) (b : Body) (q n : ℕ) (o : Option Link) → HasSlack (s + 1) r → length r.uses ≤ 15 → r.pid ≡ p.pid → r.potential ≡ p.potential → All (IsOpen s) (carried b) → (((l : Link) → o ≡ Some l → IsOpen (s + 1) l)) → DeedKeeps s k p (puts_at r x b q n o)
puts_on s k p r x b q n None h c i e a f = tt
puts_on s k p r x b q n (Some l) h c i e a f =
    let o = f l refl in
    if_keep s k p (nat_le q r.potential) (Puts (msg_on l (out x) b r.moment q) (Some (at_node (record (with_link r x (after_link l)) { potential = r.potential - q }) n)))
    (λ t. (
      record { link = weaker_open s l o; next = omega (arith, o); carried = a; moment = omega (arith, h.moment) },
      record { slack = sent_slack s x n q r l h c o; pid = sent_pid x n q r (after_link l) ∙ i; potential = omega (arith, leb-true q r.potential t, e) },
    ))

puts_keep : (s k : ℕ) (p r : Proc) (x : ℕ) (b : Body) (q n : ℕ) → HasSlack (s + 1) r → length r.uses ≤ 15 → r.pid ≡ p.pid → r.potential ≡ p.potential → All (IsOpen s) (carried b) → DeedKeeps s k p (puts r x b q n)
puts_keep s k p r x b q n h c i e a = puts_on s k p r x b q n (link_of r x) h c i e a (λ l f. link_open (s + 1) r x l h f)

chan_keep : (s k : ℕ) (p : Proc) (x w n : ℕ) (o : Option Link) → HasSlack (s + 1) p → length p.uses ≤ 15 → find_key w p.uses ≡ o → DeedKeeps s k p (puts_chan p x w o n)
chan_keep s k p x w n None h c e = tt
chan_keep s k p x w n (Some l) h c e =
    let g : HasSlack (s + 1) (less_channel p w) = record { own = h.own; uses = dropped_all (λ (u : Entry). IsOpen (s + 1) u.1) w p.uses h.uses; fresh = h.fresh; moment = h.moment; spawned = h.spawned; steps = h.steps } in
    puts_keep s k p (less_channel p w) x (Chan l) 0 n g (omega (arith, c, length-drop_key w p.uses)) refl refl (All-cons (IsOpen s) l [] (weaker_open s l (found_all (IsOpen (s + 1)) w p.uses l h.uses e)) (All-nil (IsOpen s)))

takes_keep : (s k : ℕ) (p : Proc) (x : ℕ) (o : Option Link) → DeedKeeps s k p (takes_at x o)
takes_keep s k p x None = tt
takes_keep s k p x (Some l) = tt

closes_keep : (s k : ℕ) (p : Proc) (us : List Entry) → HasSlack (s + 1) p → DeedKeeps s k p (closes p us)
closes_keep s k p [] h = (record { link = weaker_open s p.own h.own; next = weaker_open s p.own h.own; carried = All-nil (IsOpen s); moment = omega (arith, h.moment) }, omega arith)
closes_keep s k p (u ∷ us) h = tt

forwards_keep : (s k : ℕ) (p : Proc) (y : ℕ) (b : Bool) (us : List Entry) → All (λ u. IsOpen (s + 1) u.1) us → DeedKeeps s k p (forwards p y b us)
forwards_keep s k p y b [] a = tt
forwards_keep s k p y b (u ∷ []) a = if_keep s k p (u.0 == y) (Moves u.1 (if b then u.1 else p.own)) (λ h. weaker_open s u.1 (All-head (λ (e : Entry). IsOpen (s + 1) e.1) u [] a))
forwards_keep s k p y b (u ∷ v ∷ us) a = tt

-- ---- spawns and calls

and_both : (a b : Bool) → (a && b) ≡ true → (a ≡ true) × (b ≡ true)
and_both true b h = (refl, h)
and_both false b h = cc

made_one : (s k : ℕ) (p : Proc) (d : ℕ) (decl : Decl) (r : List Link × List Entry) (n : ℕ) (vs : List ℕ) (q : ℕ) → s + 16 < 2 ^ 32 → HasSlack (s + 1) p → length p.uses ≤ 15 → Pulls (s + 1) p.uses r → q ≤ p.potential → length r.1 < 15 →
    MakesOne s k p (process_at k decl vs r.0 p.moment q) (parent_after k p r.1 q n)
made_one s k p d decl r n vs q b h c u e f =
    let own : IsOpen s (link_at k 0) = omega (arith, b) in
    record {
      child_slack = (record { own = own; uses = numbered_all s 1 r.0 (weaker_links s r.0 u.links); fresh = omega (arith, u.count, c, b); moment = omega (arith, h.moment); spawned = omega (arith, b); steps = omega (arith, b) }, omega (arith, length-numbered 1 r.0, u.count, c));
      child_pid = refl;
      goes = record {
        slack = (record { own = weaker_open s p.own h.own; uses = All-push (λ (x : Entry). IsOpen s x.1) r.1 (p.fresh, link_at k 0) (weaker_all s r.1 u.rest) own; fresh = omega (arith, h.fresh); moment = omega (arith, h.moment); spawned = omega (arith, h.spawned); steps = omega (arith, h.steps) }, omega (arith, length_push r.1 (p.fresh, link_at k 0), f));
        pid = refl;
        potential = omega (arith, e);
      };
    }

makes_keep : (s k : ℕ) (p : Proc) (d : ℕ) (decl : Decl) (r : List Link × List Entry) (n : ℕ) (vs : List ℕ) (q : ℕ) → s + 16 < 2 ^ 32 → HasSlack (s + 1) p → length p.uses ≤ 15 → Pulls (s + 1) p.uses r → DeedKeeps s k p (makes k p d decl r n vs q)
makes_keep s k p d decl r n vs q b h c u =
    if_keep s k p (nat_le q p.potential && has_room r.1) (Makes (process_at k decl vs r.0 p.moment q) (parent_after k p r.1 q n) d)
    (λ t. let e = and_both (nat_le q p.potential) (has_room r.1) t in made_one s k p d decl r n vs q b h c u (leb-true q p.potential e.0) (ltb-true (length r.1) 15 e.1))

turns_keep : (s k : ℕ) (p : Proc) (d : ℕ) (decl : Decl) (ls : List Link) (us : List Entry) (vs : List ℕ) → s + 16 < 2 ^ 32 → HasSlack (s + 1) p → length p.uses ≤ 15 → Pulls (s + 1) p.uses (ls, us) → DeedKeeps s k p (turns p d decl ls us vs)
turns_keep s k p d decl ls [] vs b h c u = record {
  slack = (record { own = weaker_open s p.own h.own; uses = numbered_all s 1 ls (weaker_links s ls u.links); fresh = omega (arith, u.count, c, b); moment = omega (arith, h.moment); spawned = omega (arith, h.spawned); steps = omega (arith, h.steps) }, omega (arith, length-numbered 1 ls, u.count, c));
  pid = refl;
  potential = omega arith;
}
turns_keep s k p d decl ls (v ∷ us) vs b h c u = tt

spawn_keep : (s k : ℕ) (p : Proc) (es : List Linear) (d n : ℕ) (o : Option Decl) (ys : List ℕ) (r : Option (List Link × List Entry)) → s + 16 < 2 ^ 32 → HasSlack (s + 1) p → length p.uses ≤ 15 → pull ys p.uses ≡ r → DeedKeeps s k p (makes_at k p es d n o r)
spawn_keep s k p es d n None ys r b h c e = tt
spawn_keep s k p es d n (Some decl) ys None b h c e = tt
spawn_keep s k p es d n (Some decl) ys (Some r) b h c e =
    arguments_keep s k p es decl (λ ns q. makes k p d decl r n ns q) (λ ns q. makes_keep s k p d decl r n ns q b h c (pulls (s + 1) ys p.uses r h.uses e))

call_keep : (s k : ℕ) (p : Proc) (es : List Linear) (d : ℕ) (o : Option Decl) (ys : List ℕ) (r : Option (List Link × List Entry)) → s + 16 < 2 ^ 32 → HasSlack (s + 1) p → length p.uses ≤ 15 → pull ys p.uses ≡ r → DeedKeeps s k p (turns_at p es d o r)
call_keep s k p es d None ys r b h c e = tt
call_keep s k p es d (Some decl) ys None b h c e = tt
call_keep s k p es d (Some decl) ys (Some r) b h c e =
    arguments_keep s k p es decl (λ ns q. turns p d decl r.0 r.1 ns) (λ ns q. turns_keep s k p d decl r.0 r.1 ns b h c (pulls (s + 1) ys p.uses r h.uses e))

works_keep : (s k : ℕ) (p : Proc) (n q : ℕ) → HasSlack (s + 1) p → length p.uses ≤ 15 → DeedKeeps s k p (works p n q)
works_keep s k p n q h c =
    if_keep s k p (nat_le q p.potential) (Works q (at_node (record p { potential = p.potential - q }) n))
    (λ t. record { slack = (record { own = weaker_open s p.own h.own; uses = weaker_all s p.uses h.uses; fresh = omega (arith, h.fresh); moment = omega (arith, h.moment); spawned = omega (arith, h.spawned); steps = omega (arith, h.steps) }, c); pid = refl; potential = omega (arith, leb-true q p.potential t) })

delays_keep : (s k : ℕ) (p : Proc) (n t : ℕ) → HasSlack (s + 1) p → length p.uses ≤ 15 → t < 2 ^ 64 → DeedKeeps s k p (delays p n t)
delays_keep s k p n t h c b =
    record { slack = (record { own = weaker_open s p.own h.own; uses = weaker_all s p.uses h.uses; fresh = omega (arith, h.fresh); moment = omega (arith, h.moment, b); spawned = omega (arith, h.spawned); steps = omega (arith, h.steps) }, c); pid = refl; potential = omega arith }

-- one value below 2 ^ 64
one_value : (F : Deed → Type 0) (z : ℤ) (f : List ℕ → Deed) → ((n : ℕ) → F (Halts n)) → F Breaks → ((n : ℕ) → n < 2 ^ 64 → F (f (n ∷ []))) → F (with_values (z ∷ []) f)
one_value F (negsuc n) f h b t = b
one_value F (pos n) f h b t = by_test (nat_le (2 ^ 64) n) refl
  where
    by_test : (c : Bool) → nat_le (2 ^ 64) n ≡ c → F (unless_large (if c then Some n else None) (Some (n ∷ [])) f)
    by_test true e = h n
    by_test false e = t n (leb-false (2 ^ 64) n e)

act_keep : (g : Program) (amount : Linear) (positive : Bool) (s k : ℕ) (p : Proc) (nd : Node) → s + 16 < 2 ^ 32 → HasSlack (s + 1) p → length p.uses ≤ 15 → DeedKeeps s k p (act g amount positive k p nd)
act_keep g amount positive s k p (node.Label x l n) b h c = puts_keep s k p p x (Label l) 0 n h c refl refl (All-nil (IsOpen s))
act_keep g amount positive s k p (node.Case x bs) b h c = takes_keep s k p x (link_of p x)
act_keep g amount positive s k p (node.Send x w rs n) b h c = chan_keep s k p x w n (find_key w p.uses) h c refl
act_keep g amount positive s k p (node.Recv x y n) b h c = takes_keep s k p x (link_of p x)
act_keep g amount positive s k p (node.Index x e n) b h c = values_keep s k p (at_values p e ∷ []) (λ ns. puts p x (Nat (first ns)) 0 n) (λ ns. puts_keep s k p p x (Nat (first ns)) 0 n h c refl refl (All-nil (IsOpen s)))
act_keep g amount positive s k p (node.Bind x v n) b h c = takes_keep s k p x (link_of p x)
act_keep g amount positive s k p (node.Assert x n) b h c = puts_keep s k p p x Assert 0 n h c refl refl (All-nil (IsOpen s))
act_keep g amount positive s k p (node.Assume x n) b h c = takes_keep s k p x (link_of p x)
act_keep g amount positive s k p (node.Pay x n) b h c = values_keep s k p (at_values p amount ∷ []) (λ ns. puts p x Pay (first ns) n) (λ ns. puts_keep s k p p x Pay (first ns) n h c refl refl (All-nil (IsOpen s)))
act_keep g amount positive s k p (node.Get x n) b h c = takes_keep s k p x (link_of p x)
act_keep g amount positive s k p (node.Close x) b h c = closes_keep s k p p.uses h
act_keep g amount positive s k p (node.Wait x n) b h c = takes_keep s k p x (link_of p x)
act_keep g amount positive s k p (node.Forward x y rs) b h c = forwards_keep s k p y positive p.uses h.uses
act_keep g amount positive s k p (node.Spawn v d es ys rs n) b h c = spawn_keep s k p es d n (slice_get g.decls d) ys (pull ys p.uses) b h c refl
act_keep g amount positive s k p (node.Call x d es ys rs) b h c = call_keep s k p es d (slice_get g.decls d) ys (pull ys p.uses) b h c refl
act_keep g amount positive s k p node.Impossible b h c = tt
act_keep g amount positive s k p (node.Work r n) b h c = values_keep s k p (at_values p r ∷ []) (λ ns. works p n (first ns)) (λ ns. works_keep s k p n (first ns) h c)
act_keep g amount positive s k p (node.Delay t n) b h c = one_value (DeedKeeps s k p) (at_values p t) (λ ns. delays p n (first ns)) (λ n. tt) tt (λ m l. delays_keep s k p n m h c l)

at_keep : (code : Code) (s k : ℕ) (p : Proc) (o : Option Node) → s + 16 < 2 ^ 32 → HasSlack (s + 1) p → length p.uses ≤ 15 → DeedKeeps s k p (act_at code k p o)
at_keep code s k p None b h c = tt
at_keep code s k p (Some nd) b h c = act_keep code.program (get_or code.paid p.node nought) (get_or code.positive p.node false) s k p nd b h c

pub deed_keeps : (code : Code) (s k : ℕ) (p : Proc) → s + 16 < 2 ^ 32 → IsItemSlack (s + 1) (P p) → DeedKeeps s k p (deed code k p)
deed_keeps code s k p b h = at_keep code s k p (slice_get code.program.nodes p.node) b h.0 h.1

-- a process that makes another stays itself
pub keeps_pid : (s k : ℕ) (p : Proc) (d : Deed) → DeedKeeps s k p d → KeepsPid p.pid (action_of d)
keeps_pid s k p (Puts m rest) h = tt
keeps_pid s k p (Takes l t) h = tt
keeps_pid s k p (Moves other wait) h = tt
keeps_pid s k p (Makes child rest d) h = h.goes.pid
keeps_pid s k p (Turns rest d) h = tt
keeps_pid s k p (Works q rest) h = tt
keeps_pid s k p (Delays t rest) h = tt
keeps_pid s k p (Halts v) h = tt
keeps_pid s k p Breaks h = tt
