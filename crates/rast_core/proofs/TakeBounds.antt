-- What a take keeps of the bounds of a process.
use Rattle.std.proofs.Common.{◌≡◌, ℕ, zero, suc, Bool, true, false, ◌+◌, [], ◌∷◌, ◌++◌, Option, Some, None, refl, ◌∙◌, subst, arith, length, if◌then◌else◌}
use Rattle.std.specs.Prelude.{slice_get, All, nat_lt}
use Rattle.std.proofs.lemmas.Bool.{ltb-true}
use Rattle.std.proofs.lemmas.List.{length_push}
use Rattle.std.proofs.lemmas.List.Elements.{All-head, All-push}
use Rattle.rast_index.specs.Keys.{find_key}
use Rattle.rast_terms.specs.declared.node.Node.{Node}
use Rattle.rast_terms.specs.declared.node.Node.TheVariants as node
use Rattle.rast_terms.specs.Nodes.{Touch, touches}
use Rattle.rast_core.specs.Words.{Link, Body, Label, End, Chan, Nat, Assert, Pay, Msg, P, Proc}
use Rattle.rast_items.specs.Items.{carried}
use Rattle.rast_items.specs.Deeds.{Code, with_channel, less_channel, at_node, at_branch, has_room, with_message, took, took_on, taken_at, after_take}
use Rattle.rast_items.specs.Slack.{IsOpen, IsSlack, IsItemSlack}
use Rattle.rast_items.proofs.SlackLemmas.{dropped_all}
use Rattle.rast_core.proofs.DeedBounds.{weaker_open, weaker_all, set_all, length-set_key, length-drop_key}

abbrev Entry : Type 0
Entry = ℕ × Link

-- the process after one more event, with its number and its potential
pub record Kept (s : ℕ) (p q : Proc) : Type 0 where
  pub slack : IsItemSlack s (P q)
  pub pid : q.pid ≡ p.pid
  pub potential : q.potential ≡ p.potential

stepped : (s n : ℕ) (p : Proc) → IsItemSlack (s + 1) (P p) → Kept s p (at_node p n)
stepped s n p h = record { slack = (record { own = weaker_open s p.own h.0.own; uses = weaker_all s p.uses h.0.uses; fresh = omega (arith, h.0.fresh); moment = omega (arith, h.0.moment); spawned = omega (arith, h.0.spawned); steps = omega (arith, h.0.steps) }, h.1); pid = refl; potential = refl }

some_same : {A : Type 0} (x y : A) → Some x ≡ Some y → x ≡ y
some_same x y h = cc

kept_some : (s : ℕ) (p r q : Proc) → Some r ≡ Some q → Kept s p r → Kept s p q
kept_some s p r q e k = subst (Kept s p) (some_same r q e) k

branch_keeps : (s : ℕ) (p q : Proc) (o : Option ℕ) → IsItemSlack (s + 1) (P p) → at_branch p o ≡ Some q → Kept s p q
branch_keeps s p q None h e = cc
branch_keeps s p q (Some n) h e = kept_some s p (at_node p n) q e (stepped s n p h)

if_some : (s : ℕ) (p r q : Proc) (b : Bool) → (if b then Some r else None) ≡ Some q → (b ≡ true → Kept s p r) → Kept s p q
if_some s p r q true e k = kept_some s p r q e (k refl)
if_some s p r q false e k = cc

channel_keeps : (s n : ℕ) (p : Proc) (l : Link) → IsItemSlack (s + 1) (P p) → IsOpen (s + 1) l → has_room p.uses ≡ true → Kept s p (at_node (with_channel p l) n)
channel_keeps s n p l h o r = record {
  slack = (
    record { own = weaker_open s p.own h.0.own; uses = All-push (λ (u : Entry). IsOpen s u.1) p.uses (p.fresh, l) (weaker_all s p.uses h.0.uses) (weaker_open s l o); fresh = omega (arith, h.0.fresh); moment = omega (arith, h.0.moment); spawned = omega (arith, h.0.spawned); steps = omega (arith, h.0.steps) },
    omega (arith, length_push p.uses (p.fresh, l), ltb-true (length p.uses) 15 r),
  );
  pid = refl;
  potential = refl;
}

end_keeps : (s x n : ℕ) (p : Proc) → IsItemSlack (s + 1) (P p) → Kept s p (at_node (less_channel p x) n)
end_keeps s x n p h = record {
  slack = (
    record { own = weaker_open s p.own h.0.own; uses = dropped_all (λ (u : Entry). IsOpen s u.1) x p.uses (weaker_all s p.uses h.0.uses); fresh = omega (arith, h.0.fresh); moment = omega (arith, h.0.moment); spawned = omega (arith, h.0.spawned); steps = omega (arith, h.0.steps) },
    omega (arith, length-drop_key x p.uses, h.1),
  );
  pid = refl;
  potential = refl;
}

number_keeps : (s n i : ℕ) (p : Proc) → IsItemSlack (s + 1) (P p) → Kept s p (at_node (record p { values = p.values ++ i ∷ [] }) n)
number_keeps s n i p h = record { slack = (record { own = weaker_open s p.own h.0.own; uses = weaker_all s p.uses h.0.uses; fresh = omega (arith, h.0.fresh); moment = omega (arith, h.0.moment); spawned = omega (arith, h.0.spawned); steps = omega (arith, h.0.steps) }, h.1); pid = refl; potential = refl }

took_keeps : (s : ℕ) (p q : Proc) (n : Node) (b : Body) → IsItemSlack (s + 1) (P p) → All (IsOpen (s + 1)) (carried b) → took n p b ≡ Some q → Kept s p q
took_keeps s p q (node.Case x bs) (Label l) h a e = branch_keeps s p q (find_key l bs) h e
took_keeps s p q (node.Recv x y n) (Chan l) h a e = if_some s p (at_node (with_channel p l) n) q (has_room p.uses) e (λ r. channel_keeps s n p l h (All-head (IsOpen (s + 1)) l [] a) r)
took_keeps s p q (node.Bind x v n) (Nat i) h a e = if_some s p (at_node (record p { values = p.values ++ i ∷ [] }) n) q (nat_lt (length p.values) 16) e (λ r. number_keeps s n i p h)
took_keeps s p q (node.Assume x n) Assert h a e = kept_some s p (at_node p n) q e (stepped s n p h)
took_keeps s p q (node.Get x n) Pay h a e = kept_some s p (at_node p n) q e (stepped s n p h)
took_keeps s p q (node.Wait x n) End h a e = kept_some s p (at_node (less_channel p x) n) q e (end_keeps s x n p h)
took_keeps s p q n b h a e = cc

-- the process with a message
pub record Took (s : ℕ) (p q : Proc) (m : Msg) : Type 0 where
  pub slack : IsItemSlack s (P q)
  pub pid : q.pid ≡ p.pid
  pub potential : q.potential ≡ p.potential + m.potential

messaged : (s x : ℕ) (p : Proc) (m : Msg) → IsItemSlack (s + 1) (P p) → IsSlack (s + 1) m → IsItemSlack (s + 1) (P (with_message p x m))
messaged s zero p m h k = (record { own = k.next; uses = h.0.uses; fresh = h.0.fresh; moment = omega (arith, h.0.moment, k.moment); spawned = h.0.spawned; steps = h.0.steps }, h.1)
messaged s (suc x) p m h k = (record { own = h.0.own; uses = set_all (λ (u : Entry). IsOpen (s + 1) u.1) (suc x) m.next p.uses k.next h.0.uses; fresh = h.0.fresh; moment = omega (arith, h.0.moment, k.moment); spawned = h.0.spawned; steps = h.0.steps }, omega (arith, h.1, length-set_key (suc x) m.next p.uses))

same_pid_with : (x : ℕ) (p : Proc) (m : Msg) → (with_message p x m).pid ≡ p.pid
same_pid_with zero p m = refl
same_pid_with (suc x) p m = refl

on_touch : (s : ℕ) (p q : Proc) (m : Msg) (t : Option Touch) (n : Node) → IsItemSlack (s + 1) (P p) → IsSlack (s + 1) m → took_on t n p m ≡ Some q → Took s p q m
on_touch s p q m None n h k e = cc
on_touch s p q m (Some t) n h k e =
    let r = took_keeps s (with_message p t.x m) q n m.body (messaged s t.x p m h k) k.carried e in
    record { slack = r.slack; pid = r.pid ∙ same_pid_with t.x p m; potential = r.potential }

at_keeps : (s : ℕ) (p q : Proc) (m : Msg) (o : Option Node) → IsItemSlack (s + 1) (P p) → IsSlack (s + 1) m → taken_at o p m ≡ Some q → Took s p q m
at_keeps s p q m None h k e = cc
at_keeps s p q m (Some n) h k e = on_touch s p q m (touches n) n h k e

pub taken_keeps : (c : Code) (s : ℕ) (p q : Proc) (m : Msg) → IsItemSlack (s + 1) (P p) → IsSlack (s + 1) m → after_take c p m ≡ Some q → Took s p q m
taken_keeps c s p q m h k e = at_keeps s p q m (slice_get c.program.nodes p.node) h k e
