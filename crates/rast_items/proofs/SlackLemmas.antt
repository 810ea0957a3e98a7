-- Slack of parts of a process.
use Rattle.std.proofs.Common.{◌≡◌, ℕ, zero, suc, Bool, true, false, ◌==◌, ◌+◌, ◌<◌, List, [], ◌∷◌, Option, Some, None, sym, ap, ◌∙◌, subst, if◌then◌else◌}
use Rattle.std.specs.Prelude.{All}
use Rattle.std.proofs.lemmas.List.Elements.{All-head, All-tail, All-cons}
use Rattle.rast_index.specs.Keys.{find_key, drop_key, pull, put_first}
use Rattle.rast_items.specs.declared.link.Link.{Link}
use Rattle.rast_items.specs.Process.{Process}
use Rattle.rast_items.specs.Deeds.{link_of}
use Rattle.rast_items.specs.Slack.{IsOpen, HasSlack}
use Rattle.rast_items.specs.Actions.{HandsOver}

found_one : {A : Type 0} (Q : A → Type 0) (b : Bool) (a x : A) (o : Option A) → Q a → (o ≡ Some x → Q x) → (if b then Some a else o) ≡ Some x → Q x
found_one Q true a x o q f h = subst Q (let e : a ≡ x = cc in e) q
found_one Q false a x o q f h = f h

pub found_all : {A : Type 0} (Q : A → Type 0) (k : ℕ) (es : List (ℕ × A)) (x : A) → All (λ e. Q e.1) es → find_key k es ≡ Some x → Q x
found_all Q k [] x a h = cc
found_all {A} Q k (e ∷ es) x a h =
    found_one Q (e.0 == k) e.1 x (find_key k es) (All-head (λ (u : ℕ × A). Q u.1) e es a) (λ h. found_all Q k es x (All-tail (λ (u : ℕ × A). Q u.1) e es a) h) h

dropped_one : {A : Type 0} (Q : A → Type 0) (b : Bool) (e : A) (es fs : List A) → All Q es → Q e → All Q fs → All Q (if b then es else e ∷ fs)
dropped_one Q true e es fs a q f = a
dropped_one Q false e es fs a q f = All-cons Q e fs q f

pub dropped_all : {A : Type 0} (Q : ℕ × A → Type 0) (k : ℕ) (es : List (ℕ × A)) → All Q es → All Q (drop_key k es)
dropped_all Q k [] a = a
dropped_all Q k (e ∷ es) a = dropped_one Q (e.0 == k) e es (drop_key k es) (All-tail Q e es a) (All-head Q e es a) (dropped_all Q k es (All-tail Q e es a))

pub link_open : (s : ℕ) (p : Process) (x : ℕ) (l : Link) → HasSlack s p → link_of p x ≡ Some l → IsOpen s l
link_open s p zero l h e = subst (IsOpen s) (let k : p.own ≡ l = cc in k) h.own
link_open s p (suc x) l h e = found_all (IsOpen s) (suc x) p.uses l h.uses e

pub slack_less : (s x : ℕ) (p : Process) → HasSlack s p → HasSlack s (record p { uses = drop_key x p.uses })
slack_less s x p h = record { own = h.own; uses = dropped_all (λ (u : ℕ × Link). IsOpen s u.1) x p.uses h.uses; fresh = h.fresh; moment = h.moment; spawned = h.spawned; steps = h.steps }

some_same : {A : Type 0} (x y : A) → Some x ≡ Some y → x ≡ y
some_same x y h = cc

put_first_rest : (l : Link) (o : Option (List Link × List (ℕ × Link))) (ls : List Link) (us : List (ℕ × Link)) → put_first l o ≡ Some (ls, us) → (ks : List Link) × (o ≡ Some (ks, us))
put_first_rest l None ls us h = cc
put_first_rest l (Some r) ls us h =
    let e : (l ∷ r.0, r.1) ≡ (ls, us) = some_same (l ∷ r.0, r.1) (ls, us) h in
    (r.0, ap (λ (vs : List (ℕ × Link)). Some (r.0, vs)) (ap (λ (q : List Link × List (ℕ × Link)). q.1) e))

-- what is pulled where a channel was found or not
abbrev pulled_by : Option Link → List ℕ → List (ℕ × Link) → Option (List Link × List (ℕ × Link))
pulled_by f ys us = elim f [ None ↦ None | Some l ↦ put_first l (pull ys us) ]

pulled_one : (Q : ℕ × Link → Type 0) (f : Option Link) (ys : List ℕ) (us : List (ℕ × Link)) (ls : List Link) (rest : List (ℕ × Link)) → pulled_by f ys us ≡ Some (ls, rest) →
    ((ks : List Link) → pull ys us ≡ Some (ks, rest) → All Q rest) → All Q rest
pulled_one Q None ys us ls rest h f = cc
pulled_one Q (Some l) ys us ls rest h f = let r = put_first_rest l (pull ys us) ls rest h in f r.0 r.1

pub pulled_all : (Q : ℕ × Link → Type 0) (ys : List ℕ) (us : List (ℕ × Link)) (ls : List Link) (rest : List (ℕ × Link)) → All Q us → pull ys us ≡ Some (ls, rest) → All Q rest
pulled_all Q [] us ls rest a h = subst (All Q) (ap (λ (q : List Link × List (ℕ × Link)). q.1) (some_same ([], us) (ls, rest) h)) a
pulled_all Q (y ∷ ys) us ls rest a h = pulled_one Q (find_key y us) ys (drop_key y us) ls rest h (λ ks k. pulled_all Q ys (drop_key y us) ks rest (dropped_all Q y us a) k)

pub slack_pulled : (s : ℕ) (ys : List ℕ) (p after to full : Process) → HasSlack s p → HandsOver ys p after to full → HasSlack s after
slack_pulled s ys p after to full h k =
    subst (HasSlack s) (sym k.rest) (record { own = h.own; uses = pulled_all (λ (u : ℕ × Link). IsOpen s u.1) ys p.uses k.links after.uses h.uses k.pulled; fresh = h.fresh; moment = h.moment; spawned = h.spawned; steps = h.steps })
