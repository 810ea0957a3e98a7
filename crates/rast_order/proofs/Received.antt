-- What a take does to its process.
use Rattle.std.proofs.Common.{◌≡◌, ℕ, zero, suc, max, Bool, false, ◌+◌, List, [], ◌∷◌, ◌++◌, Option, Some, None, arith, refl, sym, ap, ◌∙◌, subst, slice_get, if◌then◌else◌, true, length}
use Rattle.std.specs.Prelude.{slice_index_or as get_or, nat_lt}
use Rattle.rast_index.specs.Keys.{find_key, set_key, drop_key}
use Rattle.rast_index.specs.Linear.{Linear, nought}
use Rattle.rast_terms.specs.Nodes.{Touch, touches}
use Rattle.rast_terms.specs.declared.node.Node.{Node}
use Rattle.rast_terms.specs.declared.node.Node.TheVariants as node
use Rattle.rast_terms.specs.declared.program.Program.{Program}
use Rattle.rast_items.specs.Items.{carried, continued, hit, times}
use Rattle.rast_items.specs.Deeds.{Code, Takes, with_message, with_channel, less_channel, at_node, at_branch, takes_at, takes, act, act_at, deed, took, took_on, taken_at, after_take, has_room}
use Rattle.rast_order.proofs.Words.{Link, Proc, Msg, Side, Client, Provider, Body, Label, End, Chan, Nat, Assert, Pay}
use Rattle.rast_order.proofs.Keys.{held_by, drop_held, set_held, held-append}

pub some_to : {A : Type 0} (F : A → Type 0) (r q : A) → Some r ≡ Some q → F r → F q
some_to F r q e h = let k : r ≡ q = cc in subst F k h

-- the channel that a take is on
abbrev pub TakeOn : Proc → ℕ → Link → Side → Type 0
TakeOn p zero l s = (l ≡ p.own) × (s ≡ Provider)
TakeOn p (suc x) l s = (find_key (suc x) p.uses ≡ Some l) × (s ≡ Client)

pub takes_is : (p : Proc) (x : ℕ) (l : Link) (s : Side) → takes p x ≡ Takes l s → TakeOn p x l s
takes_is p zero l s e = ((cc), (cc))
takes_is p (suc x) l s e = found (find_key (suc x) p.uses) e
  where
    found : (f : Option Link) → takes_at (suc x) f ≡ Takes l s → (f ≡ Some l) × (s ≡ Client)
    found None e = cc
    found (Some k) e = ((cc), (cc))

-- a take leaves these as they are
pub record Took (r q : Proc) : Type 0 where
  pub pid : q.pid ≡ r.pid
  pub own : q.own ≡ r.own
  pub moment : q.moment ≡ r.moment
  pub potential : q.potential ≡ r.potential
  pub spawned : q.spawned ≡ r.spawned

-- the used channels after a body was taken on channel x
abbrev pub UsesAfter : ℕ → Body → Proc → Proc → Type 0
UsesAfter x (Label l) r q = q.uses ≡ r.uses
UsesAfter x End r q = q.uses ≡ drop_key x r.uses
UsesAfter x (Chan c) r q = q.uses ≡ r.uses ++ (r.fresh, c) ∷ []
UsesAfter x (Nat n) r q = q.uses ≡ r.uses
UsesAfter x Assert r q = q.uses ≡ r.uses
UsesAfter x Pay r q = q.uses ≡ r.uses

pub record TookAt (x : ℕ) (b : Body) (r q : Proc) : Type 0 where
  pub same : Took r q
  pub uses : UsesAfter x b r q

at_branch_is : (x l : ℕ) (r q : Proc) (o : Option ℕ) → at_branch r o ≡ Some q → TookAt x (Label l) r q
at_branch_is x l r q None e = cc
at_branch_is x l r q (Some n) e = some_to (TookAt x (Label l) r) (at_node r n) q e (record { same = record { pid = refl; own = refl; moment = refl; potential = refl; spawned = refl }; uses = refl })

took_if : (x : ℕ) (b : Body) (r s q : Proc) (room : Bool) → TookAt x b r s → (if room then Some s else None) ≡ Some q → TookAt x b r q
took_if x b r s q false h e = cc
took_if x b r s q true h e = some_to (TookAt x b r) s q e h

took_is : (nd : Node) (r q : Proc) (b : Body) (t : Touch) → touches nd ≡ Some t → took nd r b ≡ Some q → TookAt t.x b r q
took_is (node.Case x bs) r q (Label l) t i e = at_branch_is t.x l r q (find_key l bs) e
took_is (node.Recv x y n) r q (Chan c) t i e = took_if t.x (Chan c) r (at_node (with_channel r c) n) q (has_room r.uses) (record { same = record { pid = refl; own = refl; moment = refl; potential = refl; spawned = refl }; uses = refl }) e
took_is (node.Bind x v n) r q (Nat k) t i e = took_if t.x (Nat k) r (at_node (record r { values = r.values ++ k ∷ [] }) n) q (nat_lt (length r.values) 16) (record { same = record { pid = refl; own = refl; moment = refl; potential = refl; spawned = refl }; uses = refl }) e
took_is (node.Assume x n) r q Assert t i e = some_to (TookAt t.x Assert r) (at_node r n) q e (record { same = record { pid = refl; own = refl; moment = refl; potential = refl; spawned = refl }; uses = refl })
took_is (node.Get x n) r q Pay t i e = some_to (TookAt t.x Pay r) (at_node r n) q e (record { same = record { pid = refl; own = refl; moment = refl; potential = refl; spawned = refl }; uses = refl })
took_is (node.Wait x n) r q End t i e =
    let same_x : x ≡ t.x = cc in
    some_to (TookAt t.x End r) (at_node (less_channel r x) n) q e (record { same = record { pid = refl; own = refl; moment = refl; potential = refl; spawned = refl }; uses = ap (λ (k : ℕ). drop_key k r.uses) same_x })
took_is nd r q b t i e = cc

-- a node that takes on channel x does nothing else
acts_take : (g : Program) (a : Linear) (b : Bool) (k : ℕ) (p : Proc) (nd : Node) (t : Touch) (q r : Proc) (bd : Body) → touches nd ≡ Some t → took nd r bd ≡ Some q → act g a b k p nd ≡ takes p t.x
acts_take g a b k p (node.Case x bs) t q r bd i e = ap (takes p) (let z : x ≡ t.x = cc in z)
acts_take g a b k p (node.Recv x y n) t q r bd i e = ap (takes p) (let z : x ≡ t.x = cc in z)
acts_take g a b k p (node.Bind x v n) t q r bd i e = ap (takes p) (let z : x ≡ t.x = cc in z)
acts_take g a b k p (node.Assume x n) t q r bd i e = ap (takes p) (let z : x ≡ t.x = cc in z)
acts_take g a b k p (node.Get x n) t q r bd i e = ap (takes p) (let z : x ≡ t.x = cc in z)
acts_take g a b k p (node.Wait x n) t q r bd i e = ap (takes p) (let z : x ≡ t.x = cc in z)
acts_take g a b k p nd t q r bd i e = cc

-- a take of a message on a link: its channel, and what it leaves
pub record Taken (p q : Proc) (m : Msg) (l : Link) (s : Side) : Type 0 where
  pub x : ℕ
  pub on : TakeOn p x l s
  pub at : TookAt x m.body (with_message p x m) q

taken_is : (g : Program) (a : Linear) (b : Bool) (k : ℕ) (p q : Proc) (nd : Node) (m : Msg) (l : Link) (s : Side) (o : Option Touch) → touches nd ≡ o → act g a b k p nd ≡ Takes l s → took_on o nd p m ≡ Some q → Taken p q m l s
taken_is g a b k p q nd m l s None i d e = cc
taken_is g a b k p q nd m l s (Some t) i d e =
    record { x = t.x; on = takes_is p t.x l s (sym (acts_take g a b k p nd t q (with_message p t.x m) m.body i e) ∙ d); at = took_is nd (with_message p t.x m) q m.body t i e }

taken_at_is : (c : Code) (k : ℕ) (p q : Proc) (m : Msg) (l : Link) (s : Side) (o : Option Node) → act_at c k p o ≡ Takes l s → taken_at o p m ≡ Some q → Taken p q m l s
taken_at_is c k p q m l s None d e = cc
taken_at_is c k p q m l s (Some nd) d e = taken_is c.program (get_or c.paid p.node nought) (get_or c.positive p.node false) k p q nd m l s (touches nd) refl d e

pub taken : (c : Code) (k : ℕ) (p q : Proc) (m : Msg) (l : Link) (s : Side) → deed c k p ≡ Takes l s → after_take c p m ≡ Some q → Taken p q m l s
taken c k p q m l s d e = taken_at_is c k p q m l s (slice_get c.program.nodes p.node) d e

-- ---- links after a take

pub set_finds : {A : Type 0} (x : ℕ) (a b : A) (us : List (ℕ × A)) → find_key x us ≡ Some a → find_key x (set_key x b us) ≡ Some b
set_finds {A} x a b [] h = cc
set_finds {A} x a b (e ∷ es) h = set_finds_step x a b e es (set_finds x a b es) h
  where
    set_finds_step : (x : ℕ) (a b : A) (e : ℕ × A) (es : List (ℕ × A)) → (find_key x es ≡ Some a → find_key x (set_key x b es) ≡ Some b) → find_key x (e ∷ es) ≡ Some a → find_key x (set_key x b (e ∷ es)) ≡ Some b
    set_finds_step x a b e es ih h = grind arith

pub record UpReceived (p q : Proc) (n l : Link) (b : Body) : Type 0 where
  pub own : q.own ≡ p.own
  pub held : (y : Link) → held_by y q.uses + hit y l ≡ held_by y p.uses + times y (carried b) + times y (continued b n)

pub record DownReceived (p q : Proc) (n : Link) (b : Body) : Type 0 where
  pub own : q.own ≡ n
  pub held : (y : Link) → held_by y q.uses ≡ held_by y p.uses + times y (carried b)

-- The end comes from a provider alone, so nothing is said of it here where it comes from a client.
abbrev pub Received : Proc → Link → Side → Link → Body → Proc → Type 0
Received p l Client n b q = UpReceived p q n l b
Received p l Provider n b q = (b ≡ End → ⊥) → DownReceived p q n b

up_held : (p q : Proc) (m : Msg) (x : ℕ) (l : Link) (b : Body) → find_key (suc x) p.uses ≡ Some l → UsesAfter (suc x) b (with_message p (suc x) m) q → (y : Link) → held_by y q.uses + hit y l ≡ held_by y p.uses + times y (carried b) + times y (continued b m.next)
up_held p q m x l (Label n) f u y = omega (arith, ap (held_by y) u, set_held (suc x) l y m.next p.uses f)
up_held p q m x l End f u y = omega (arith, ap (held_by y) u, set_held (suc x) l y m.next p.uses f, drop_held (suc x) m.next y (set_key (suc x) m.next p.uses) (set_finds (suc x) l m.next p.uses f))
up_held p q m x l (Chan c) f u y = omega (arith, ap (held_by y) u, set_held (suc x) l y m.next p.uses f, held-append y (set_key (suc x) m.next p.uses) ((p.fresh, c) ∷ []))
up_held p q m x l (Nat n) f u y = omega (arith, ap (held_by y) u, set_held (suc x) l y m.next p.uses f)
up_held p q m x l Assert f u y = omega (arith, ap (held_by y) u, set_held (suc x) l y m.next p.uses f)
up_held p q m x l Pay f u y = omega (arith, ap (held_by y) u, set_held (suc x) l y m.next p.uses f)

down_held : (p q : Proc) (m : Msg) (b : Body) → (b ≡ End → ⊥) → UsesAfter 0 b (with_message p 0 m) q → (y : Link) → held_by y q.uses ≡ held_by y p.uses + times y (carried b)
down_held p q m (Label n) ne u y = omega (arith, ap (held_by y) u)
down_held p q m End ne u y = absurd (ne refl)
down_held p q m (Chan c) ne u y = omega (arith, ap (held_by y) u, held-append y p.uses ((p.fresh, c) ∷ []))
down_held p q m (Nat n) ne u y = omega (arith, ap (held_by y) u)
down_held p q m Assert ne u y = omega (arith, ap (held_by y) u)
down_held p q m Pay ne u y = omega (arith, ap (held_by y) u)

received_at : (p q : Proc) (m : Msg) (x : ℕ) (l : Link) (s : Side) → TakeOn p x l s → TookAt x m.body (with_message p x m) q → Received p l s m.next m.body q
received_at p q m zero l Client t a = cc t.1
received_at p q m zero l Provider t a = λ ne. record { own = a.same.own; held = down_held p q m m.body ne a.uses }
received_at p q m (suc x) l Provider t a = cc t.1
received_at p q m (suc x) l Client t a = record { own = a.same.own; held = up_held p q m x l m.body t.0 a.uses }

pub received : (c : Code) (k : ℕ) (p q : Proc) (m : Msg) (l : Link) (s : Side) → deed c k p ≡ Takes l s → after_take c p m ≡ Some q → Received p l s m.next m.body q
received c k p q m l s d e = let t = taken c k p q m l s d e in received_at p q m t.x l s t.on t.at

-- the process's number, moment and potential after a take
pub record TookOver (p : Proc) (m : Msg) (q : Proc) : Type 0 where
  pub pid : q.pid ≡ p.pid
  pub moment : q.moment ≡ max p.moment m.moment
  pub potential : q.potential ≡ p.potential + m.potential
  pub spawned : q.spawned ≡ p.spawned

over_at : (p q : Proc) (m : Msg) (x : ℕ) → Took (with_message p x m) q → TookOver p m q
over_at p q m zero t = record { pid = t.pid; moment = t.moment; potential = t.potential; spawned = t.spawned }
over_at p q m (suc x) t = record { pid = t.pid; moment = t.moment; potential = t.potential; spawned = t.spawned }

took_over_at : (nd : Node) (p q : Proc) (m : Msg) (o : Option Touch) → touches nd ≡ o → took_on o nd p m ≡ Some q → TookOver p m q
took_over_at nd p q m None i e = cc
took_over_at nd p q m (Some t) i e = over_at p q m t.x (took_is nd (with_message p t.x m) q m.body t i e).same

taken_over : (p q : Proc) (m : Msg) (o : Option Node) → taken_at o p m ≡ Some q → TookOver p m q
taken_over p q m None e = cc
taken_over p q m (Some nd) e = took_over_at nd p q m (touches nd) refl e

pub took_over : (c : Code) (p q : Proc) (m : Msg) → after_take c p m ≡ Some q → TookOver p m q
took_over c p q m e = taken_over p q m (slice_get c.program.nodes p.node) e
