-- What each deed does to the links of its process.
use Rattle.std.proofs.Common.{◌≡◌, ℕ, ℤ, zero, suc, Bool, true, false, ◌≤◌, ◌+◌, ◌-◌, ◌==◌, List, [], ◌∷◌, Option, Some, None, arith, refl, ap, ◌∙◌, slice_get, if◌then◌else◌, length, ◌&&◌}
use Rattle.std.specs.Prelude.{nat_le, slice_index_or as get_or}
use Rattle.rast_index.specs.Keys.{find_key, pull}
use Rattle.rast_index.specs.Linear.{Linear, nought}
use Rattle.rast_terms.specs.declared.node.Node.{Node}
use Rattle.rast_terms.specs.declared.node.Node.TheVariants as node
use Rattle.rast_terms.specs.declared.program.Program.{Program}
use Rattle.rast_terms.specs.declared.program.Decl.{Decl}
use Rattle.rast_items.specs.Items.{after_link, link_at, pid_at, carried, continued, hit, times}
use Rattle.rast_items.specs.Deeds.{Code, Deed, Puts, Takes, Moves, Makes, Turns, Works, Delays, Halts, Breaks, at_values, large_in, naturals, unless_large, with_values, first, with_link, less_channel, at_node, msg_on, puts_at, puts, puts_chan, takes_at, takes, closes, forwards, process_at, parent_after, turns, argument_values, handed_over, with_arguments, has_room, makes_at, turns_at, act, act_at, deed, makes}
use Rattle.rast_order.proofs.Words.{Link, Proc, Msg, Side, Client, Provider, Body, Label, End, Chan, Nat, Assert, Pay}
use Rattle.rast_order.proofs.Keys.{held_by, drop_held, set_held, set_has, held-append, numbered_held, pull_held}

-- the same process on the same links
pub record SameLinks (p q : Proc) : Type 0 where
  pub own : q.own ≡ p.own
  pub pid : q.pid ≡ p.pid
  pub held : (x : Link) → held_by x q.uses ≡ held_by x p.uses

-- a message that isn't the end goes on at its next link
abbrev pub GoesOn : Body → Type 0
GoesOn b = (next x : Link) → times x (continued b next) ≡ hit x next

pub record PutUp (p : Proc) (m : Msg) (q : Proc) : Type 0 where
  pub link : m.link ≡ p.own
  pub next : m.next ≡ after_link p.own
  pub own : q.own ≡ m.next
  pub pid : q.pid ≡ p.pid
  pub held : (x : Link) → held_by x q.uses + times x (carried m.body) ≡ held_by x p.uses
  pub goes : GoesOn m.body

pub record PutDown (p : Proc) (m : Msg) (q : Proc) : Type 0 where
  pub next : m.next ≡ after_link m.link
  pub own : q.own ≡ p.own
  pub pid : q.pid ≡ p.pid
  pub held : (x : Link) → held_by x q.uses + hit x m.link + times x (carried m.body) ≡ held_by x p.uses + hit x m.next
  pub has : (x : Link) → hit x m.next ≤ held_by x q.uses
  pub goes : GoesOn m.body

pub record PutEnd (p : Proc) (m : Msg) : Type 0 where
  pub link : m.link ≡ p.own
  pub body : m.body ≡ End
  pub uses : p.uses ≡ []
  pub next : m.next ≡ m.link

abbrev pub PutSound : Proc → Msg → Side → Option Proc → Type 0
PutSound p m Client None = PutEnd p m
PutSound p m Client (Some q) = PutUp p m q
PutSound p m Provider None = ⊥
PutSound p m Provider (Some q) = PutDown p m q

abbrev pub TakeSound : Proc → Link → Side → Type 0
TakeSound p l Client = (x : Link) → hit x l ≤ held_by x p.uses
TakeSound p l Provider = l ≡ p.own

pub record MakeSound (k : ℕ) (p child rest : Proc) : Type 0 where
  pub child_pid : child.pid ≡ pid_at k
  pub child_own : child.own ≡ link_at k 0
  pub own : rest.own ≡ p.own
  pub pid : rest.pid ≡ p.pid
  pub held : (x : Link) → held_by x child.uses + held_by x rest.uses ≡ held_by x p.uses + hit x child.own
  pub has : (x : Link) → hit x child.own ≤ held_by x rest.uses

abbrev pub DeedSound : ℕ → Proc → Deed → Type 0
DeedSound k p (Puts m rest) = PutSound p m m.toward rest
DeedSound k p (Takes l s) = TakeSound p l s
DeedSound k p (Moves other wait) = (x : Link) → held_by x p.uses ≡ hit x other
DeedSound k p (Makes child rest d) = MakeSound k p child rest
DeedSound k p (Turns rest d) = SameLinks p rest
DeedSound k p (Works q rest) = SameLinks p rest
DeedSound k p (Delays t rest) = SameLinks p rest
DeedSound k p (Halts v) = Unit {0}
DeedSound k p Breaks = Unit {0}

-- ---- what holds of every deed that values may lead to

unless_large_to : (F : Deed → Type 0) (v : Option ℕ) (o : Option (List ℕ)) (f : List ℕ → Deed) → ((n : ℕ) → F (Halts n)) → F Breaks → ((ns : List ℕ) → F (f ns)) → F (unless_large v o f)
unless_large_to F (Some n) o f h b t = h n
unless_large_to F None None f h b t = b
unless_large_to F None (Some ns) f h b t = t ns

pub with_values_to : (F : Deed → Type 0) (zs : List ℤ) (f : List ℕ → Deed) → ((n : ℕ) → F (Halts n)) → F Breaks → ((ns : List ℕ) → F (f ns)) → F (with_values zs f)
with_values_to F zs f h b t = unless_large_to F (large_in zs) (naturals zs) f h b t

with_arguments_to : (F : Deed → Type 0) (p : Proc) (es : List Linear) (decl : Decl) (f : List ℕ → ℕ → Deed) (few : Bool) → ((n : ℕ) → F (Halts n)) → F Breaks → ((ns : List ℕ) (q : ℕ) → F (f ns q)) → F (if few then with_values (argument_values p es) (λ ns. with_values (handed_over decl ns) (λ qs. f ns (first qs))) else Breaks)
with_arguments_to F p es decl f false h b t = b
with_arguments_to F p es decl f true h b t = with_values_to F (argument_values p es) (λ ns. with_values (handed_over decl ns) (λ qs. f ns (first qs))) h b (λ ns. with_values_to F (handed_over decl ns) (λ qs. f ns (first qs)) h b (λ qs. t ns (first qs)))

pub arguments_to : (F : Deed → Type 0) (p : Proc) (es : List Linear) (decl : Decl) (f : List ℕ → ℕ → Deed) → ((n : ℕ) → F (Halts n)) → F Breaks → ((ns : List ℕ) (q : ℕ) → F (f ns q)) → F (with_arguments p es decl f)
arguments_to F p es decl f h b t = with_arguments_to F p es decl f (nat_le (length es) 16) h b t

values_sound : (k : ℕ) (p : Proc) (zs : List ℤ) (f : List ℕ → Deed) → ((ns : List ℕ) → DeedSound k p (f ns)) → DeedSound k p (with_values zs f)
values_sound k p zs f t = with_values_to (DeedSound k p) zs f (λ n. tt) tt t

arguments_sound : (k : ℕ) (p : Proc) (es : List Linear) (decl : Decl) (f : List ℕ → ℕ → Deed) → ((ns : List ℕ) (q : ℕ) → DeedSound k p (f ns q)) → DeedSound k p (with_arguments p es decl f)
arguments_sound k p es decl f t = arguments_to (DeedSound k p) p es decl f (λ n. tt) tt t

-- ---- each kind of deed

-- a send on channel x by p, which goes on from r: r has given away what the body carries
puts_up : (k : ℕ) (p r : Proc) (b : Body) (q n : ℕ) (enough : Bool) → r.own ≡ p.own → r.pid ≡ p.pid → ((y : Link) → held_by y r.uses + times y (carried b) ≡ held_by y p.uses) → GoesOn b →
    DeedSound k p (if enough then Puts (msg_on r.own Client b r.moment q) (Some (at_node (record (with_link r 0 (after_link r.own)) { potential = r.potential - q }) n)) else Breaks)
puts_up k p r b q n false o i h g = tt
puts_up k p r b q n true o i h g = record { link = o; next = ap after_link o; own = refl; pid = i; held = h; goes = g }

puts_down : (k : ℕ) (p r : Proc) (c : ℕ) (l : Link) (b : Body) (q n : ℕ) (enough : Bool) → find_key (suc c) r.uses ≡ Some l → r.own ≡ p.own → r.pid ≡ p.pid → ((y : Link) → held_by y r.uses + times y (carried b) ≡ held_by y p.uses) → GoesOn b →
    DeedSound k p (if enough then Puts (msg_on l Provider b r.moment q) (Some (at_node (record (with_link r (suc c) (after_link l)) { potential = r.potential - q }) n)) else Breaks)
puts_down k p r c l b q n false e o i h g = tt
puts_down k p r c l b q n true e o i h g =
    record { next = refl; own = o; pid = i; held = λ y. omega (arith, set_held (suc c) l y (after_link l) r.uses e, h y); has = λ y. set_has (suc c) l y (after_link l) r.uses e; goes = g }

puts_on : (k : ℕ) (p r : Proc) (x : ℕ) (b : Body) (q n : ℕ) → r.own ≡ p.own → r.pid ≡ p.pid → ((y : Link) → held_by y r.uses + times y (carried b) ≡ held_by y p.uses) → GoesOn b → DeedSound k p (puts r x b q n)
puts_on k p r zero b q n o i h g = puts_up k p r b q n (nat_le q r.potential) o i h g
puts_on k p r (suc c) b q n o i h g = found (find_key (suc c) r.uses) refl
  where
    found : (f : Option Link) → find_key (suc c) r.uses ≡ f → DeedSound k p (puts_at r (suc c) b q n f)
    found None e = tt
    found (Some l) e = puts_down k p r c l b q n (nat_le q r.potential) e o i h g

-- a send of a body that carries nothing
puts_plain : (k : ℕ) (p : Proc) (x : ℕ) (b : Body) (q n : ℕ) → carried b ≡ [] → GoesOn b → DeedSound k p (puts p x b q n)
puts_plain k p x b q n e g = puts_on k p p x b q n refl refl (λ y. omega (arith, ap (times y) e)) g

takes_on : (k : ℕ) (p : Proc) (x : ℕ) → DeedSound k p (takes p x)
takes_on k p zero = refl
takes_on k p (suc x) = found (find_key (suc x) p.uses) refl
  where
    found : (f : Option Link) → find_key (suc x) p.uses ≡ f → DeedSound k p (takes_at (suc x) f)
    found None e = tt
    found (Some l) e = λ y. omega (arith, drop_held (suc x) l y p.uses e)

puts_chan_on : (k : ℕ) (p : Proc) (x w : ℕ) (o : Option Link) (n : ℕ) → find_key w p.uses ≡ o → DeedSound k p (puts_chan p x w o n)
puts_chan_on k p x w None n e = tt
puts_chan_on k p x w (Some l) n e = puts_on k p (less_channel p w) x (Chan l) 0 n refl refl (λ y. omega (arith, drop_held w l y p.uses e)) (λ next y. omega arith)

closes_on : (k : ℕ) (p : Proc) (us : List (ℕ × Link)) → p.uses ≡ us → DeedSound k p (closes p us)
closes_on k p [] e = record { link = refl; body = refl; uses = e; next = refl }
closes_on k p (u ∷ us) e = tt

forward_one : (k : ℕ) (p : Proc) (u : ℕ × Link) (w : Link) (b : Bool) → p.uses ≡ u ∷ [] → DeedSound k p (if b then Moves u.1 w else Breaks)
forward_one k p u w true e = λ x. ap (held_by x) e ∙ omega arith
forward_one k p u w false e = tt

forwards_on : (k : ℕ) (p : Proc) (y : ℕ) (b : Bool) (us : List (ℕ × Link)) → p.uses ≡ us → DeedSound k p (forwards p y b us)
forwards_on k p y b [] e = tt
forwards_on k p y b (u ∷ []) e = forward_one k p u (if b then u.1 else p.own) (u.0 == y) e
forwards_on k p y b (u ∷ v ∷ us) e = tt

makes_one : (k : ℕ) (p : Proc) (d : ℕ) (decl : Decl) (ys : List ℕ) (r : List Link × List (ℕ × Link)) (n : ℕ) (vs : List ℕ) (q : ℕ) (enough : Bool) → pull ys p.uses ≡ Some r →
    DeedSound k p (if enough then Makes (process_at k decl vs r.0 p.moment q) (parent_after k p r.1 q n) d else Breaks)
makes_one k p d decl ys r n vs q false e = tt
makes_one k p d decl ys r n vs q true e = record {
  child_pid = refl;
  child_own = refl;
  own = refl;
  pid = refl;
  held = λ x. omega (arith, numbered_held x 1 r.0, held-append x r.1 ((p.fresh, link_at k 0) ∷ []), pull_held x ys p.uses r e);
  has = λ x. omega (arith, held-append x r.1 ((p.fresh, link_at k 0) ∷ []));
}

makes_on : (k : ℕ) (p : Proc) (es : List Linear) (d n : ℕ) (o : Option Decl) (ys : List ℕ) (r : Option (List Link × List (ℕ × Link))) → pull ys p.uses ≡ r → DeedSound k p (makes_at k p es d n o r)
makes_on k p es d n None ys r e = tt
makes_on k p es d n (Some decl) ys None e = tt
makes_on k p es d n (Some decl) ys (Some r) e = arguments_sound k p es decl (λ ns q. makes k p d decl r n ns q) (λ ns q. makes_one k p d decl ys r n ns q (nat_le q p.potential && has_room r.1) e)

turns_one : (k : ℕ) (p : Proc) (d : ℕ) (decl : Decl) (ls : List Link) (us : List (ℕ × Link)) (vs : List ℕ) → ((x : Link) → times x ls + held_by x us ≡ held_by x p.uses) → DeedSound k p (turns p d decl ls us vs)
turns_one k p d decl ls [] vs h = record { own = refl; pid = refl; held = λ x. omega (arith, numbered_held x 1 ls, h x) }
turns_one k p d decl ls (u ∷ us) vs h = tt

turns_on : (k : ℕ) (p : Proc) (es : List Linear) (d : ℕ) (o : Option Decl) (ys : List ℕ) (r : Option (List Link × List (ℕ × Link))) → pull ys p.uses ≡ r → DeedSound k p (turns_at p es d o r)
turns_on k p es d None ys r e = tt
turns_on k p es d (Some decl) ys None e = tt
turns_on k p es d (Some decl) ys (Some r) e = arguments_sound k p es decl (λ ns q. turns p d decl r.0 r.1 ns) (λ ns q. turns_one k p d decl r.0 r.1 ns (λ x. pull_held x ys p.uses r e))

works_one : (k : ℕ) (p : Proc) (n q : ℕ) (enough : Bool) → DeedSound k p (if enough then Works q (at_node (record p { potential = p.potential - q }) n) else Breaks)
works_one k p n q false = tt
works_one k p n q true = record { own = refl; pid = refl; held = λ x. refl }

act_sound : (g : Program) (a : Linear) (b : Bool) (k : ℕ) (p : Proc) (nd : Node) → DeedSound k p (act g a b k p nd)
act_sound g a b k p (node.Label x l n) = puts_plain k p x (Label l) 0 n refl (λ next y. omega arith)
act_sound g a b k p (node.Case x bs) = takes_on k p x
act_sound g a b k p (node.Send x w rs n) = puts_chan_on k p x w (find_key w p.uses) n refl
act_sound g a b k p (node.Recv x y n) = takes_on k p x
act_sound g a b k p (node.Index x e n) = values_sound k p (at_values p e ∷ []) _ (λ ns. puts_plain k p x (Nat (first ns)) 0 n refl (λ next y. omega arith))
act_sound g a b k p (node.Bind x v n) = takes_on k p x
act_sound g a b k p (node.Assert x n) = puts_plain k p x Assert 0 n refl (λ next y. omega arith)
act_sound g a b k p (node.Assume x n) = takes_on k p x
act_sound g a b k p (node.Pay x n) = values_sound k p (at_values p a ∷ []) _ (λ ns. puts_plain k p x Pay (first ns) n refl (λ next y. omega arith))
act_sound g a b k p (node.Get x n) = takes_on k p x
act_sound g a b k p (node.Close x) = closes_on k p p.uses refl
act_sound g a b k p (node.Wait x n) = takes_on k p x
act_sound g a b k p (node.Forward x y rs) = forwards_on k p y b p.uses refl
act_sound g a b k p (node.Spawn v d es ys rs n) = makes_on k p es d n (slice_get g.decls d) ys (pull ys p.uses) refl
act_sound g a b k p (node.Call x d es ys rs) = turns_on k p es d (slice_get g.decls d) ys (pull ys p.uses) refl
act_sound g a b k p node.Impossible = tt
act_sound g a b k p (node.Work r n) = values_sound k p (at_values p r ∷ []) _ (λ ns. works_one k p n (first ns) (nat_le (first ns) p.potential))
act_sound g a b k p (node.Delay t n) = values_sound k p (at_values p t ∷ []) _ (λ ns. record { own = refl; pid = refl; held = λ x. refl })

act_at_sound : (c : Code) (k : ℕ) (p : Proc) (o : Option Node) → DeedSound k p (act_at c k p o)
act_at_sound c k p None = tt
act_at_sound c k p (Some nd) = act_sound c.program (get_or c.paid p.node nought) (get_or c.positive p.node false) k p nd

pub deed_sound : (c : Code) (k : ℕ) (p : Proc) → DeedSound k p (deed c k p)
deed_sound c k p = act_at_sound c k p (slice_get c.program.nodes p.node)
