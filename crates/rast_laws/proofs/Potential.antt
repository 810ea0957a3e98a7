-- What each deed does to potential.
use Rattle.std.proofs.Common.{◌≡◌, ℕ, ℤ, Bool, true, false, ◌+◌, ◌-◌, ◌==◌, List, [], ◌∷◌, Option, Some, None, arith, refl, ◌∙◌, slice_get, if◌then◌else◌, ◌&&◌, leb-true}
use Rattle.std.specs.Prelude.{nat_le, slice_index_or as get_or}
use Rattle.rast_index.specs.Keys.{find_key, pull}
use Rattle.rast_index.specs.Linear.{Linear, nought}
use Rattle.rast_terms.specs.declared.node.Node.{Node}
use Rattle.rast_terms.specs.declared.node.Node.TheVariants as node
use Rattle.rast_terms.specs.declared.program.Program.{Program}
use Rattle.rast_terms.specs.declared.program.Decl.{Decl}
use Rattle.rast_items.specs.Items.{after_link}
use Rattle.rast_items.specs.Deeds.{Code, Deed, Puts, Takes, Moves, Makes, Turns, Works, Delays, Halts, Breaks, at_values, first, link_of, with_link, less_channel, at_node, out, msg_on, puts_at, puts_chan, takes_at, closes, forwards, process_at, parent_after, makes, turns, with_arguments, has_room, makes_at, turns_at, with_values, act, act_at, deed}
use Rattle.rast_order.proofs.Words.{Link, Proc, Msg, Body, Label, Chan, Nat, Assert, Pay}
use Rattle.rast_order.proofs.Counts.{and_left}
use Rattle.rast_order.proofs.Deeds.{with_values_to, arguments_to}

abbrev pub RestPotential : Proc → Msg → Option Proc → Type 0
RestPotential p m None = m.potential ≡ 0
RestPotential p m (Some q) = m.potential + q.potential ≡ p.potential

abbrev pub DeedPotential : Proc → Deed → Type 0
DeedPotential p (Puts m rest) = RestPotential p m rest
DeedPotential p (Takes l s) = Unit {0}
DeedPotential p (Moves other wait) = Unit {0}
DeedPotential p (Makes child rest d) = child.potential + rest.potential ≡ p.potential
DeedPotential p (Turns rest d) = rest.potential ≡ p.potential
DeedPotential p (Works q rest) = q + rest.potential ≡ p.potential
DeedPotential p (Delays t rest) = rest.potential ≡ p.potential
DeedPotential p (Halts v) = Unit {0}
DeedPotential p Breaks = Unit {0}

values_potential : (p : Proc) (zs : List ℤ) (f : List ℕ → Deed) → ((ns : List ℕ) → DeedPotential p (f ns)) → DeedPotential p (with_values zs f)
values_potential p zs f t = with_values_to (DeedPotential p) zs f (λ n. tt) tt t

arguments_potential : (p : Proc) (es : List Linear) (decl : Decl) (f : List ℕ → ℕ → Deed) → ((ns : List ℕ) (q : ℕ) → DeedPotential p (f ns q)) → DeedPotential p (with_arguments p es decl f)
arguments_potential p es decl f t = arguments_to (DeedPotential p) p es decl f (λ n. tt) tt t

-- what is taken away and what is left
left_over : (q n : ℕ) → nat_le q n ≡ true → q + (n - q) ≡ n
left_over q n e = omega (arith, leb-true q n e)

puts_some : (p r : Proc) (x : ℕ) (b : Body) (q n : ℕ) (l : Link) (e : Bool) → nat_le q r.potential ≡ e → r.potential ≡ p.potential → DeedPotential p (if e then Puts (msg_on l (out x) b r.moment q) (Some (at_node (record (with_link r x (after_link l)) { potential = r.potential - q }) n)) else Breaks)
puts_some p r x b q n l false e h = tt
puts_some p r x b q n l true e h = left_over q r.potential e ∙ h

puts_over : (p r : Proc) (x : ℕ) (b : Body) (q n : ℕ) (o : Option Link) → r.potential ≡ p.potential → DeedPotential p (puts_at r x b q n o)
puts_over p r x b q n None h = tt
puts_over p r x b q n (Some l) h = puts_some p r x b q n l (nat_le q r.potential) refl h

takes_over : (p : Proc) (x : ℕ) (o : Option Link) → DeedPotential p (takes_at x o)
takes_over p x None = tt
takes_over p x (Some l) = tt

puts_chan_over : (p : Proc) (x w : ℕ) (o : Option Link) (n : ℕ) → DeedPotential p (puts_chan p x w o n)
puts_chan_over p x w None n = tt
puts_chan_over p x w (Some l) n = puts_over p (less_channel p w) x (Chan l) 0 n (link_of (less_channel p w) x) refl

closes_over : (p : Proc) (us : List (ℕ × Link)) → DeedPotential p (closes p us)
closes_over p [] = refl
closes_over p (u ∷ us) = tt

forward_over : (p : Proc) (l w : Link) (b : Bool) → DeedPotential p (if b then Moves l w else Breaks)
forward_over p l w true = tt
forward_over p l w false = tt

forwards_over : (p : Proc) (y : ℕ) (b : Bool) (us : List (ℕ × Link)) → DeedPotential p (forwards p y b us)
forwards_over p y b [] = tt
forwards_over p y b (u ∷ []) = forward_over p u.1 (if b then u.1 else p.own) (u.0 == y)
forwards_over p y b (u ∷ v ∷ us) = tt

makes_some : (k : ℕ) (p : Proc) (d : ℕ) (decl : Decl) (r : List Link × List (ℕ × Link)) (n : ℕ) (vs : List ℕ) (q : ℕ) (e : Bool) → (e ≡ true → nat_le q p.potential ≡ true) → DeedPotential p (if e then Makes (process_at k decl vs r.0 p.moment q) (parent_after k p r.1 q n) d else Breaks)
makes_some k p d decl r n vs q false e = tt
makes_some k p d decl r n vs q true e = left_over q p.potential (e refl)

makes_over : (k : ℕ) (p : Proc) (es : List Linear) (d n : ℕ) (o : Option Decl) (r : Option (List Link × List (ℕ × Link))) → DeedPotential p (makes_at k p es d n o r)
makes_over k p es d n None r = tt
makes_over k p es d n (Some decl) None = tt
makes_over k p es d n (Some decl) (Some r) = arguments_potential p es decl (λ ns q. makes k p d decl r n ns q) (λ ns q. makes_some k p d decl r n ns q (nat_le q p.potential && has_room r.1) (λ e. (and_left (nat_le q p.potential) (has_room r.1) e).0))

turns_some : (p : Proc) (d : ℕ) (decl : Decl) (ls : List Link) (us : List (ℕ × Link)) (vs : List ℕ) → DeedPotential p (turns p d decl ls us vs)
turns_some p d decl ls [] vs = refl
turns_some p d decl ls (u ∷ us) vs = tt

turns_over : (p : Proc) (es : List Linear) (d : ℕ) (o : Option Decl) (r : Option (List Link × List (ℕ × Link))) → DeedPotential p (turns_at p es d o r)
turns_over p es d None r = tt
turns_over p es d (Some decl) None = tt
turns_over p es d (Some decl) (Some r) = arguments_potential p es decl (λ ns q. turns p d decl r.0 r.1 ns) (λ ns q. turns_some p d decl r.0 r.1 ns)

works_some : (p : Proc) (n q : ℕ) (e : Bool) → nat_le q p.potential ≡ e → DeedPotential p (if e then Works q (at_node (record p { potential = p.potential - q }) n) else Breaks)
works_some p n q false e = tt
works_some p n q true e = left_over q p.potential e

act_potential : (g : Program) (a : Linear) (b : Bool) (k : ℕ) (p : Proc) (nd : Node) → DeedPotential p (act g a b k p nd)
act_potential g a b k p (node.Label x l n) = puts_over p p x (Label l) 0 n (link_of p x) refl
act_potential g a b k p (node.Case x bs) = takes_over p x (link_of p x)
act_potential g a b k p (node.Send x w rs n) = puts_chan_over p x w (find_key w p.uses) n
act_potential g a b k p (node.Recv x y n) = takes_over p x (link_of p x)
act_potential g a b k p (node.Index x e n) = values_potential p (at_values p e ∷ []) _ (λ ns. puts_over p p x (Nat (first ns)) 0 n (link_of p x) refl)
act_potential g a b k p (node.Bind x v n) = takes_over p x (link_of p x)
act_potential g a b k p (node.Assert x n) = puts_over p p x Assert 0 n (link_of p x) refl
act_potential g a b k p (node.Assume x n) = takes_over p x (link_of p x)
act_potential g a b k p (node.Pay x n) = values_potential p (at_values p a ∷ []) _ (λ ns. puts_over p p x Pay (first ns) n (link_of p x) refl)
act_potential g a b k p (node.Get x n) = takes_over p x (link_of p x)
act_potential g a b k p (node.Close x) = closes_over p p.uses
act_potential g a b k p (node.Wait x n) = takes_over p x (link_of p x)
act_potential g a b k p (node.Forward x y rs) = forwards_over p y b p.uses
act_potential g a b k p (node.Spawn v d es ys rs n) = makes_over k p es d n (slice_get g.decls d) (pull ys p.uses)
act_potential g a b k p (node.Call x d es ys rs) = turns_over p es d (slice_get g.decls d) (pull ys p.uses)
act_potential g a b k p node.Impossible = tt
act_potential g a b k p (node.Work r n) = values_potential p (at_values p r ∷ []) _ (λ ns. works_some p n (first ns) (nat_le (first ns) p.potential) refl)
act_potential g a b k p (node.Delay t n) = values_potential p (at_values p t ∷ []) _ (λ ns. refl)

act_at_potential : (c : Code) (k : ℕ) (p : Proc) (o : Option Node) → DeedPotential p (act_at c k p o)
act_at_potential c k p None = tt
act_at_potential c k p (Some nd) = act_potential c.program (get_or c.paid p.node nought) (get_or c.positive p.node false) k p nd

pub deed_potential : (c : Code) (k : ℕ) (p : Proc) → DeedPotential p (deed c k p)
deed_potential c k p = act_at_potential c k p (slice_get c.program.nodes p.node)
