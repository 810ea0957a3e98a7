-- A process halts at an index of 2 ^ 64 or more alone.
use Rattle.std.proofs.Common.{◌≡◌, ℕ, ℤ, pos, negsuc, ◌^◌, ◌≤◌, Bool, true, false, List, [], ◌∷◌, ◌++◌, length, Option, Some, None, refl, subst, if◌then◌else◌, slice_get}
use Rattle.std.proofs.lemmas.Bool.{leb-true}
use Rattle.std.specs.Prelude.{◌==◌, nat_le, ◌&&◌, slice_index_or as get_or}
use Rattle.rast_index.specs.Keys.{find_key, pull}
use Rattle.rast_index.specs.Linear.{Linear, nought}
use Rattle.rast_terms.specs.declared.program.Program.{Program}
use Rattle.rast_terms.specs.declared.program.Decl.{Decl}
use Rattle.rast_terms.specs.declared.node.Node.{Node}
use Rattle.rast_terms.specs.declared.node.Node.TheVariants as node
use Rattle.rast_items.specs.Deeds.{Code, Deed, Halts, Breaks, Puts, Takes, Moves, Makes, Turns, Works, Delays, at_values, large_in, naturals, unless_large, with_values, with_arguments, argument_values, handed_over, first, link_of, less_channel, puts_at, puts_chan, takes_at, closes, forwards, makes, turns, makes_at, turns_at, has_room, act, act_at, deed, after_take}
use Rattle.rast_items.specs.Step.{Halted, Cut, cut, is_proc, is_msg, take_from, take_it, take_client, take_provider, move_it, move_client, move_provider, does, at_item, at_cut, step}
use Rattle.rast_order.proofs.Words.{Link, Pid, Item, P, M, Proc, Msg, Client, Provider, Body, Label, Chan, Nat, Assert, Pay}

abbrev IsGreat : Deed → Type 0
IsGreat (Halts v) = 2 ^ 64 ≤ v
IsGreat d = Unit {0}

either : (b : Bool) (d e : Deed) → IsGreat d → IsGreat e → IsGreat (if b then d else e)
either true d e h k = h
either false d e h k = k

large_at : (n v : ℕ) (zs : List ℤ) (b : Bool) → nat_le (2 ^ 64) n ≡ b → (if b then Some n else large_in zs) ≡ Some v → (large_in zs ≡ Some v → 2 ^ 64 ≤ v) → 2 ^ 64 ≤ v
large_at n v zs true e h k = let m : n ≡ v = cc in subst (λ (x : ℕ). 2 ^ 64 ≤ x) m (leb-true (2 ^ 64) n e)
large_at n v zs false e h k = k h

large_great : (zs : List ℤ) (v : ℕ) → large_in zs ≡ Some v → 2 ^ 64 ≤ v
large_great [] v h = let none : None ≡ Some v = h in cc
large_great (pos n ∷ zs) v h = large_at n v zs (nat_le (2 ^ 64) n) refl h (large_great zs v)
large_great (negsuc n ∷ zs) v h = large_great zs v h

unless_great : (v : Option ℕ) (o : Option (List ℕ)) (f : List ℕ → Deed) → ((n : ℕ) → v ≡ Some n → 2 ^ 64 ≤ n) → ((ns : List ℕ) → IsGreat (f ns)) → IsGreat (unless_large v o f)
unless_great (Some n) o f h t = h n refl
unless_great None None f h t = tt
unless_great None (Some ns) f h t = t ns

values_great : (zs : List ℤ) (f : List ℕ → Deed) → ((ns : List ℕ) → IsGreat (f ns)) → IsGreat (with_values zs f)
values_great zs f t = unless_great (large_in zs) (naturals zs) f (large_great zs) t

arguments_great : (p : Proc) (es : List Linear) (decl : Decl) (f : List ℕ → ℕ → Deed) → ((ns : List ℕ) (q : ℕ) → IsGreat (f ns q)) → IsGreat (with_arguments p es decl f)
arguments_great p es decl f t =
    either (nat_le (length es) 16) (with_values (argument_values p es) (λ ns. with_values (handed_over decl ns) (λ qs. f ns (first qs)))) Breaks
    (values_great (argument_values p es) (λ ns. with_values (handed_over decl ns) (λ qs. f ns (first qs))) (λ ns. values_great (handed_over decl ns) (λ qs. f ns (first qs)) (λ qs. t ns (first qs)))) tt

-- ---- each kind of deed

puts_at_great : (p : Proc) (x : ℕ) (b : Body) (q n : ℕ) (o : Option Link) → IsGreat (puts_at p x b q n o)
puts_at_great p x b q n None = tt
puts_at_great p x b q n (Some l) = either (nat_le q p.potential) _ Breaks tt tt

puts_chan_great : (p : Proc) (x w : ℕ) (o : Option Link) (n : ℕ) → IsGreat (puts_chan p x w o n)
puts_chan_great p x w None n = tt
puts_chan_great p x w (Some l) n = puts_at_great (less_channel p w) x (Chan l) 0 n (link_of (less_channel p w) x)

takes_at_great : (x : ℕ) (o : Option Link) → IsGreat (takes_at x o)
takes_at_great x None = tt
takes_at_great x (Some l) = tt

closes_great : (p : Proc) (us : List (ℕ × Link)) → IsGreat (closes p us)
closes_great p [] = tt
closes_great p (u ∷ us) = tt

forwards_great : (p : Proc) (y : ℕ) (b : Bool) (us : List (ℕ × Link)) → IsGreat (forwards p y b us)
forwards_great p y b [] = tt
forwards_great p y b (u ∷ []) = either (u.0 == y) _ Breaks tt tt
forwards_great p y b (u ∷ v ∷ us) = tt

makes_great : (k : ℕ) (p : Proc) (es : List Linear) (d n : ℕ) (o : Option Decl) (r : Option (List Link × List (ℕ × Link))) → IsGreat (makes_at k p es d n o r)
makes_great k p es d n None r = tt
makes_great k p es d n (Some decl) None = tt
makes_great k p es d n (Some decl) (Some r) = arguments_great p es decl (λ ns q. makes k p d decl r n ns q) (λ ns q. either (nat_le q p.potential && has_room r.1) _ Breaks tt tt)

turns_one : (p : Proc) (d : ℕ) (decl : Decl) (ls : List Link) (us : List (ℕ × Link)) (vs : List ℕ) → IsGreat (turns p d decl ls us vs)
turns_one p d decl ls [] vs = tt
turns_one p d decl ls (u ∷ us) vs = tt

turns_great : (p : Proc) (es : List Linear) (d : ℕ) (o : Option Decl) (r : Option (List Link × List (ℕ × Link))) → IsGreat (turns_at p es d o r)
turns_great p es d None r = tt
turns_great p es d (Some decl) None = tt
turns_great p es d (Some decl) (Some r) = arguments_great p es decl (λ ns q. turns p d decl r.0 r.1 ns) (λ ns q. turns_one p d decl r.0 r.1 ns)

act_great : (g : Program) (a : Linear) (b : Bool) (k : ℕ) (p : Proc) (nd : Node) → IsGreat (act g a b k p nd)
act_great g a b k p (node.Label x l n) = puts_at_great p x (Label l) 0 n (link_of p x)
act_great g a b k p (node.Case x bs) = takes_at_great x (link_of p x)
act_great g a b k p (node.Send x w rs n) = puts_chan_great p x w (find_key w p.uses) n
act_great g a b k p (node.Recv x y n) = takes_at_great x (link_of p x)
act_great g a b k p (node.Index x e n) = values_great (at_values p e ∷ []) _ (λ ns. puts_at_great p x (Nat (first ns)) 0 n (link_of p x))
act_great g a b k p (node.Bind x v n) = takes_at_great x (link_of p x)
act_great g a b k p (node.Assert x n) = puts_at_great p x Assert 0 n (link_of p x)
act_great g a b k p (node.Assume x n) = takes_at_great x (link_of p x)
act_great g a b k p (node.Pay x n) = values_great (at_values p a ∷ []) _ (λ ns. puts_at_great p x Pay (first ns) n (link_of p x))
act_great g a b k p (node.Get x n) = takes_at_great x (link_of p x)
act_great g a b k p (node.Close x) = closes_great p p.uses
act_great g a b k p (node.Wait x n) = takes_at_great x (link_of p x)
act_great g a b k p (node.Forward x y rs) = forwards_great p y b p.uses
act_great g a b k p (node.Spawn v d es ys rs n) = makes_great k p es d n (slice_get g.decls d) (pull ys p.uses)
act_great g a b k p (node.Call x d es ys rs) = turns_great p es d (slice_get g.decls d) (pull ys p.uses)
act_great g a b k p node.Impossible = tt
act_great g a b k p (node.Work r n) = values_great (at_values p r ∷ []) _ (λ ns. either (nat_le (first ns) p.potential) _ Breaks tt tt)
act_great g a b k p (node.Delay t n) = values_great (at_values p t ∷ []) _ (λ ns. tt)

act_at_great : (c : Code) (k : ℕ) (p : Proc) (o : Option Node) → IsGreat (act_at c k p o)
act_at_great c k p None = tt
act_at_great c k p (Some nd) = act_great c.program (get_or c.paid p.node nought) (get_or c.positive p.node false) k p nd

-- ---- the step of a process

take_halts : (c : Code) (p : Proc) (f : Proc → List Item) (m : Msg) (o : Option Proc) (v : ℕ) → take_it f m o ≡ Halted v → ⊥
take_halts c p f m None v h = cc
take_halts c p f m (Some q) v h = cc

from_halts : (c : Code) (p : Proc) (f : Proc → List Item) (i : Item) (v : ℕ) → take_from c p f i ≡ Halted v → ⊥
from_halts c p f (P q) v h = cc
from_halts c p f (M m) v h = take_halts c p f m (after_take c p m) v h

move_halts : (f : Msg → List Item) (to : Link) (pid : Pid) (i : Item) (v : ℕ) → move_it f to pid i ≡ Halted v → ⊥
move_halts f to pid (P q) v h = cc
move_halts f to pid (M m) v h = cc

take_client_halts : (c : Code) (before : List Item) (p : Proc) (l : Link) (o : Option Cut) (v : ℕ) → take_client c before p l o ≡ Halted v → ⊥
take_client_halts c before p l None v h = cc
take_client_halts c before p l (Some k) v h = from_halts c p (λ q. before ++ (P q ∷ (k.before ++ k.after))) k.item v h

take_provider_halts : (c : Code) (p : Proc) (l : Link) (o : Option Cut) (after : List Item) (v : ℕ) → take_provider c p l o after ≡ Halted v → ⊥
take_provider_halts c p l None after v h = cc
take_provider_halts c p l (Some k) after v h = from_halts c p (λ q. k.before ++ (P q ∷ (k.after ++ after))) k.item v h

move_provider_halts : (p : Proc) (other wait : Link) (o : Option Cut) (after : List Item) (v : ℕ) → move_provider p other wait o after ≡ Halted v → ⊥
move_provider_halts p other wait None after v h = cc
move_provider_halts p other wait (Some k) after v h = move_halts (λ m. k.before ++ (M m ∷ (k.after ++ after))) other p.pid k.item v h

move_client_halts : (before : List Item) (p : Proc) (other wait : Link) (o : Option Cut) (after : List Item) (v : ℕ) → move_client before p other wait o after ≡ Halted v → ⊥
move_client_halts before p other wait None after v h = move_provider_halts p other wait (cut (is_msg p.own Provider) before) after v h
move_client_halts before p other wait (Some k) after v h = move_halts (λ m. before ++ (k.before ++ (M m ∷ k.after))) p.own p.pid k.item v h

does_great : (c : Code) (before after : List Item) (p : Proc) (d : Deed) (v : ℕ) → IsGreat d → does c before p after d ≡ Halted v → 2 ^ 64 ≤ v
does_great c before after p (Puts m rest) v g h = cc
does_great c before after p (Takes l Client) v g h = absurd (take_client_halts c before p l (cut (is_msg l Client) after) v h)
does_great c before after p (Takes l Provider) v g h = absurd (take_provider_halts c p l (cut (is_msg l Provider) before) after v h)
does_great c before after p (Moves other wait) v g h = absurd (move_client_halts before p other wait (cut (is_msg other Client) after) after v h)
does_great c before after p (Makes child rest n) v g h = cc
does_great c before after p (Turns rest n) v g h = cc
does_great c before after p (Works q rest) v g h = cc
does_great c before after p (Delays t rest) v g h = cc
does_great c before after p (Halts w) v g h = let e : w ≡ v = cc in subst (λ (x : ℕ). 2 ^ 64 ≤ x) e g
does_great c before after p Breaks v g h = cc

item_great : (c : Code) (k : ℕ) (before : List Item) (i : Item) (after : List Item) (v : ℕ) → at_item c k before i after ≡ Halted v → 2 ^ 64 ≤ v
item_great c k before (P p) after v h = does_great c before after p (deed c k p) v (act_at_great c k p (slice_get c.program.nodes p.node)) h
item_great c k before (M m) after v h = cc

cut_great : (c : Code) (k : ℕ) (o : Option Cut) (v : ℕ) → at_cut c k o ≡ Halted v → 2 ^ 64 ≤ v
cut_great c k None v h = cc
cut_great c k (Some t) v h = item_great c k t.before t.item t.after v h

pub halts_great : (c : Code) (k : ℕ) (pid : Pid) (items : List Item) (v : ℕ) → step c k pid items ≡ Halted v → 2 ^ 64 ≤ v
halts_great c k pid items v h = cut_great c k (cut (is_proc pid) items) v h
