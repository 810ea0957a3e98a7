-- What one process does next, by its node alone.
use Rattle.std.specs.Prelude.{ℕ, Bool, false, ◌==◌, ◌&&◌, List, [], ◌∷◌, Option, Some, None, zero, suc, ◌+◌, ◌-◌, ◌++◌, ◌^◌, ℤ, pos, negsuc, max, nat_le, nat_lt, if◌then◌else◌, slice_get, map, length, slice_index_or as get_or}
use Rattle.rast_index.specs.Keys.{find_key, set_key, drop_key, numbered, pull}
use Rattle.rast_index.specs.Linear.{Linear, nought, value, whole}
use Rattle.rast_terms.specs.declared.program.Program.{Program}
use Rattle.rast_terms.specs.declared.program.Decl.{Decl}
use Rattle.rast_items.specs.Items.{Link, Side, Client, Provider, Body, Label, End, Chan, Nat, Assert, Pay, Msg, Proc, after_link, link_at, pid_at}
use Rattle.rast_terms.specs.Nodes.{Touch, touches}
use Rattle.rast_terms.specs.declared.node.Node.{Node}
use Rattle.rast_terms.specs.declared.node.Node.TheVariants as node

-- a program and what its run reads of the types
pub record Code : Type 0 where
  pub program : Program
  -- at each node: a forward that waits for its provider, and the amount of a pay
  pub positive : List Bool
  pub paid : List Linear

-- what a process does next
pub data Deed : Type 0 where
  -- a message; no process is left after a close
  Puts : (msg : Msg) → (rest : Option Proc) → Deed
  -- the message on this link toward this side
  Takes : (link : Link) → (side : Side) → Deed
  -- a message toward the client on this link, or one toward the provider on its own; without one it waits on the last link
  Moves : (other wait : Link) → Deed
  Makes : (child rest : Proc) → (decl : ℕ) → Deed
  Turns : (rest : Proc) → (decl : ℕ) → Deed
  Works : (amount : ℕ) → (rest : Proc) → Deed
  Delays : (ticks : ℕ) → (rest : Proc) → Deed
  -- an index value of 2 ^ 64 or more
  Halts : (value : ℕ) → Deed
  -- no rule
  Breaks : Deed

-- ---- index values

abbrev pub at_values : Proc → Linear → ℤ
at_values p l = value l (whole p.values)

-- the first number of at least 2 ^ 64
abbrev pub large_in : List ℤ → Option ℕ
large_in [] = None
large_in (pos n ∷ zs) = if nat_le (2 ^ 64) n then Some n else large_in zs
large_in (negsuc n ∷ zs) = large_in zs

abbrev pub more_natural : ℕ → Option (List ℕ) → Option (List ℕ)
more_natural n None = None
more_natural n (Some ns) = Some (n ∷ ns)

abbrev pub naturals : List ℤ → Option (List ℕ)
naturals [] = Some []
naturals (pos n ∷ zs) = more_natural n (naturals zs)
naturals (negsuc n ∷ zs) = None

abbrev pub with_naturals : Option (List ℕ) → (List ℕ → Deed) → Deed
with_naturals None then_do = Breaks
with_naturals (Some ns) then_do = then_do ns

abbrev pub unless_large : Option ℕ → Option (List ℕ) → (List ℕ → Deed) → Deed
unless_large (Some n) ns then_do = Halts n
unless_large None ns then_do = with_naturals ns then_do

-- what is done with these numbers, if all are naturals below 2 ^ 64
abbrev pub with_values : List ℤ → (List ℕ → Deed) → Deed
with_values zs then_do = unless_large (large_in zs) (naturals zs) then_do

abbrev pub first : List ℕ → ℕ
first [] = 0
first (n ∷ ns) = n

-- ---- channels

abbrev pub link_of : Proc → ℕ → Option Link
link_of p zero = Some p.own
link_of p (suc c) = find_key (suc c) p.uses

-- channel x is at link l
abbrev pub with_link : Proc → ℕ → Link → Proc
with_link p zero l = record p { own = l }
with_link p (suc c) l = record p { uses = set_key (suc c) l p.uses }

-- one more used channel, at the next free number
abbrev pub with_channel : Proc → Link → Proc
with_channel p l = record p { uses = p.uses ++ (p.fresh, l) ∷ []; fresh = p.fresh + 1 }

abbrev pub less_channel : Proc → ℕ → Proc
less_channel p x = record p { uses = drop_key x p.uses }

-- after an event, at a node
abbrev pub at_node : Proc → ℕ → Proc
at_node p n = record p { node = n; steps = p.steps + 1 }

-- the side to which a send on a channel goes, and from which side a receive on it comes
abbrev pub out : ℕ → Side
out zero = Client
out (suc c) = Provider

abbrev pub inward : ℕ → Side
inward zero = Provider
inward (suc c) = Client

-- ---- deeds

abbrev pub msg_on : Link → Side → Body → ℕ → ℕ → Msg
msg_on l s b moment q = record { link = l; next = after_link l; body = b; toward = s; moment = moment; potential = q }

abbrev pub puts_at : Proc → ℕ → Body → ℕ → ℕ → Option Link → Deed
puts_at p x b q n None = Breaks
puts_at p x b q n (Some l) =
    if nat_le q p.potential
    then Puts (msg_on l (out x) b p.moment q) (Some (at_node (record (with_link p x (after_link l)) { potential = p.potential - q }) n))
    else Breaks

-- a send of a body with this potential on channel x; the process goes on at node n
abbrev pub puts : Proc → ℕ → Body → ℕ → ℕ → Deed
puts p x b q n = puts_at p x b q n (link_of p x)

abbrev pub puts_chan : Proc → ℕ → ℕ → Option Link → ℕ → Deed
puts_chan p x w None n = Breaks
puts_chan p x w (Some l) n = puts (less_channel p w) x (Chan l) 0 n

abbrev pub takes_at : ℕ → Option Link → Deed
takes_at x None = Breaks
takes_at x (Some l) = Takes l (inward x)

-- the message that a take on channel x needs
abbrev pub takes : Proc → ℕ → Deed
takes p x = takes_at x (link_of p x)

abbrev pub closes : Proc → List (ℕ × Link) → Deed
closes p [] = Puts (record { link = p.own; next = p.own; body = End; toward = Client; moment = p.moment; potential = 0 }) None
closes p (u ∷ us) = Breaks

abbrev pub forwards : Proc → ℕ → Bool → List (ℕ × Link) → Deed
forwards p y positive (u ∷ []) = if u.0 == y then Moves u.1 (if positive then u.1 else p.own) else Breaks
forwards p y positive us = Breaks

-- a new process at a callee's body; it is made by no event
abbrev pub process_at : ℕ → Decl → List ℕ → List Link → ℕ → ℕ → Proc
process_at k d vs ls moment q = record { pid = pid_at k; node = d.body; values = vs; own = link_at k 0; uses = numbered 1 ls; fresh = length ls + 1; moment = moment; potential = q; spawned = 0; steps = 0 }

abbrev pub parent_after : ℕ → Proc → List (ℕ × Link) → ℕ → ℕ → Proc
parent_after k p rest q n = at_node (with_channel (record p { uses = rest; potential = p.potential - q; spawned = p.spawned + 1 }) (link_at k 0)) n

-- whether a process with these used channels may have one more: it has at most 16, the provided one counted
abbrev pub has_room : List (ℕ × Link) → Bool
has_room us = nat_lt (length us) 15

abbrev pub makes : ℕ → Proc → ℕ → Decl → (List Link × List (ℕ × Link)) → ℕ → List ℕ → ℕ → Deed
makes k p d decl r n vs q =
    if nat_le q p.potential && has_room r.1 then Makes (process_at k decl vs r.0 p.moment q) (parent_after k p r.1 q n) d else Breaks

abbrev pub turns : Proc → ℕ → Decl → List Link → List (ℕ × Link) → List ℕ → Deed
turns p d decl ls [] vs = Turns (record p { node = decl.body; values = vs; uses = numbered 1 ls; fresh = length ls + 1; steps = p.steps + 1 }) d
turns p d decl ls (u ∷ us) vs = Breaks

-- the values of a callee's arguments
abbrev pub argument_values : Proc → List Linear → List ℤ
argument_values p es = map (at_values p) es

-- the callee's potential at its arguments
abbrev pub handed_over : Decl → List ℕ → List ℤ
handed_over decl ns = value decl.potential (whole ns) ∷ []

-- what is done with the values of at most 16 arguments and then with the callee's potential at them
abbrev pub with_arguments : Proc → List Linear → Decl → (List ℕ → ℕ → Deed) → Deed
with_arguments p es decl then_do =
    if nat_le (length es) 16 then with_values (argument_values p es) (λ ns. with_values (handed_over decl ns) (λ qs. then_do ns (first qs))) else Breaks

abbrev pub makes_at : ℕ → Proc → List Linear → ℕ → ℕ → Option Decl → Option (List Link × List (ℕ × Link)) → Deed
makes_at k p es d n (Some decl) (Some r) = with_arguments p es decl (λ ns q. makes k p d decl r n ns q)
makes_at k p es d n decl r = Breaks

abbrev pub turns_at : Proc → List Linear → ℕ → Option Decl → Option (List Link × List (ℕ × Link)) → Deed
turns_at p es d (Some decl) (Some r) = with_arguments p es decl (λ ns q. turns p d decl r.0 r.1 ns)
turns_at p es d decl r = Breaks

abbrev pub works : Proc → ℕ → ℕ → Deed
works p n q = if nat_le q p.potential then Works q (at_node (record p { potential = p.potential - q }) n) else Breaks

abbrev pub delays : Proc → ℕ → ℕ → Deed
delays p n t = Delays t (at_node (record p { moment = p.moment + t }) n)

-- what the process does at a node; amount and positive are of the plan, and the next child would have the number k
abbrev pub act : Program → Linear → Bool → ℕ → Proc → Node → Deed
act g amount positive k p (node.Label x l n) = puts p x (Label l) 0 n
act g amount positive k p (node.Case x bs) = takes p x
act g amount positive k p (node.Send x w rs n) = puts_chan p x w (find_key w p.uses) n
act g amount positive k p (node.Recv x y n) = takes p x
act g amount positive k p (node.Index x e n) = with_values (at_values p e ∷ []) (λ ns. puts p x (Nat (first ns)) 0 n)
act g amount positive k p (node.Bind x v n) = takes p x
act g amount positive k p (node.Assert x n) = puts p x Assert 0 n
act g amount positive k p (node.Assume x n) = takes p x
act g amount positive k p (node.Pay x n) = with_values (at_values p amount ∷ []) (λ ns. puts p x Pay (first ns) n)
act g amount positive k p (node.Get x n) = takes p x
act g amount positive k p (node.Close x) = closes p p.uses
act g amount positive k p (node.Wait x n) = takes p x
act g amount positive k p (node.Forward x y rs) = forwards p y positive p.uses
act g amount positive k p (node.Spawn v d es ys rs n) = makes_at k p es d n (slice_get g.decls d) (pull ys p.uses)
act g amount positive k p (node.Call x d es ys rs) = turns_at p es d (slice_get g.decls d) (pull ys p.uses)
act g amount positive k p node.Impossible = Breaks
act g amount positive k p (node.Work r n) = with_values (at_values p r ∷ []) (λ ns. works p n (first ns))
act g amount positive k p (node.Delay t n) = with_values (at_values p t ∷ []) (λ ns. delays p n (first ns))

abbrev pub act_at : Code → ℕ → Proc → Option Node → Deed
act_at c k p None = Breaks
act_at c k p (Some n) = act c.program (get_or c.paid p.node nought) (get_or c.positive p.node false) k p n

-- what the process does next, where the next child would have the number k
abbrev pub deed : Code → ℕ → Proc → Deed
deed c k p = act_at c k p (slice_get c.program.nodes p.node)

-- ---- after a take

abbrev pub at_branch : Proc → Option ℕ → Option Proc
at_branch p None = None
at_branch p (Some n) = Some (at_node p n)

-- the process after a node took this body; p has the channel's next link; none where the node doesn't take the body,
-- or where there would be a 17th channel or a 17th variable
abbrev pub took : Node → Proc → Body → Option Proc
took (node.Case x bs) p (Label l) = at_branch p (find_key l bs)
took (node.Recv x y n) p (Chan c) = if has_room p.uses then Some (at_node (with_channel p c) n) else None
took (node.Bind x v n) p (Nat i) = if nat_lt (length p.values) 16 then Some (at_node (record p { values = p.values ++ i ∷ [] }) n) else None
took (node.Assume x n) p Assert = Some (at_node p n)
took (node.Get x n) p Pay = Some (at_node p n)
took (node.Wait x n) p End = Some (at_node (less_channel p x) n)
took n p b = None

-- the moment and the potential after a take
abbrev pub with_message : Proc → ℕ → Msg → Proc
with_message p x m = record (with_link p x m.next) { moment = max p.moment m.moment; potential = p.potential + m.potential }

abbrev pub took_on : Option Touch → Node → Proc → Msg → Option Proc
took_on None n p m = None
took_on (Some t) n p m = took n (with_message p t.x m) m.body

abbrev pub taken_at : Option Node → Proc → Msg → Option Proc
taken_at None p m = None
taken_at (Some n) p m = took_on (touches n) n p m

abbrev pub after_take : Code → Proc → Msg → Option Proc
after_take c p m = taken_at (slice_get c.program.nodes p.node) p m
