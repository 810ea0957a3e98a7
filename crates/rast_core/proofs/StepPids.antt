-- The event of a step is one of the process that was asked for.
use Rattle.std.proofs.Common.{◌≡◌, ℕ, zero, suc, Bool, true, false, List, [], ◌∷◌, ◌++◌, Option, Some, None, refl, sym, ap, ◌∙◌, if◌then◌else◌}
use Rattle.std.specs.Prelude.{slice_get, nat_lt, length}
use Rattle.std.proofs.lemmas.Bool.{eqb-true}
use Rattle.rast_index.specs.Keys.{find_key}
use Rattle.rast_terms.specs.declared.node.Node.{Node}
use Rattle.rast_terms.specs.declared.node.Node.TheVariants as node
use Rattle.rast_terms.specs.Nodes.{Touch, touches}
use Rattle.rast_core.specs.Words.{Link, Pid, Side, Client, Provider, Body, Label, End, Chan, Nat, Assert, Pay, Msg, Item, P, M, Proc, Event, Send, Take, Move, Spawn, Call, Work, Delay}
use Rattle.rast_items.specs.Deeds.{Code, Deed, Puts, Takes, Moves, Makes, Turns, Works, Delays, Halts, Breaks, deed, with_channel, less_channel, at_node, at_branch, has_room, with_message, took, took_on, taken_at, after_take}
use Rattle.rast_items.specs.Step.{Cut, cut, is_proc, is_msg, rest_items, put_beside, Ready, take_it, take_from, take_client, take_provider, take_side, move_it, move_provider, move_client, moved, does, at_item, at_cut, step}
use Rattle.rast_items.specs.Run.{pid_of}
use Rattle.rast_core.proofs.Cuts.{cut_is}
use Rattle.rast_core.proofs.StepBounds.{ready_event}

some_pid : (p q : Proc) → Some p ≡ Some q → q.pid ≡ p.pid
some_pid p q h = ap (λ (r : Proc). r.pid) (let e : q ≡ p = cc in e)

branch_pid : (p q : Proc) (o : Option ℕ) → at_branch p o ≡ Some q → q.pid ≡ p.pid
branch_pid p q None e = cc
branch_pid p q (Some n) e = some_pid (at_node p n) q e

if_pid : (p r q : Proc) (b : Bool) → (if b then Some r else None) ≡ Some q → r.pid ≡ p.pid → q.pid ≡ p.pid
if_pid p r q true e h = some_pid r q e ∙ h
if_pid p r q false e h = cc

took_pid : (p q : Proc) (n : Node) (b : Body) → took n p b ≡ Some q → q.pid ≡ p.pid
took_pid p q (node.Case x bs) (Label l) e = branch_pid p q (find_key l bs) e
took_pid p q (node.Recv x y n) (Chan l) e = if_pid p (at_node (with_channel p l) n) q (has_room p.uses) e refl
took_pid p q (node.Bind x v n) (Nat i) e = if_pid p (at_node (record p { values = p.values ++ i ∷ [] }) n) q (nat_lt (length p.values) 16) e refl
took_pid p q (node.Assume x n) Assert e = some_pid (at_node p n) q e
took_pid p q (node.Get x n) Pay e = some_pid (at_node p n) q e
took_pid p q (node.Wait x n) End e = some_pid (at_node (less_channel p x) n) q e
took_pid p q n b e = cc

with_pid : (x : ℕ) (p : Proc) (m : Msg) → (with_message p x m).pid ≡ p.pid
with_pid zero p m = refl
with_pid (suc x) p m = refl

touch_pid : (p q : Proc) (m : Msg) (t : Option Touch) (n : Node) → took_on t n p m ≡ Some q → q.pid ≡ p.pid
touch_pid p q m None n e = cc
touch_pid p q m (Some t) n e = took_pid (with_message p t.x m) q n m.body e ∙ with_pid t.x p m

taken_pid : (p q : Proc) (m : Msg) (o : Option Node) → taken_at o p m ≡ Some q → q.pid ≡ p.pid
taken_pid p q m None e = cc
taken_pid p q m (Some n) e = touch_pid p q m (touches n) n e

event_pid : (e f : Event) (xs ys : List Item) (pid : Pid) → Ready e xs ≡ Ready f ys → pid_of e ≡ pid → pid_of f ≡ pid
event_pid e f xs ys pid h k = ap pid_of (sym (ready_event e f xs ys h)) ∙ k

take_pid : (p : Proc) (m : Msg) (f : Proc → List Item) (o : Option Proc) (e : Event) (new : List Item) → ((q : Proc) → o ≡ Some q → q.pid ≡ p.pid) → take_it f m o ≡ Ready e new → pid_of e ≡ p.pid
take_pid p m f None e new k h = cc
take_pid p m f (Some q) e new k h = event_pid (Take q.pid m.link m.body q.moment) e (f q) new p.pid h (k q refl)

from_pid : (c : Code) (p : Proc) (f : Proc → List Item) (x : Item) (e : Event) (new : List Item) → take_from c p f x ≡ Ready e new → pid_of e ≡ p.pid
from_pid c p f (P q) e new h = cc
from_pid c p f (M m) e new h = take_pid p m f (after_take c p m) e new (λ q k. taken_pid p q m (slice_get c.program.nodes p.node) k) h

client_pid : (c : Code) (before : List Item) (p : Proc) (l : Link) (o : Option Cut) (e : Event) (new : List Item) → take_client c before p l o ≡ Ready e new → pid_of e ≡ p.pid
client_pid c before p l None e new h = cc
client_pid c before p l (Some t) e new h = from_pid c p (λ q. before ++ (P q ∷ (t.before ++ t.after))) t.item e new h

provider_pid : (c : Code) (p : Proc) (l : Link) (o : Option Cut) (after : List Item) (e : Event) (new : List Item) → take_provider c p l o after ≡ Ready e new → pid_of e ≡ p.pid
provider_pid c p l None after e new h = cc
provider_pid c p l (Some t) after e new h = from_pid c p (λ q. t.before ++ (P q ∷ (t.after ++ after))) t.item e new h

side_pid : (c : Code) (before : List Item) (p : Proc) (after : List Item) (l : Link) (s : Side) (e : Event) (new : List Item) → take_side c before p after l s ≡ Ready e new → pid_of e ≡ p.pid
side_pid c before p after l Client e new h = client_pid c before p l (cut (is_msg l Client) after) e new h
side_pid c before p after l Provider e new h = provider_pid c p l (cut (is_msg l Provider) before) after e new h

moved_pid : (f : Msg → List Item) (to : Link) (pid : Pid) (x : Item) (e : Event) (new : List Item) → move_it f to pid x ≡ Ready e new → pid_of e ≡ pid
moved_pid f to pid (P q) e new h = cc
moved_pid f to pid (M m) e new h = event_pid (Move pid m.link to m.body m.moment) e (f (moved m to)) new pid h refl

up_pid : (p : Proc) (other wait : Link) (o : Option Cut) (after : List Item) (e : Event) (new : List Item) → move_provider p other wait o after ≡ Ready e new → pid_of e ≡ p.pid
up_pid p other wait None after e new h = cc
up_pid p other wait (Some t) after e new h = moved_pid (λ m. t.before ++ (M m ∷ (t.after ++ after))) other p.pid t.item e new h

down_pid : (before : List Item) (p : Proc) (other wait : Link) (o : Option Cut) (after : List Item) (e : Event) (new : List Item) → move_client before p other wait o after ≡ Ready e new → pid_of e ≡ p.pid
down_pid before p other wait None after e new h = up_pid p other wait (cut (is_msg p.own Provider) before) after e new h
down_pid before p other wait (Some t) after e new h = moved_pid (λ m. before ++ (t.before ++ (M m ∷ t.after))) p.own p.pid t.item e new h

does_pid : (c : Code) (before : List Item) (p : Proc) (after : List Item) (d : Deed) (e : Event) (new : List Item) → does c before p after d ≡ Ready e new → pid_of e ≡ p.pid
does_pid c before p after (Puts m rest) e new h = event_pid (Send p.pid m.link m.body m.moment m.potential) e (before ++ (put_beside m.toward m (rest_items rest) ++ after)) new p.pid h refl
does_pid c before p after (Takes l s) e new h = side_pid c before p after l s e new h
does_pid c before p after (Moves other wait) e new h = down_pid before p other wait (cut (is_msg other Client) after) after e new h
does_pid c before p after (Makes child rest d) e new h = event_pid (Spawn p.pid child.pid d rest.moment) e (before ++ (P rest ∷ P child ∷ after)) new p.pid h refl
does_pid c before p after (Turns rest d) e new h = event_pid (Call p.pid d rest.moment) e (before ++ (P rest ∷ after)) new p.pid h refl
does_pid c before p after (Works q rest) e new h = event_pid (Work p.pid q rest.moment) e (before ++ (P rest ∷ after)) new p.pid h refl
does_pid c before p after (Delays t rest) e new h = event_pid (Delay p.pid t rest.moment) e (before ++ (P rest ∷ after)) new p.pid h refl
does_pid c before p after (Halts v) e new h = cc
does_pid c before p after Breaks e new h = cc

item_pid : (c : Code) (k : ℕ) (pid : Pid) (before after : List Item) (x : Item) (e : Event) (new : List Item) → is_proc pid x ≡ true → at_item c k before x after ≡ Ready e new → pid_of e ≡ pid
item_pid c k pid before after (M m) e new t h = cc
item_pid c k pid before after (P p) e new t h = does_pid c before p after (deed c k p) e new h ∙ ap (λ (n : ℕ). (let q : Pid = record { 0 = n } in q)) (eqb-true p.pid.0 pid.0 t)

cut_pid : (c : Code) (k : ℕ) (pid : Pid) (items : List Item) (o : Option Cut) (e : Event) (new : List Item) → cut (is_proc pid) items ≡ o → at_cut c k o ≡ Ready e new → pid_of e ≡ pid
cut_pid c k pid items None e new t h = cc
cut_pid c k pid items (Some x) e new t h = item_pid c k pid x.before x.after x.item e new (cut_is (is_proc pid) items x t).passes h

pub step_pid : (c : Code) (k : ℕ) (pid : Pid) (items new : List Item) (e : Event) → step c k pid items ≡ Ready e new → pid_of e ≡ pid
step_pid c k pid items new e h = cut_pid c k pid items (cut (is_proc pid) items) e new refl h
