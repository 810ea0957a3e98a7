-- The step of a process in a list of items.
use Rattle.std.specs.Prelude.{ℕ, Bool, false, ◌&&◌, List, [], ◌∷◌, ◌++◌, Option, Some, None, if◌then◌else◌}
use Rattle.rast_items.specs.Items.{Link, Pid, Side, Client, Provider, Body, End, Msg, Item, P, M, Proc, same_link, same_pid, same_side}
use Rattle.rast_items.specs.Deeds.{Code, Deed, Puts, Takes, Moves, Makes, Turns, Works, Delays, Halts, Breaks, deed, after_take}
pub use Rattle.rast_items.specs.declared.event.Event.{Event}
pub use Rattle.rast_items.specs.declared.event.Event.TheVariants.{Send, Take, Move, Spawn, Call, Work, Delay}

pub data Next : Type 0 where
  Ready : (event : Event) → (items : List Item) → Next
  Waits : (link : Link) → Next
  Halted : (value : ℕ) → Next
  Ended : Next
  Stuck : Next

-- a list cut at an item
pub record Cut : Type 0 where
  pub before : List Item
  pub item : Item
  pub after : List Item

abbrev pub cut_more : Item → Option Cut → Option Cut
cut_more i None = None
cut_more i (Some c) = Some (record c { before = i ∷ c.before })

-- the list cut at its first item that passes the test
abbrev pub cut : (Item → Bool) → List Item → Option Cut
cut test [] = None
cut test (i ∷ is) = if test i then Some (record { before = []; item = i; after = is }) else cut_more i (cut test is)

abbrev pub is_proc : Pid → Item → Bool
is_proc pid (P p) = same_pid p.pid pid
is_proc pid (M m) = false

abbrev pub is_msg : Link → Side → Item → Bool
is_msg l s (P p) = false
is_msg l s (M m) = same_link m.link l && same_side m.toward s

abbrev pub rest_items : Option Proc → List Item
rest_items None = []
rest_items (Some p) = P p ∷ []

-- a process and a message: toward the client it stands before the process, toward the provider after it
abbrev pub put_beside : Side → Msg → List Item → List Item
put_beside Client m rest = M m ∷ rest
put_beside Provider m rest = rest ++ M m ∷ []

abbrev pub put : List Item → Pid → Msg → Option Proc → List Item → Next
put before pid m rest after =
    Ready (Send pid m.link m.body m.moment m.potential) (before ++ (put_beside m.toward m (rest_items rest) ++ after))

abbrev pub take_it : (Proc → List Item) → Msg → Option Proc → Next
take_it f m None = Stuck
take_it f m (Some q) = Ready (Take q.pid m.link m.body q.moment) (f q)

abbrev pub take_from : Code → Proc → (Proc → List Item) → Item → Next
take_from c p f (P q) = Stuck
take_from c p f (M m) = take_it f m (after_take c p m)

-- the next link of a message that is moved: at End it is the message's own link
abbrev pub moved_next : Body → Link → Link → Link
moved_next End to next = to
moved_next b to next = next

abbrev pub moved : Msg → Link → Msg
moved m to = record m { link = to; next = moved_next m.body to m.next }

abbrev pub move_it : (Msg → List Item) → Link → Pid → Item → Next
move_it f to pid (P q) = Stuck
move_it f to pid (M m) = Ready (Move pid m.link to m.body m.moment) (f (moved m to))

-- what the process p does, which stands between before and after
abbrev pub take_client : Code → List Item → Proc → Link → Option Cut → Next
take_client c before p l None = Waits l
take_client c before p l (Some k) = take_from c p (λ q. before ++ (P q ∷ (k.before ++ k.after))) k.item

abbrev pub take_provider : Code → Proc → Link → Option Cut → List Item → Next
take_provider c p l None after = Waits l
take_provider c p l (Some k) after = take_from c p (λ q. k.before ++ (P q ∷ (k.after ++ after))) k.item

abbrev pub take_side : Code → List Item → Proc → List Item → Link → Side → Next
take_side c before p after l Client = take_client c before p l (cut (is_msg l Client) after)
take_side c before p after l Provider = take_provider c p l (cut (is_msg l Provider) before) after

abbrev pub move_provider : Proc → Link → Link → Option Cut → List Item → Next
move_provider p other wait None after = Waits wait
move_provider p other wait (Some k) after = move_it (λ m. k.before ++ (M m ∷ (k.after ++ after))) other p.pid k.item

abbrev pub move_client : List Item → Proc → Link → Link → Option Cut → List Item → Next
move_client before p other wait None after = move_provider p other wait (cut (is_msg p.own Provider) before) after
move_client before p other wait (Some k) after = move_it (λ m. before ++ (k.before ++ (M m ∷ k.after))) p.own p.pid k.item

abbrev pub does : Code → List Item → Proc → List Item → Deed → Next
does c before p after (Puts m rest) = put before p.pid m rest after
does c before p after (Takes l s) = take_side c before p after l s
does c before p after (Moves other wait) = move_client before p other wait (cut (is_msg other Client) after) after
does c before p after (Makes child rest d) = Ready (Spawn p.pid child.pid d rest.moment) (before ++ (P rest ∷ P child ∷ after))
does c before p after (Turns rest d) = Ready (Call p.pid d rest.moment) (before ++ (P rest ∷ after))
does c before p after (Works q rest) = Ready (Work p.pid q rest.moment) (before ++ (P rest ∷ after))
does c before p after (Delays t rest) = Ready (Delay p.pid t rest.moment) (before ++ (P rest ∷ after))
does c before p after (Halts v) = Halted v
does c before p after Breaks = Stuck

abbrev pub at_item : Code → ℕ → List Item → Item → List Item → Next
at_item c k before (P p) after = does c before p after (deed c k p)
at_item c k before (M m) after = Stuck

abbrev pub at_cut : Code → ℕ → Option Cut → Next
at_cut c k None = Ended
at_cut c k (Some t) = at_item c k t.before t.item t.after

-- the step of a process, where the next child would have the number k
abbrev pub step : Code → ℕ → Pid → List Item → Next
step c k pid items = at_cut c k (cut (is_proc pid) items)
