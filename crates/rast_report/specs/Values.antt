-- The printed value of a configuration: what main's channel holds for a client.
use Rattle.std.specs.Prelude.{ℕ, Bool, true, false, ◌&&◌, List, [], ◌∷◌, ◌++◌, codes, if◌then◌else◌}
use Rattle.rast_terms.specs.declared.program.Program.{Program}
use Rattle.rast_core.specs.Words.{Link, Side, Client, Provider, Body, Label, End, Chan, Nat, Assert, Pay, Item, P, M, Proc}
use Rattle.rast_items.specs.Links.{same_link, link_at}
use Rattle.rast_items.specs.Step.{Next, Waits}
use Rattle.rast_core.specs.Shown.{Shown, next_of}
use Rattle.rast_terms.specs.Texts.{Text}
use Rattle.rast_report.specs.Texts.{body_text}

abbrev pub is_waiting : Link → Next → Bool
is_waiting l (Waits k) = same_link k l
is_waiting l n = false

-- what a process shows that provides the link of the value: whether it waits on that link
abbrev pub process_text : Program → Shown → Proc → Text
process_text g v p = if is_waiting p.own (next_of g v p.pid) then codes "wait" else codes "..."

abbrev pub is_client : Side → Bool
is_client Client = true
is_client Provider = false

-- a message that provides the link: its body, and then the value at its next link; a sent channel is the value at its link
abbrev pub message_text : Program → Body → ℕ → (Link → Text) → Link → Text
message_text g End q at next = codes "end"
message_text g (Chan k) q at next = codes "(" ++ (at k ++ (codes ") . " ++ at next))
message_text g (Label l) q at next = body_text g (Label l) q ++ (codes " . " ++ at next)
message_text g (Nat n) q at next = body_text g (Nat n) q ++ (codes " . " ++ at next)
message_text g Assert q at next = body_text g Assert q ++ (codes " . " ++ at next)
message_text g Pay q at next = body_text g Pay q ++ (codes " . " ++ at next)

-- The value at a link. Each link is provided later than it is used, so the value goes on in the rest of the list.
abbrev pub value_from : Program → Shown → List Item → Link → Text
value_from g v [] l = codes "..."
value_from g v (P p ∷ is) l = if same_link p.own l then process_text g v p else value_from g v is l
value_from g v (M m ∷ is) l =
    if same_link m.link l && is_client m.toward then message_text g m.body m.potential (value_from g v is) m.next else value_from g v is l

abbrev pub value_text : Program → Shown → Text
value_text g v = value_from g v v.items (link_at 0 0)
