-- Lists of items, as examples of what is well linked and what isn't.
use Rattle.std.specs.Prelude.{ℕ, List, [], length, ◌+◌}
use Rattle.rast_index.specs.Keys.{numbered}
use Rattle.rast_items.specs.Links.{pid_at, link_at}
use Rattle.rast_items.specs.declared.link.Link.{Link}
use Rattle.rast_items.specs.declared.link.Side.{Side}
use Rattle.rast_items.specs.declared.message.Body.{Body}
use Rattle.rast_items.specs.declared.message.Body.TheVariants.{Label, Chan}
use Rattle.rast_items.specs.declared.item.Item.{Item}
use Rattle.rast_items.specs.declared.item.Item.TheVariants.{Proc as P, Msg as M}

-- the link that the client of main would use
abbrev pub root : Link
root = link_at 0 0

-- a process with its own link and those that it uses
abbrev pub process : ℕ → Link → List Link → Item
process k own links = P (record { pid = pid_at k; node = 0; values = []; own = own; uses = numbered 1 links; fresh = length links + 1; moment = 0; potential = 0; spawned = 0; steps = 0 })

abbrev pub main : List Link → Item
main links = process 0 root links

abbrev pub worker : Link → Item
worker own = process 1 own []

-- a message on link 0 of session 1
abbrev pub message : Link → Body → Side → Item
message next body side = M (record { link = link_at 1 0; next = next; body = body; toward = side; moment = 0; potential = 0 })

abbrev pub label : Body
label = Label 7

-- it carries a link of another session
abbrev pub channel : Body
channel = Chan (link_at 0 1)
