-- Links, messages, processes, which links an item provides and uses, and configurations.
use Rattle.std.specs.Prelude.{◌≡◌, ℕ, cond, ◌≤◌, ◌+◌, List, [], ◌∷◌, ◌++◌, map}
pub use Rattle.rast_items.specs.declared.link.Link.{Link}
pub use Rattle.rast_items.specs.declared.link.Pid.{Pid}
pub use Rattle.rast_items.specs.declared.link.Side.{Side}
pub use Rattle.rast_items.specs.declared.link.Side.TheVariants.{Client, Provider}
pub use Rattle.rast_items.specs.declared.message.Body.{Body}
pub use Rattle.rast_items.specs.declared.message.Body.TheVariants.{Label, End, Chan, Nat, Assert, Pay}
pub use Rattle.rast_items.specs.declared.message.Msg.{Msg}
pub use Rattle.rast_items.specs.declared.item.Item.{Item}
pub use Rattle.rast_items.specs.declared.item.Item.TheVariants.{Proc as P, Msg as M}
pub use Rattle.rast_items.specs.Process.{Process as Proc}
pub use Rattle.rast_items.specs.Links.{same_link, same_pid, same_side, pid_at, link_at, after_link}

-- the link that a body carries
abbrev pub carried : Body → List Link
carried (Chan link) = link ∷ []
carried b = []

-- after the end there is no next link
abbrev pub continued : Body → Link → List Link
continued End next = []
continued b next = next ∷ []

abbrev pub msg_gives : Side → Msg → Link
msg_gives Client m = m.link
msg_gives Provider m = m.next

abbrev pub msg_uses : Side → Msg → List Link
msg_uses Client m = continued m.body m.next ++ carried m.body
msg_uses Provider m = m.link ∷ carried m.body

abbrev pub provides : Item → Link
provides (P p) = p.own
provides (M m) = msg_gives m.toward m

abbrev pub uses : Item → List Link
uses (P p) = map (λ u. u.1) p.uses
uses (M m) = msg_uses m.toward m

-- 1 where the links are the same, else 0
abbrev pub hit : Link → Link → ℕ
hit l k = cond (same_link k l) 1 0

-- how often a link stands in a list
abbrev pub times : Link → List Link → ℕ
times l [] = 0
times l (k ∷ ks) = hit l k + times l ks

-- the sum of a number over the items
abbrev pub total : (Item → ℕ) → List Item → ℕ
total w [] = 0
total w (i ∷ is) = w i + total w is

-- how often a link is provided in a list of items, and how often it is used there
abbrev pub provided : Link → List Item → ℕ
provided l items = total (λ i. hit l (provides i)) items

abbrev pub used : Link → List Item → ℕ
used l items = total (λ i. times l (uses i)) items

-- each link that is used is provided later
abbrev pub UsedEarlier : List Item → Type 0
UsedEarlier [] = Unit {0}
UsedEarlier (i ∷ is) = ((l : Link) → times l (uses i) ≤ provided l is) × UsedEarlier is

-- root is the link that the client of main would use
pub record IsConfig (root : Link) (items : List Item) : Type 0 where
  pub once : (l : Link) → provided l items ≤ 1
  pub matched : (l : Link) → used l items + hit l root ≡ provided l items
  pub earlier : UsedEarlier items

-- potential of an item, and of a list of items
abbrev pub potential_of : Item → ℕ
potential_of (P p) = p.potential
potential_of (M m) = m.potential

abbrev pub held : List Item → ℕ
held items = total potential_of items
