-- How far the numbers of an item are from the limits of their types.
use Rattle.std.specs.Prelude.{ℕ, ◌+◌, ◌*◌, ◌^◌, ◌<◌, ◌≤◌, ◌∷◌, length, All}
use Rattle.rast_items.specs.Items.{Link, Msg, Item, P, M, Proc, carried}

-- so many more messages may come on the link
abbrev pub IsOpen : ℕ → Link → Type 0
IsOpen s l = l.index + s < 2 ^ 32

-- the process may do so many more events; each may raise its moment by less than 2 ^ 64
pub record HasSlack (s : ℕ) (p : Proc) : Type 0 where
  pub own : IsOpen s p.own
  pub uses : All (λ u. IsOpen s u.1) p.uses
  pub fresh : p.fresh + s < 2 ^ 32
  pub moment : p.moment + s * 2 ^ 64 < 2 ^ 97
  pub spawned : p.spawned + s < 2 ^ 32
  pub steps : p.steps + s < 2 ^ 32

-- a process that takes the message may do so many more events
pub record IsSlack (s : ℕ) (m : Msg) : Type 0 where
  pub link : IsOpen s m.link
  pub next : IsOpen s m.next
  pub carried : All (IsOpen s) (carried m.body)
  pub moment : m.moment + s * 2 ^ 64 < 2 ^ 97

-- a process has at most 16 channels, the provided one counted
abbrev pub IsItemSlack : ℕ → Item → Type 0
IsItemSlack s (P p) = HasSlack s p × (length p.uses ≤ 15)
IsItemSlack s (M m) = IsSlack s m
