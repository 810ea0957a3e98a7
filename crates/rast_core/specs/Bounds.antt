-- What holds of the numbers of a configuration, so that no sum passes its type.
use Rattle.std.specs.Prelude.{◌≡◌, ℕ, ◌+◌, ◌≤◌, ◌<◌, ◌^◌, List, All}
use Rattle.rast_core.specs.Words.{Pid, Item}
use Rattle.rast_items.specs.Items.{total, held}
use Rattle.rast_items.specs.Run.{numbered_as}
use Rattle.rast_items.specs.Slack.{IsItemSlack}

-- with so many processes made, and with room for so many events
pub record IsBounded (items : List Item) (made spare : ℕ) : Type 0 where
  pub slack : All (IsItemSlack (spare + 1)) items
  pub potential : held items < 2 ^ 32
  pub once : (k : Pid) → total (numbered_as k) items ≤ 1
  pub unmade : (k : Pid) → made ≤ k.0 → total (numbered_as k) items ≡ 0
  pub room : made + spare + 32 < 2 ^ 32
