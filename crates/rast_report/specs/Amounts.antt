-- What is kept of what messages hold.
use Rattle.std.specs.Prelude.{◌≡◌, ℕ, List, if◌then◌else◌}
use Rattle.std.specs.Option.{unwrap_or}
use Rattle.std.specs.Ordering.{nat_cmp, ordering_then}
use Rattle.std.specs.declared.cmp.Ordering.{Ordering}
use Rattle.std.specs.BTreeMap.{get}
use Rattle.rast_core.specs.Words.{Link, Event}
use Rattle.rast_items.specs.Links.{same_link}
use Rattle.rast_report.specs.Reports.{amount_on}
use Rattle.rast_report.specs.declared.amounts.Amounts.{Amounts}

abbrev pub key : Link → ℕ × ℕ
key l = (l.session.0, l.index)

-- by the session, and then by the index
abbrev pub key_cmp : ℕ × ℕ → ℕ × ℕ → Ordering
key_cmp x y = ordering_then (nat_cmp x.0 y.0) (nat_cmp x.1 y.1)

-- what is kept at a link, or 0
abbrev pub kept_on : Amounts → Link → ℕ
kept_on a l = unwrap_or (get key_cmp a.kept (key l)) 0

-- what is kept after these events, the newest first
abbrev pub AreKept : Amounts → List Event → Type 0
AreKept a past = (l : Link) → kept_on a l ≡ amount_on l past

-- one link has a new amount
abbrev pub Keeps : Amounts → Amounts → Link → ℕ → Type 0
Keeps old new at q = (l : Link) → kept_on new l ≡ (if same_link at l then q else kept_on old l)
