-- Handles of places.
use Rattle.std.specs.Prelude.{ℕ, nat_lt, if◌then◌else◌, Option, Some, None}
use Rattle.rast_core.specs.declared.handle.Handle.{Handle}

abbrev pub handle_at : ℕ → Handle
handle_at i = record { place = i }

-- the handle of a place, if it is one of so many
abbrev pub within : ℕ → ℕ → Option Handle
within i n = if nat_lt i n then Some (handle_at i) else None
