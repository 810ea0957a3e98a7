-- Judgements at which a delay may stand.
use Rattle.std.specs.Prelude.{ℕ, Bool}
use Rattle.rast_index.specs.Linear.{is_small}
use Rattle.rast_types.specs.Closed.{Table}
use Rattle.rast_types.specs.Symbolic.{before_delay}
use Rattle.rast_types.specs.declared.ty.Ty.{Ty}

-- the ticks before a type can be made
abbrev pub has_ticks : Table → ℕ → Ty → Bool
has_ticks t n a = is_small (before_delay t n a).ticks
