-- What a call answers that makes ticks and a head, or a term.
use Rattle.std.specs.Prelude.{◌≡◌, Result, Ok, Err, if◌then◌else◌}
use Rattle.rast_index.specs.Linear.{Linear, is_small}
use Rattle.rast_types.specs.Symbolic.{Timed}
use Rattle.rast_types.specs.declared.head.Exposed.{Exposed}
use Rattle.rast_types.specs.declared.stop.Stop.{Stop}
use Rattle.rast_types.specs.declared.stop.Stop.TheVariants as stop

-- the same ticks and head, or the same limit
abbrev pub IsExposed : Result Timed Stop → Result Exposed Stop → Type 0
IsExposed made (Ok e) = made ≡ Ok (record { ticks = e.ticks; body = e.head })
IsExposed made (Err s) = made ≡ Err s

-- a term, if its numbers are small
abbrev pub made_term : Linear → Result Linear Stop
made_term l = if is_small l then Ok l else Err stop.Coefficient
