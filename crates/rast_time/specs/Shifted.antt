-- A type some ticks earlier, and what is asked of its ticks.
use Rattle.std.specs.Prelude.{ℕ, ◌&&◌, Result}
use Rattle.rast_index.specs.Linear.{Linear, is_small, less}
use Rattle.rast_index.specs.Truth.{is_at_least}
use Rattle.rast_index.specs.declared.formula.Formula.{Formula}
use Rattle.rast_types.specs.Closed.{Table}
use Rattle.rast_types.specs.Symbolic.{Timed, within, is_deep, is_small_type, before_delay, timed_type}
use Rattle.rast_types.specs.declared.stop.Stop.{Stop}
use Rattle.rast_types.specs.declared.ty.Ty.{Ty}

-- ticks and what is left when they are taken off, within the limits
abbrev pub made_timed : ℕ → Timed → Result Timed Stop
made_timed n e = within (is_deep n e.body) (is_small e.ticks && is_small_type e.body) e

-- so many ticks less
abbrev pub sooner : Linear → Timed → Ty
sooner by e = timed_type (record e { ticks = less e.ticks by })

-- the obligation that the ticks are at least so many, and the type with so many less
abbrev pub shifted : Linear → Timed → Formula × Ty
shifted by e = (is_at_least e.ticks by, sooner by e)

-- the same within the limits, of the ticks that are asked about and of the type
abbrev pub made_shift : Table → ℕ → Linear → Ty → Result (Formula × Ty) Stop
made_shift t n by a = let e = before_delay t n a in within (is_deep n (sooner by e)) (is_small e.ticks && is_small_type (sooner by e)) (shifted by e)
