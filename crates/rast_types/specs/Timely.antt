-- Which index values may stand where ticks are counted.
use Rattle.std.specs.Prelude.{◌≡◌, ℕ, ℤ, pos, ◌≤ℤ◌, ◌<ℤ◌, ◌<◌, ◌^◌, All, List, [], map, length, slice_index_or as get_or, Option, Some, None, slice_get}
use Rattle.rast_index.specs.Linear.{value}
use Rattle.rast_types.specs.Closed.{Table, Layer, Closed, exposed}
use Rattle.rast_types.specs.declared.ty.Ty.{Ty, out-Ty}
use Rattle.rast_types.specs.declared.ty.Ty.TheOpen.{Named}

-- at least 0 and below 2 ^ 64
abbrev pub IsIndex : ℤ → Type 0
IsIndex z = (pos 0 ≤ℤ z) × (z <ℤ pos (2 ^ 64))

-- the values of a name's arguments
abbrev pub argument_values : Layer → List ℤ → List ℤ
argument_values (Named k args) at = map (λ a. value a at) args
argument_values layer at = []

-- the arguments and the ticks that are met before the head are index values
pub record IsTimely (t : Table) (c : Closed) : Type 0 where
  pub arguments : All IsIndex (argument_values (out-Ty c.ty) c.at)
  pub ticks : IsIndex (exposed t c).ticks

-- sixteen naturals with these values; past them 0
pub record IsValued (values : List ℤ) (out : List ℕ) : Type 0 where
  pub sized : length out ≡ 16
  pub at : (k : ℕ) → k < 16 → pos (get_or out k 0) ≡ get_or values k (pos 0)
