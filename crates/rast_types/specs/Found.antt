-- What is found at the outside of a type: a definition that it names, or ticks.
use Rattle.std.specs.Prelude.{◌≡◌, ℕ, Bool, true, false, Option, Some, None, is_some, List, slice_get}
use Rattle.std.specs.Borrow.{Bor}
use Rattle.rast_index.specs.Linear.{Linear, fixed}
use Rattle.rast_types.specs.Closed.{Table, Layer}
use Rattle.rast_types.specs.Symbolic.{is_next}
use Rattle.rast_types.specs.declared.table.TypeDef.{TypeDef}
use Rattle.rast_types.specs.declared.ty.Ty.{Ty, out-Ty}
use Rattle.rast_types.specs.declared.ty.Ty.TheOpen.{Named, Next}

abbrev pub is_defined_layer : Table → Layer → Bool
is_defined_layer t (Named k args) = is_some (slice_get t k)
is_defined_layer t layer = false

-- whether the type is a name with a definition
abbrev pub is_defined : Table → Ty → Bool
is_defined t a = is_defined_layer t (out-Ty a)

-- the type is a name with this definition's body at these arguments
pub record Names (t : Table) (a : Ty) (body : Ty) (args : List Linear) : Type 0 where
  pub number : ℕ
  pub named : out-Ty a ≡ Named number args
  pub definition : TypeDef
  pub found : slice_get t number ≡ Some definition
  pub is : definition.body ≡ body
