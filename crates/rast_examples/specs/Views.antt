-- Closed types and views, as examples of what is equal, what serves and what suits.
use Rattle.std.specs.Prelude.{ℕ, pos, [], ◌∷◌}
use Rattle.rast_index.specs.Linear.{fixed}
use Rattle.rast_types.specs.Closed.{Closed, Table, closed, View, view}
use Rattle.rast_types.specs.declared.ty.Ty.{Ty}
use Rattle.rast_types.specs.declared.ty.Ty.TheVariants as ty

abbrev pub none : Table
none = []

-- +{2 : 1}, and 1 itself
abbrev pub choice : Ty
choice = ty.Plus ((2, ty.One) ∷ [])

abbrev pub one : Ty
one = ty.One

-- a type without variables
abbrev pub plain : Ty → Closed
plain a = closed a []

-- so many ticks before a type; a type that pays so much, or gets it
abbrev pub after : ℕ → Ty → Ty
after n a = ty.Next (fixed (pos n)) a

abbrev pub pays : ℕ → Ty → Ty
pays n a = ty.Pays (fixed (pos n)) a

abbrev pub gets : ℕ → Ty → Ty
gets n a = ty.Gets (fixed (pos n)) a

-- a type at a moment
abbrev pub at : ℕ → Ty → View
at moment a = view moment (plain a)
