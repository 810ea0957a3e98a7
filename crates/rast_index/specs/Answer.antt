-- What a call answers whose result may have a number that is too great.
use Rattle.std.specs.Prelude.{◌≡◌, Bool, true, false, Option, Some, None, Result, Ok, Err}
use Rattle.rast_index.specs.declared.refusal.Coefficient.{Coefficient}
use Rattle.rast_index.specs.declared.refusal.IndexErr.{IndexErr}
use Rattle.rast_index.specs.declared.refusal.IndexErr.TheVariants as refusal

-- the value, which passes the test; the refusal where it does not pass
abbrev pub Fits : {X : Type 0} → (X → Bool) → X → Result X Coefficient → Type 0
Fits fits x (Ok y) = (y ≡ x) × (fits x ≡ true)
Fits fits x (Err e) = fits x ≡ false

-- the value, which passes the test; nothing where it does not pass
abbrev pub FitsSome : {X : Type 0} → (X → Bool) → X → Option X → Type 0
FitsSome fits x (Some y) = (y ≡ x) × (fits x ≡ true)
FitsSome fits x None = fits x ≡ false

-- the value, which passes the test; the refusal where it does not pass; want of memory may always come
abbrev pub Gives : {X : Type 0} → (X → Bool) → X → Result X IndexErr → Type 0
Gives fits x (Ok y) = (y ≡ x) × (fits x ≡ true)
Gives fits x (Err refusal.Coefficient) = fits x ≡ false
Gives fits x (Err refusal.Variables) = ⊥
Gives fits x (Err refusal.Memory) = Unit {0}
