-- What a call answers that gives a value only where it passes a test.
use Rattle.std.specs.Prelude.{◌≡◌, Bool, true, false, Option, Some, None}

-- the value, which passes the test; nothing where it does not pass
abbrev pub FitsSome : {X : Type 0} → (X → Bool) → X → Option X → Type 0
FitsSome fits x (Some y) = (y ≡ x) × (fits x ≡ true)
FitsSome fits x None = fits x ≡ false
