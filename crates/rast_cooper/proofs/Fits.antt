-- What a value that is there, or is not, says of a test.
use Rattle.std.proofs.Common.{◌≡◌, Bool, true, false, Option, Some, None, Result, Ok, Err, subst, refl}
use Rattle.std.specs.Result.{IfOk}
use Rattle.rast_cooper.specs.Answer.{FitsSome}

pub none_fits : {X : Type 0} (fits : X → Bool) (x : X) (o : Option X) → FitsSome fits x o → ((y : X) → o ≡ Some y → ⊥) → fits x ≡ false
none_fits fits x None h n = h
none_fits fits x (Some y) h n = absurd (n y refl)

pub some_fits : {X : Type 0} (fits : X → Bool) (x y : X) (o : Option X) → FitsSome fits x o → o ≡ Some y → (y ≡ x) × (fits x ≡ true)
some_fits {X} fits x y o h e = let P : Option X → Type 0 = FitsSome fits x in subst P e h

pub ok_map : {X E : Type 0} (r : Result X E) (P Q : X → Type 0) → ((x : X) → P x → Q x) → IfOk r P → IfOk r Q
ok_map (Ok x) P Q f h = f x h
ok_map (Err e) P Q f h = tt
