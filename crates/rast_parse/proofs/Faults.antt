-- Refusals of the code, and how reading ends.
use Rattle.std.proofs.Common.{◌≡◌, ℕ, ◌<◌, Bool, true, false, List, length, refl}
use Rattle.rast_forms.specs.Words.{Word}
use Rattle.rast_forms.specs.Reading.{Syntax, Read, Bad, Reader, limited, IsUnderWay}
use Rattle.rast_forms.specs.Words.{starts}
use Rattle.rast_forms.proofs.Turns.{at_bad}
use Rattle.rast_parse.specs.declared.cursor.Fault.{Fault}
use Rattle.rast_parse.specs.declared.cursor.Fault.TheVariants as fault
use Rattle.rast_parse.specs.Answer.{FailsAs, limit_fault}

pub wrong_fails : {X : Type 0} (e : Fault) (r : List Word) (m : Read X) → e ≡ fault.Syntax (length r) → m ≡ Bad Syntax r → FailsAs e m
wrong_fails e r m f g = rw f (r, g, refl)

pub limit_fails : {X : Type 0} (e : Fault) (b : Bool) (r : List Word) (m : Read X) → e ≡ limit_fault b (length r) → m ≡ limited b r → FailsAs e m
limit_fails e true r m f g = rw f (r, g, refl)
limit_fails e false r m f g = rw f (r, g, refl)

-- a further part is wrong
pub at_fault : {X : Type 0} {first : List ℕ} {p : Reader X} {n k m : ℕ} {xs : List X} {r : List Word} {all : Read (List X)} {b : Bool} (e : Fault) →
    IsUnderWay first p n k xs r all → k < m → m ≡ n → b ≡ starts first r → b ≡ true → FailsAs e (p r) → FailsAs e all
at_fault (fault.Syntax left) inv h f s t g = (g.0, at_bad inv h f s t g.1, g.2)
at_fault (fault.TooDeep left) inv h f s t g = (g.0, at_bad inv h f s t g.1, g.2)
at_fault fault.Memory inv h f s t g = tt
