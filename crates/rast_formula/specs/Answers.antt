-- What reading a written term or formula gives: what it stands for, or the first fault in its text.
use Rattle.std.specs.Prelude.{◌≡◌, List, [], ◌∷◌, ◌++◌, Result, Ok, Err}
use Rattle.rast_formula.specs.declared.refusal.ScopeErr.{ScopeErr}
use Rattle.rast_formula.specs.declared.refusal.ScopeErr.TheVariants as refusal

abbrev pub Answer : Type 0 → Type 0
Answer X = Result X ScopeErr

infixl 10 ◌>>=◌
-- one after another: the first fault is answered
abbrev pub ◌>>=◌ : {X Y : Type 0} → Answer X → (X → Answer Y) → Answer Y
(Ok x) >>= f = f x
(Err e) >>= f = Err e

-- the answers of a list, in its order
abbrev pub each : {X : Type 0} → List (Answer X) → Answer (List X)
each [] = Ok []
each (a ∷ more) = a >>= λ x. each more >>= λ xs. Ok (x ∷ xs)

-- the code's answer is this one, or want of memory
abbrev pub Gives : {X : Type 0} → Answer X → Answer X → Type 0
Gives said (Ok x) = said ≡ Ok x
Gives said (Err refusal.Memory) = Unit {0}
Gives said (Err e) = said ≡ Err e

-- the values that there are, and those of further answers
abbrev pub gathered : {X : Type 0} → List X → List (Answer X) → Answer (List X)
gathered xs more = each more >>= λ ys. Ok (xs ++ ys)
