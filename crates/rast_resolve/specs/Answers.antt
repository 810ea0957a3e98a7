-- What looking up names gives: a value, or the first fault.
use Rattle.std.specs.Prelude.{◌≡◌, List, [], ◌∷◌, Result, Ok, Err}
use Rattle.rast_resolve.specs.declared.fault.NameErr.{NameErr}
use Rattle.rast_resolve.specs.declared.fault.NameErr.TheVariants as fault

abbrev pub Answer : Type 0 → Type 0
Answer X = Result X NameErr

infixl 10 ◌>>=◌
-- one after another: the first fault is answered
abbrev pub ◌>>=◌ : {X Y : Type 0} → Answer X → (X → Answer Y) → Answer Y
(Ok x) >>= f = f x
(Err e) >>= f = Err e

-- the answers of a list, in its order
abbrev pub each : {X : Type 0} → List (Answer X) → Answer (List X)
each [] = Ok []
each (a ∷ as') = a >>= λ x. each as' >>= λ xs. Ok (x ∷ xs)

-- the code fails with the fault of this answer, or for want of memory
abbrev pub Fails : {X : Type 0} → Answer X → NameErr → Type 0
Fails said fault.Memory = Unit {0}
Fails said e = said ≡ Err e

-- the code's answer is this one, or want of memory
abbrev pub Gives : {X : Type 0} → Answer X → Answer X → Type 0
Gives said (Ok x) = said ≡ Ok x
Gives said (Err e) = Fails said e

-- the same where a state is left behind
abbrev pub Leaves : {X S : Type 0} → Answer (X × S) → Answer X → S → Type 0
Leaves said (Ok x) s = said ≡ Ok (x, s)
Leaves said (Err e) s = Fails said e

-- the same where the state alone is made
abbrev pub Makes : {X S : Type 0} → Answer S → Answer X → S → Type 0
Makes said (Ok x) s = said ≡ Ok s
Makes said (Err e) s = Fails said e

-- the code fails with this fault, or for want of memory
abbrev pub FailsWith : NameErr → NameErr → Type 0
FailsWith said fault.Memory = Unit {0}
FailsWith said e = said ≡ e
