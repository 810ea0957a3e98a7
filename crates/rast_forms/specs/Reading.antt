-- Reading tokens from the left, by small readers put together.
use Rattle.std.specs.Prelude.{◌≡◌, ℕ, ◌-◌, ◌&&◌, zero, suc, Bool, true, false, List, [], ◌∷◌, ◌++◌, length, Option, Some, None, cond, ◌==◌, ◌⊎◌}
use Rattle.std.proofs.Common.{inl, inr}
use Rattle.rast_forms.specs.Words.{Word, Name, Number, Fixed, starts}

-- why reading ends: no part goes on with the token there, or one part too many begins there
pub data Why : Type 0 where
  Syntax : Why
  TooDeep : Why

-- what was read, and the tokens after it; or why it ends, and the tokens from there
pub data Read (X : Type 0) : Type 0 where
  Done : X → List Word → Read X
  Bad : Why → List Word → Read X

abbrev pub Reader : Type 0 → Type 0
Reader X = List Word → Read X

infixl 10 ◌>>=◌
abbrev pub ◌>>=◌ : {X Y : Type 0} → Read X → (X → List Word → Read Y) → Read Y
(Done x ts) >>= f = f x ts
(Bad why ts) >>= f = Bad why ts

abbrev pub given : {X : Type 0} → Option X → Word → List Word → Read X
given None t ts = Bad Syntax (t ∷ ts)
given (Some x) t ts = Done x ts

-- one token
abbrev pub one_read : {X : Type 0} → (Word → Option X) → Reader X
one_read get [] = Bad Syntax []
one_read get (t ∷ ts) = given (get t) t ts

-- the bytes of a name, the value of a number, and whether it is this keyword or symbol
abbrev pub get_name : Word → Option (List ℕ)
get_name (Name bytes) = Some bytes
get_name (Number value) = None
get_name (Fixed which) = None

abbrev pub get_number : Word → Option ℕ
get_number (Name bytes) = None
get_number (Number value) = Some value
get_number (Fixed which) = None

abbrev pub get_fixed : ℕ → Word → Option (Unit {0})
get_fixed k (Name bytes) = None
get_fixed k (Number value) = None
get_fixed k (Fixed which) = cond (which == k) (Some tt) None

-- one after the other
abbrev pub seq_read : {X Y : Type 0} → Reader X → Reader Y → Reader (X × Y)
seq_read p q ts = p ts >>= λ x more. q more >>= λ y rest. Done (x, y) rest

-- nothing
abbrev pub nil_read : Reader (Unit {0})
nil_read ts = Done tt ts

abbrev pub either_read : {X Y : Type 0} → Reader X → Reader Y → Bool → Reader (X ⊎ Y)
either_read p q true ts = p ts >>= λ x rest. Done (inl x) rest
either_read p q false ts = q ts >>= λ y rest. Done (inr y) rest

-- the one where the first token is of these kinds, or else the other
abbrev pub alt_read : {X Y : Type 0} → List ℕ → Reader X → Reader Y → Reader (X ⊎ Y)
alt_read first p q ts = either_read p q (starts first ts) ts

-- at most so many, as long as the first token is of these kinds
abbrev pub many_read : {X : Type 0} → List ℕ → Reader X → ℕ → Reader (List X)
many_read first p zero ts = Done [] ts
many_read first p (suc n) ts = cond (starts first ts) (p ts >>= λ x more. many_read first p n more >>= λ xs rest. Done (x ∷ xs) rest) (Done [] ts)

-- any number, as long as the first token is of these kinds
abbrev pub all_read : {X : Type 0} → List ℕ → Reader X → Reader (List X)
all_read first p ts = many_read first p (length ts) ts

-- the same under another type
abbrev pub as_read : {X T : Type 0} → (X → T) → Reader X → Reader T
as_read to p ts = p ts >>= λ x rest. Done (to x) rest

abbrev pub limited : {X : Type 0} → Bool → Reader X
limited true ts = Bad TooDeep ts
limited false ts = Bad Syntax ts

-- where no more parts may be open: the part that would begin is one too many
abbrev pub limit_read : {X : Type 0} → List ℕ → Reader X
limit_read first ts = limited (starts first ts) ts

abbrev pub ended : {X : Type 0} → X → Reader X
ended x [] = Done x []
ended x (t ∷ ts) = Bad Syntax (t ∷ ts)

-- all tokens
abbrev pub whole_read : {X : Type 0} → Reader X → Reader X
whole_read p ts = p ts >>= ended

-- these before what is read further
abbrev pub front : {X : Type 0} → List X → Read (List X) → Read (List X)
front xs m = m >>= λ ys rest. Done (xs ++ ys) rest

-- one reader or another of the same parts, by the first token
abbrev pub choice_read : {X : Type 0} → List ℕ → Reader X → Reader X → Reader X
choice_read first p q ts = cond (starts first ts) (p ts) (q ts)

-- a loop that reads any number of parts, with so many turns, before one of them: what it has read, and what it will answer
pub record IsUnderWay {X : Type 0} (first : List ℕ) (p : Reader X) (turns turn : ℕ) (xs : List X) (rest : List Word) (all : Read (List X)) : Type 0 where
  pub so_far : front xs (many_read first p (turns - turn) rest) ≡ all

-- ---- some readers of more than one part

-- whether it is a part of the first kind, by a test of the tokens
abbrev pub ahead_read : {X Y : Type 0} → (List Word → Bool) → Reader X → Reader Y → Reader (X ⊎ Y)
ahead_read test p q ts = either_read p q (test ts) ts

abbrev pub never_inl : {X Y : Type 0} → Reader Y → Reader (X ⊎ Y)
never_inl q ts = q ts >>= λ y rest. Done (inr y) rest

-- a choice that is there only if a flag says so
abbrev pub guarded_read : {X Y : Type 0} → Bool → List ℕ → Reader X → Reader Y → Reader (X ⊎ Y)
guarded_read true first p q = alt_read first p q
guarded_read false first p q = never_inl q

-- the parts that one with more behind it is put before
abbrev pub longer : {X : Type 0} → X → Read (List X × X) → Read (List X × X)
longer x m = m >>= λ s rest. Done (x ∷ s.0, s.1) rest

-- the place after the first token
abbrev pub after_first : List Word → List Word
after_first [] = []
after_first (t ∷ ts) = ts

-- a part after which another one may or must come, behind a token of these kinds, or that is the last
abbrev pub chain_turn : {X : Type 0} → List ℕ → (X → Bool) → (X → Bool) → (List Word → Read (List X × X)) → X → Bool → List Word → Read (List X × X)
chain_turn semi goes ends further x true more = cond (goes x) (longer x (further (after_first more))) (Done ([], x) more)
chain_turn semi goes ends further x false more = cond (ends x) (Done ([], x) more) (Bad Syntax more)

-- parts one after another, at most so many, each but the last before a token of these kinds
abbrev pub chain_read : {X : Type 0} → List ℕ → (X → Bool) → (X → Bool) → Reader X → ℕ → Reader (List X × X)
chain_read semi goes ends p zero ts = Bad Syntax ts
chain_read semi goes ends p (suc n) ts = p ts >>= λ x more. chain_turn semi goes ends (chain_read semi goes ends p n) x (starts semi more) more

abbrev pub all_chain_read : {X : Type 0} → List ℕ → (X → Bool) → (X → Bool) → Reader X → Reader (List X × X)
all_chain_read semi goes ends p ts = chain_read semi goes ends p (length ts) ts

-- whether the first token passes a test, and the second is of these kinds
abbrev pub two_test : (Word → Bool) → List ℕ → List Word → Bool
two_test one second [] = false
two_test one second (t ∷ ts) = one t && starts second ts
