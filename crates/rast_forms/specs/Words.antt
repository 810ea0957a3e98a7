-- The tokens that a grammar is stated over, and tests of the first of a list of tokens.
use Rattle.std.specs.Prelude.{ℕ, suc, Bool, true, false, not, ◌&&◌, ◌||◌, ◌==◌, List, [], ◌∷◌}

-- a name with its bytes, a number with its value, or one of the keywords and symbols
pub data Word : Type 0 where
  Name : (bytes : List ℕ) → Word
  Number : (value : ℕ) → Word
  Fixed : (which : ℕ) → Word

-- the number of a token's kind
abbrev pub key_of : Word → ℕ
key_of (Name bytes) = 0
key_of (Number value) = 1
key_of (Fixed which) = suc (suc which)

-- whether a kind is one of these
abbrev pub is_in : List ℕ → ℕ → Bool
is_in [] k = false
is_in (c ∷ cs) k = (k == c) || is_in cs k

-- whether there is a first token, of one of these kinds
abbrev pub starts : List ℕ → List Word → Bool
starts cs [] = false
starts cs (w ∷ ws) = is_in cs (key_of w)

-- no kind is in both
abbrev pub is_apart : List ℕ → List ℕ → Bool
is_apart [] ys = true
is_apart (x ∷ xs) ys = not (is_in ys x) && is_apart xs ys

-- each kind of the first is in the second
abbrev pub is_within : List ℕ → List ℕ → Bool
is_within [] ys = true
is_within (x ∷ xs) ys = is_in ys x && is_within xs ys

-- each of these is true
abbrev pub all_true : List Bool → Bool
all_true [] = true
all_true (b ∷ bs) = b && all_true bs
