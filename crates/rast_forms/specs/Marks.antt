-- How many starred nonterminals are open at each token of a text.
use Rattle.std.specs.Prelude.{◌≡◌, ℕ, suc, max, ◌-◌, ◌≤◌, Bool, true, false, ◌&&◌, List, [], ◌∷◌, ◌++◌, map, cond}
use Rattle.rast_forms.specs.Words.{Word, Name, Number, Fixed, starts}

-- a token, how many starred nonterminals are open at it, and whether it is a number that begins a term of a formula
pub record Mark : Type 0 where
  pub word : Word
  pub open_at : ℕ
  pub in_formula : Bool

-- the tokens alone
abbrev pub bare : List Mark → List Word
bare = map (λ m. m.word)

abbrev pub one_more : Mark → Mark
one_more m = record { word = m.word; open_at = suc m.open_at; in_formula = m.in_formula }

-- one more starred nonterminal is open at each of these
abbrev pub starred : List Mark → List Mark
starred = map one_more

-- one list after another
abbrev pub joined : List (List Mark) → List Mark
joined [] = []
joined (x ∷ xs) = x ++ joined xs

-- the most that are open at a token
abbrev pub highest : List Mark → ℕ
highest [] = 0
highest (m ∷ ms) = max m.open_at (highest ms)

-- How many are open at a token, by the token after it: directly before a bar (a kind of `bar`), a number begins no term of a formula.
abbrev pub count : List ℕ → Mark → List Word → ℕ
count bar m next = cond (m.in_formula && starts bar next) (m.open_at - 1) m.open_at

-- at each of these tokens, before the further ones, at most so many are open
abbrev pub IsShallow : List ℕ → ℕ → List Mark → List Word → Type 0
IsShallow bar d [] rest = Unit {0}
IsShallow bar d (m ∷ ms) rest = (count bar m (bare ms ++ rest) ≤ d) × IsShallow bar d ms rest

-- one part after another
infixr 20 ◌▸◌
abbrev pub ◌▸◌ : List Mark → List Mark → List Mark
a ▸ b = a ++ b

-- a token that no starred nonterminal is open at
abbrev pub plain : Word → Mark
plain w = record { word = w; open_at = 0; in_formula = false }
