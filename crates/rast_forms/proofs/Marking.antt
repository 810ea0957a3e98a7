-- Laws of marks.
use Rattle.std.proofs.Common.{◌≡◌, ℕ, suc, max, ◌+◌, ◌-◌, ◌<◌, ◌≤◌, Bool, true, false, ◌&&◌, cond, List, [], ◌∷◌, ◌++◌, map, ap, ap₂, sym, ◌∙◌, refl, subst, ◌⊎◌, inl, inr, arith, append_assoc}
use Rattle.std.proofs.lemmas.List.{map-append}
use Rattle.std.proofs.lemmas.Bool.{cases_lt}
use Rattle.rast_forms.specs.Words.{Word, starts}
use Rattle.rast_forms.specs.Marks.{Mark, bare, one_more, starred, joined, highest, count, IsShallow}

pub bare-append : (a b : List Mark) → bare (a ++ b) ≡ bare a ++ bare b
bare-append a b = map-append (λ (m : Mark). m.word) a b

pub bare-starred : (ms : List Mark) → bare (starred ms) ≡ bare ms
bare-starred [] = refl
bare-starred (m ∷ ms) = ap (λ z. m.word ∷ z) (bare-starred ms)

-- the tokens of two parts, before further ones
pub bare_split : (a b : List Mark) (r : List Word) → bare (a ++ b) ++ r ≡ bare a ++ (bare b ++ r)
bare_split a b r = ap (λ z. z ++ r) (bare-append a b) ∙ append_assoc (bare a) (bare b) r

pub highest-append : (a b : List Mark) → highest (a ++ b) ≡ max (highest a) (highest b)
highest-append [] b = omega arith
highest-append (m ∷ a) b = let h : highest (a ++ b) ≡ max (highest a) (highest b) = highest-append a b in rw h (omega arith)

pub highest_starred_le : (ms : List Mark) (d : ℕ) → highest ms ≤ d → highest (starred ms) ≤ suc d
highest_starred_le [] d h = omega arith
highest_starred_le (m ∷ ms) d h = let i : highest (starred ms) ≤ suc d = highest_starred_le ms d (omega arith) in omega arith

pub highest_starred_lt : (ms : List Mark) (d : ℕ) → d < highest ms → suc d < highest (starred ms)
highest_starred_lt [] d h = absurd (omega arith)
highest_starred_lt (m ∷ ms) d h = at (cases_lt d (highest ms)) (λ k. highest_starred_lt ms d k)
  where
    at : (d < highest ms) ⊎ (highest ms ≤ d) → (d < highest ms → suc d < highest (starred ms)) → suc d < max (suc m.open_at) (highest (starred ms))
    at (inl k) f = let i : suc d < highest (starred ms) = f k in omega arith
    at (inr k) f = omega arith

pub joined-append : (xs ys : List (List Mark)) → joined (xs ++ ys) ≡ joined xs ++ joined ys
joined-append [] ys = refl
joined-append (x ∷ xs) ys = ap (λ z. x ++ z) (joined-append xs ys) ∙ sym (append_assoc x (joined xs) (joined ys))

-- ---- what counts at a token

pub count_le : (bar : List ℕ) (m : Mark) (next : List Word) → count bar m next ≤ m.open_at
count_le bar m next = at (m.in_formula && starts bar next)
  where
    at : (b : Bool) → cond b (m.open_at - 1) m.open_at ≤ m.open_at
    at true = omega arith
    at false = omega arith

pub count_more_le : (bar : List ℕ) (m : Mark) (next : List Word) (d : ℕ) → count bar m next ≤ d → count bar (one_more m) next ≤ suc d
count_more_le bar m next d h = at (m.in_formula && starts bar next) h
  where
    at : (b : Bool) → cond b (m.open_at - 1) m.open_at ≤ d → cond b (suc m.open_at - 1) (suc m.open_at) ≤ suc d
    at true h = omega arith
    at false h = omega arith

pub count_more_lt : (bar : List ℕ) (m : Mark) (next : List Word) (d : ℕ) → d < count bar m next → suc d < count bar (one_more m) next
count_more_lt bar m next d h = at (m.in_formula && starts bar next) h
  where
    at : (b : Bool) → d < cond b (m.open_at - 1) m.open_at → suc d < cond b (suc m.open_at - 1) (suc m.open_at)
    at true h = omega arith
    at false h = omega arith

pub shallow_more : (bar : List ℕ) (d : ℕ) (ms : List Mark) (rest : List Word) → IsShallow bar d ms rest → IsShallow bar (suc d) (starred ms) rest
shallow_more bar d [] rest h = tt
shallow_more bar d (m ∷ ms) rest h = (rw (bare-starred ms) (count_more_le bar m (bare ms ++ rest) d h.0), shallow_more bar d ms rest h.1)

-- a part that is shallow of itself, before one that is
pub shallow_append : (bar : List ℕ) (d : ℕ) (a b : List Mark) (rest : List Word) → highest a ≤ d → IsShallow bar d b rest → IsShallow bar d (a ++ b) rest
shallow_append bar d [] b rest h s = s
shallow_append bar d (m ∷ a) b rest h s = (omega (arith, count_le bar m (bare (a ++ b) ++ rest)), shallow_append bar d a b rest (omega arith) s)
