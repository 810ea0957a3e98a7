-- Lists of keys and values: what stands beside a key, and lists with one entry changed or left out.
use Rattle.std.specs.Prelude.{ℕ, ◌==◌, List, [], ◌∷◌, Option, Some, None, if◌then◌else◌, ◌≡◌, ◌<◌, length, take, get_or, ◌+◌}

-- what stands beside a key
abbrev pub find_key : {A : Type 0} → ℕ → List (ℕ × A) → Option A
find_key {A} k [] = None
find_key {A} k (e ∷ es) = if e.0 == k then Some e.1 else find_key k es

-- the first entry of this key is left out
abbrev pub drop_key : {A : Type 0} → ℕ → List (ℕ × A) → List (ℕ × A)
drop_key {A} k [] = []
drop_key {A} k (e ∷ es) = if e.0 == k then es else e ∷ drop_key k es

-- the first entry of this key has another value
abbrev pub set_key : {A : Type 0} → ℕ → A → List (ℕ × A) → List (ℕ × A)
set_key {A} k a [] = []
set_key {A} k a (e ∷ es) = if e.0 == k then (k, a) ∷ es else e ∷ set_key k a es

-- the first entry of this key is at place i
pub record IsPlace {A : Type 0} (k : ℕ) (es : List (ℕ × A)) (i : ℕ) : Type 0 where
  pub below : i < length es
  pub free : find_key k (take i es) ≡ None
  pub here : (d : ℕ × A) → (get_or es i d).0 ≡ k

-- keys k, k + 1, .. with these
abbrev pub numbered : {A : Type 0} → ℕ → List A → List (ℕ × A)
numbered {A} k [] = []
numbered {A} k (l ∷ ls) = (k, l) ∷ numbered (k + 1) ls

abbrev pub put_first : {A : Type 0} → A → Option (List A × List (ℕ × A)) → Option (List A × List (ℕ × A))
put_first {A} l None = None
put_first {A} l (Some r) = Some (l ∷ r.0, r.1)

-- what stands beside these keys, and the entries that are left
abbrev pub pull : {A : Type 0} → List ℕ → List (ℕ × A) → Option (List A × List (ℕ × A))
pull {A} [] us = Some ([], us)
pull {A} (y ∷ ys) us = elim (find_key y us) [ None ↦ None | Some l ↦ put_first l (pull ys (drop_key y us)) ]
