-- What is kept beside a list of names, so that a new name is found at once.
use Rattle.std.specs.Prelude.{◌≡◌, ℕ, ◌+◌, ◌<◌, ◌≤◌, true, List, length, Option, Some, IfSome, is_some, if◌then◌else◌}
use Rattle.std.specs.Str.{bytes_eq}
use Rattle.std.specs.HashMap.{HashMap, get_by}
use Rattle.std.specs.declared.vec.Vec.{Vec}
use Rattle.rast_terms.specs.Texts.{Text}
use Rattle.rast_lines.specs.NewNames.{numbered_name, is_taken}

-- what a map has for a name
abbrev pub found : {Y S : Type 0} → HashMap (Vec ℕ Y) ℕ S → Text → Option ℕ
found m n = get_by (λ k. bytes_eq n k.items) m

-- each number from 1 on that is below k is taken behind a name, and k is at most one more than there are names
abbrev pub AreUsed : List Text → Text → ℕ → Type 0
AreUsed taken name k = (1 ≤ k) × (k ≤ length taken + 1) × ((j : ℕ) → 1 ≤ j → j < k → is_taken taken (numbered_name name j) ≡ true)

-- a map has a number for each name that is taken, and for no other
abbrev pub IsNumbered : {Y S : Type 0} → HashMap (Vec ℕ Y) ℕ S → List Text → Type 0
IsNumbered m taken = (name : Text) → (is_some (found m name) ≡ is_taken taken name) × IfSome (found m name) (AreUsed taken name)

-- a map has this number for one name, and for the others what another map has
abbrev pub Puts : {Y S : Type 0} → HashMap (Vec ℕ Y) ℕ S → HashMap (Vec ℕ Y) ℕ S → Text → ℕ → Type 0
Puts old new n k = (m : Text) → found new m ≡ (if bytes_eq n m then Some k else found old m)

-- two maps have the same
abbrev pub HaveSame : {Y S : Type 0} → HashMap (Vec ℕ Y) ℕ S → HashMap (Vec ℕ Y) ℕ S → Type 0
HaveSame old new = (m : Text) → found new m ≡ found old m
