-- Names in order, and what a name stands for among them.
use Rattle.std.specs.Prelude.{ℕ, zero, suc, ◌+◌, ◌-◌, Bool, if◌then◌else◌, nat_lt, List, [], ◌∷◌, ◌++◌, length, Option, Some, None, slice_get}
use Rattle.std.specs.List.{list_any}
use Rattle.std.specs.Str.{bytes_eq}

-- a name
abbrev pub Text : Type 0
Text = List ℕ

abbrev pub Texts : Type 0
Texts = List Text

abbrev pub is_among : Text → Texts → Bool
is_among n ns = list_any (bytes_eq n) ns

-- the place of the first such name, counted from here
abbrev pub place_from : ℕ → Text → Texts → Option ℕ
place_from k n [] = None
place_from k n (m ∷ ms) = if bytes_eq n m then Some k else place_from (suc k) n ms

-- the place of the first such name in a list
abbrev pub place_of : Text → Texts → Option ℕ
place_of n ns = place_from 0 n ns

-- the place of the last such name, or else what was found before
abbrev pub newest_from : Option ℕ → ℕ → Text → Texts → Option ℕ
newest_from found k n [] = found
newest_from found k n (m ∷ ms) = newest_from (if bytes_eq n m then Some k else found) (suc k) n ms

-- the place of the last such name: a later binding hides an older one
abbrev pub newest_of : Text → Texts → Option ℕ
newest_of n ns = newest_from None 0 n ns

-- each name once, in the order in which they come first, after these
abbrev pub once_from : Texts → Texts → Texts
once_from seen [] = seen
once_from seen (n ∷ ns) = once_from (if is_among n seen then seen else seen ++ n ∷ []) ns

-- what stands at a place
abbrev pub at_place : {X : Type 0} → List X → Option ℕ → Option X
at_place {X} xs None = None
at_place {X} xs (Some k) = slice_get xs k

abbrev pub or_else : {X : Type 0} → X → Option X → X
or_else {X} x None = x
or_else {X} x (Some y) = y

-- the number of a name in a list of different names
abbrev pub number_in : Texts → Text → ℕ
number_in ns n = or_else 0 (place_of n ns)

-- the name of a variable that a walk adds: q and its number
abbrev pub walked_name : ℕ → Text
walked_name k = if nat_lt k 10 then 113 ∷ (48 + k) ∷ [] else 113 ∷ 49 ∷ (38 + k) ∷ []

-- the first of so many such variables with this name, counted from here
abbrev pub walked_from : ℕ → ℕ → Text → Option ℕ
walked_from zero k n = None
walked_from (suc m) k n = if bytes_eq n (walked_name k) then Some k else walked_from m (suc k) n

abbrev pub or_walked : Option ℕ → Bool → ℕ → Text → Option ℕ
or_walked (Some k) walked vars n = Some k
or_walked None walked vars n = if walked then walked_from (16 - vars) vars n else None

-- the variable of a name among the variables in scope; where `walked`, those that a walk adds have names too
abbrev pub variable_of : Bool → Texts → Text → Option ℕ
variable_of walked vars n = or_walked (newest_of n vars) walked (length vars) n
