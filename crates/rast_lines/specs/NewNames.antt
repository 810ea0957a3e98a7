-- A new name among those that are taken.
use Rattle.std.specs.Prelude.{ℕ, ◌+◌, Bool, if◌then◌else◌, List, [], ◌∷◌, ◌++◌}
use Rattle.std.specs.List.{list_any}
use Rattle.std.specs.Str.{bytes_eq}
use Rattle.std.specs.Fmt.{decimal}
use Rattle.rast_terms.specs.Texts.{Text}

-- a name, `_` and a number
abbrev pub numbered_name : Text → ℕ → Text
numbered_name name k = name ++ (95 ∷ decimal k)

abbrev pub is_taken : List Text → Text → Bool
is_taken taken name = list_any (λ t. bytes_eq t name) taken

-- the first numbered name from k on that isn't taken, tried as often as there are names in a list
abbrev pub free_from : List Text → ℕ → List Text → Text → Text
free_from [] k taken name = numbered_name name k
free_from (t ∷ ts) k taken name = if is_taken taken (numbered_name name k) then free_from ts (k + 1) taken name else numbered_name name k

-- The name itself where it is free, and else the name, `_`, and the least number from 1 on that makes it free:
-- so many names can't take one more numbered name than there are of them.
abbrev pub new_name : List Text → Text → Text
new_name taken name = if is_taken taken name then free_from taken 1 taken name else name

abbrev pub with_new : List Text → Text → List Text
with_new taken name = taken ++ new_name taken name ∷ []
