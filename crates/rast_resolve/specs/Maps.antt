-- Maps from names to places.
use Rattle.std.specs.Prelude.{◌≡◌, ℕ, Option, if◌then◌else◌, List, [], ◌∷◌, ◌++◌}
use Rattle.std.specs.Str.{bytes_eq}
use Rattle.std.specs.HashMap.{HashMap, get_by}
use Rattle.std.specs.declared.vec.Vec.{Vec}
use Rattle.rast_resolve.specs.Lists.{Text, Texts, place_of, newest_of}

-- what a map has for a name
abbrev pub found : {Y S : Type 0} → HashMap (Vec ℕ Y) ℕ S → Text → Option ℕ
found m n = get_by (λ k. bytes_eq n k.items) m

-- a map has for each name its first place
abbrev pub FindsFirst : {Y S : Type 0} → HashMap (Vec ℕ Y) ℕ S → Texts → Type 0
FindsFirst m ns = (n : Text) → found m n ≡ place_of n ns

-- a map has for each name its last place
abbrev pub FindsNewest : {Y S : Type 0} → HashMap (Vec ℕ Y) ℕ S → Texts → Type 0
FindsNewest m ns = (n : Text) → found m n ≡ newest_of n ns

-- for each name the place of the one that it hides, after the names that are bound before
abbrev pub hides_from : Texts → Texts → List (Option ℕ)
hides_from before [] = []
hides_from before (n ∷ ns) = newest_of n before ∷ hides_from (before ++ n ∷ []) ns

abbrev pub hides : Texts → List (Option ℕ)
hides ns = hides_from [] ns

-- a map has this for one name, and for the others what another map has
abbrev pub Puts : {Y S : Type 0} → HashMap (Vec ℕ Y) ℕ S → HashMap (Vec ℕ Y) ℕ S → Text → Option ℕ → Type 0
Puts old new n place = (m : Text) → found new m ≡ (if bytes_eq n m then place else found old m)

-- two maps have the same
abbrev pub HaveSame : {Y S : Type 0} → HashMap (Vec ℕ Y) ℕ S → HashMap (Vec ℕ Y) ℕ S → Type 0
HaveSame old new = (m : Text) → found new m ≡ found old m
