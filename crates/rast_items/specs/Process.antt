-- A process as contracts see it.
use Rattle.std.specs.Prelude.{◌≡◌, ℕ, List, [], ◌∷◌, take, drop}
use Rattle.rast_items.specs.declared.link.Link.{Link}
use Rattle.rast_items.specs.declared.link.Pid.{Pid}

pub record Process : Type 0 where
  pub pid : Pid
  pub node : ℕ
  pub values : List ℕ
  pub own : Link
  pub uses : List (ℕ × Link)
  pub fresh : ℕ
  pub moment : ℕ
  pub potential : ℕ
  pub spawned : ℕ
  pub steps : ℕ

abbrev pub no_link : ℕ × Link
no_link = (0, record { session = record { 0 = 0 }; index = 0 })

abbrev pub own_of : List (ℕ × Link) → Link
own_of [] = no_link.1
own_of (e ∷ es) = e.1

abbrev pub uses_of : ℕ → List (ℕ × Link) → List (ℕ × Link)
uses_of n es = drop 1 (take n es)

-- the provided channel has the number 0 and stands first
abbrev pub first_is_own : List (ℕ × Link) → Type 0
first_is_own [] = ⊥
first_is_own (e ∷ es) = e ≡ (0, e.1)
