-- Where items lie. What lies above this crate uses no more of `rest` than the calls say.
use Rattle.std.specs.Prelude.{◌≡◌, List, [], ◌∷◌, drop, Option, Some, None}
use Rattle.rast_core.specs.Words.{Item}
use Rattle.rast_core.specs.Shown.{Shown}
use Rattle.rast_core.specs.declared.handle.Handle.{Handle}

-- the items of the list from a handle on
abbrev pub rest : Shown → Handle → List Item
rest v h = drop h.place v.items

-- none where there is no handle, as behind the last item
abbrev pub rest_of : Shown → Option Handle → List Item
rest_of v None = []
rest_of v (Some h) = rest v h

-- an item lies there
pub record Lies (v : Shown) (h : Handle) : Type 0 where
  pub item : Item
  pub after : List Item
  pub is : rest v h ≡ item ∷ after
