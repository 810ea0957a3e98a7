-- Runs in which two messages never have the same link.
use Rattle.std.specs.Prelude.{◌≡◌, List, ◌++◌}
use Rattle.rast_items.specs.Deeds.{Code}
use Rattle.rast_items.specs.declared.event.Event.{Event}
use Rattle.rast_items.specs.Run.{State, IsRun, AreApart}

-- in no state that the run comes to have two messages the same link
abbrev pub StaysApart : Code → List Event → Type 0
StaysApart c es = (front back : List Event) (st : State) → front ++ back ≡ es → IsRun c front st → AreApart st.items
