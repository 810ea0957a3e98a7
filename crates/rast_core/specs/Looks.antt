-- What is answered of an item, and what lies ahead of items.
use Rattle.std.specs.Prelude.{◌≡◌, Option, Some, None, List, [], ◌∷◌}
use Rattle.rast_terms.specs.declared.program.Program.{Program}
use Rattle.rast_core.specs.Words.{Pid, Item, P, M}
use Rattle.rast_items.specs.Step.{Next as Does, Ready as DReady, Halted as DHalted}
use Rattle.rast_core.specs.Shown.{Shown, next_of}
use Rattle.rast_core.specs.Promises.{Tells}
use Rattle.rast_core.specs.declared.answer.Next.{Next}
use Rattle.rast_core.specs.declared.answer.Ahead.{Ahead}
use Rattle.rast_core.specs.declared.answer.Ahead.TheVariants.{Event, Limit, Nothing}

-- a process with what it does next; nothing of a message
abbrev pub IsNextAt : Program → Shown → Option Item → Option (Pid × Next) → Type 0
IsNextAt g v (Some (P p)) (Some r) = (r.0 ≡ p.pid) × Tells (next_of g v p.pid) r.1
IsNextAt g v (Some (M m)) None = Unit {0}
IsNextAt g v item r = ⊥

-- what lies ahead of a process that does this next
abbrev pub ahead_by : Pid → Does → Ahead
ahead_by pid (DReady e items) = Event pid
ahead_by pid (DHalted value) = Limit pid value
ahead_by pid n = Nothing

-- what lies ahead of an item
abbrev pub ahead_item : Program → Shown → Option Item → Ahead
ahead_item g v (Some (P p)) = ahead_by p.pid (next_of g v p.pid)
ahead_item g v item = Nothing

-- what lies ahead of some items and then others: an event of any of them before all else
abbrev pub earlier : Ahead → Ahead → Ahead
earlier (Event pid) later = Event pid
earlier (Limit pid value) (Event other) = Event other
earlier (Limit pid value) later = Limit pid value
earlier Nothing later = later

-- what lies ahead of these items
abbrev pub ahead_of : Program → Shown → List Item → Ahead
ahead_of g v [] = Nothing
ahead_of g v (i ∷ is) = earlier (ahead_item g v (Some i)) (ahead_of g v is)
