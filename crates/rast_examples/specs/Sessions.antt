-- Events of a few sessions, as examples of what is in order and what isn't.
use Rattle.std.specs.Prelude.{ℕ}
use Rattle.rast_items.specs.Links.{pid_at, link_at}
use Rattle.rast_items.specs.declared.message.Body.TheVariants.{Label}
use Rattle.rast_items.specs.declared.event.Event.{Event}
use Rattle.rast_items.specs.declared.event.Event.TheVariants.{Send, Take, Move}

-- process 1 sends a label on a link of its session 1
abbrev pub sends : ℕ → ℕ → Event
sends k label = Send (pid_at 1) (link_at 1 k) (Label label) 0 0

-- process 0 takes a label from a link of session 1
abbrev pub takes : ℕ → ℕ → Event
takes k label = Take (pid_at 0) (link_at 1 k) (Label label) 0

-- process 0 moves a label from link 0 of session 1 to a link of its own session 0
abbrev pub moves : ℕ → ℕ → Event
moves k label = Move (pid_at 0) (link_at 1 0) (link_at 0 k) (Label label) 0
