-- What a call answers that makes a type.
use Rattle.std.specs.Prelude.{◌≡◌, ℕ, ◌&&◌, Result, Ok, Err}
use Rattle.rast_index.specs.Linear.{is_small}
use Rattle.rast_index.specs.declared.refusal.IndexErr.{IndexErr}
use Rattle.rast_index.specs.declared.refusal.IndexErr.TheVariants as refusal
use Rattle.rast_types.specs.Closed.{Table}
use Rattle.rast_types.specs.Symbolic.{Timed, within, is_deep, is_small_type, opened_body}
use Rattle.rast_types.specs.declared.head.Exposed.{Exposed}
use Rattle.rast_types.specs.declared.stop.Stop.{Stop}
use Rattle.rast_types.specs.declared.stop.Stop.TheVariants as stop

-- What was made, or the bound that was reached in making it; want of memory may always come.
abbrev pub Answers : {X : Type 0} → Result X Stop → Result X IndexErr → Type 0
Answers {X} made (Ok x) = made ≡ Ok x
Answers {X} made (Err refusal.Coefficient) = made ≡ Err stop.Coefficient
Answers {X} made (Err refusal.Variables) = made ≡ Err stop.Variables
Answers {X} made (Err refusal.Memory) = Unit {0}

-- The same of ticks and head.
abbrev pub AnswersExposed : Result Timed Stop → Result Exposed IndexErr → Type 0
AnswersExposed made (Ok e) = made ≡ Ok (record { ticks = e.ticks; body = e.head })
AnswersExposed made (Err refusal.Coefficient) = made ≡ Err stop.Coefficient
AnswersExposed made (Err refusal.Variables) = made ≡ Err stop.Variables
AnswersExposed made (Err refusal.Memory) = Unit {0}

-- Ticks that were found, and the head below them, within the limits.
abbrev pub made_head : Table → ℕ → Timed → Result Timed Stop
made_head t n e = let o = opened_body t n e in within (is_deep n o.body) (is_small o.ticks && is_small_type o.body) o
