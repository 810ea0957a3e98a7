-- What comes of words where no run is made.
use Rattle.std.specs.Prelude.{◌≡◌, ◌⊎◌, ℕ, Bool, List}
use Rattle.std.specs.declared.option.Option.{Option}
use Rattle.rast_io.specs.Bytes.{Named}
use Rattle.rast_items.specs.declared.event.Event.{Event}
use Rattle.rast_words.specs.Asks.{AsksRun, AsksCheck, AsksShow, AsksWhether}
use Rattle.rast_cli.specs.declared.answer.Answer.{Answer}
use Rattle.rast_cli.specs.declared.answer.Answer.TheVariants.{Usage}
use Rattle.rast_cli.specs.Answered.{HasLine, IsUsage, CheckComes, ShowComes, DecideComes}

-- the command line doesn't take the words, or they ask for a run
abbrev pub IsUsageOrRun : List (List ℕ) → Type 0
IsUsageOrRun words = IsUsage words ⊎ ((name : List ℕ) × (budget : ℕ) × (trace : Bool) × AsksRun words name budget trace)

-- at such words the usage line comes
pub record UsageOrRunComes (words : List (List ℕ)) (answer : Answer) (text : List ℕ) (history : List Event) : Type 0 where
  pub cause : IsUsageOrRun words
  pub answer_is : answer ≡ Usage
  pub line : HasLine Usage text history

-- at any words
abbrev pub ComesWithoutRun : ℕ → List (List ℕ) → Option Named → Type 0 → Type 0 → Answer → List ℕ → List Event → Type 0
ComesWithoutRun limit words held rose quiet answer text history =
    ((name : List ℕ) × AsksCheck words name × CheckComes limit held rose quiet name answer text history)
    ⊎ (((name : List ℕ) × AsksShow words name × ShowComes limit held rose quiet name answer text history)
    ⊎ (((formula : List ℕ) × AsksWhether words formula × quiet × DecideComes limit formula answer text history)
    ⊎ (quiet × UsageOrRunComes words answer text history)))
