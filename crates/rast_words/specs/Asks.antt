-- What words ask for, of which the first is the program's name.
use Rattle.std.specs.Prelude.{◌≡◌, ◌⊎◌, ℕ, Bool, true, List, Some, codes}
use Rattle.clap.specs.Words.{Row, Text, subcommand_of, takes}
use Rattle.rast_words.specs.CommandLine.{rast}
use Rattle.rast_words.specs.Matched.{text_at, number_at, is_set}
use Rattle.rast_words.specs.declared.asked.Command.{Command}
use Rattle.rast_words.specs.declared.asked.Command.TheVariants.{Run, Check, Show, Decide}

-- the words ask for this subcommand, with these matches
pub record AsksBy (words : List Text) (name : Text) (matches : List Row) : Type 0 where
  pub taken : takes rast words ≡ true
  pub subcommand : subcommand_of rast words ≡ Some (name, matches)

-- the matches of `run` name this file, at most this many events, and whether the events are to be printed
pub record NamesRun (matches : List Row) (name : Text) (most : ℕ) (traced : Bool) : Type 0 where
  pub file : name ≡ text_at (codes "file") matches
  pub budget : most ≡ number_at 100000 (codes "budget") matches
  pub trace : traced ≡ is_set (codes "trace") matches

-- a subcommand with these matches asks for this
abbrev pub Means : Text → List Row → Command → Type 0
Means name matches (Run file budget trace) = (name ≡ codes "run") × NamesRun matches file.now budget trace
Means name matches (Check file) = (name ≡ codes "check") × (file.now ≡ text_at (codes "file") matches)
Means name matches (Show file) = (name ≡ codes "show") × (file.now ≡ text_at (codes "file") matches)
Means name matches (Decide formula) = (name ≡ codes "decide") × (formula.now ≡ text_at (codes "formula") matches)

abbrev pub IsSubcommand : Text → Type 0
IsSubcommand name = (name ≡ codes "run") ⊎ ((name ≡ codes "check") ⊎ ((name ≡ codes "show") ⊎ (name ≡ codes "decide")))

-- the words ask for a run of this file with at most this many events, and whether the events are to be printed
abbrev pub AsksRun : List Text → Text → ℕ → Bool → Type 0
AsksRun words name most traced = (matches : List Row) × AsksBy words (codes "run") matches × NamesRun matches name most traced

-- the words ask for a check of this file
abbrev pub AsksCheck : List Text → Text → Type 0
AsksCheck words name = (matches : List Row) × AsksBy words (codes "check") matches × (name ≡ text_at (codes "file") matches)

-- the words ask for the canonical text of this file
abbrev pub AsksShow : List Text → Text → Type 0
AsksShow words name = (matches : List Row) × AsksBy words (codes "show") matches × (name ≡ text_at (codes "file") matches)

-- the words ask whether this formula holds
abbrev pub AsksWhether : List Text → Text → Type 0
AsksWhether words formula = (matches : List Row) × AsksBy words (codes "decide") matches × (formula ≡ text_at (codes "formula") matches)

-- the words ask for this
abbrev pub Asks : List Text → Command → Type 0
Asks words (Run file budget trace) = AsksRun words file.now budget trace
Asks words (Check file) = AsksCheck words file.now
Asks words (Show file) = AsksShow words file.now
Asks words (Decide formula) = AsksWhether words formula.now
