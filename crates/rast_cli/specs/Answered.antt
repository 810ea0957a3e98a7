-- When each answer comes, with the text that is to be written; and how the program ends.
use Rattle.std.specs.Prelude.{◌≡◌, ◌⊎◌, ℕ, Bool, false, ◌<◌, List, [], length, take}
use Rattle.std.specs.declared.option.Option.{Option}
use Rattle.std.specs.Io.KnownBytes.{Appends}
use Rattle.clap.specs.Words.{takes}
use Rattle.rast_io.specs.Bytes.{Named}
use Rattle.rast_io.specs.Causes.{Rose}
use Rattle.rast_ast.specs.declared.file.File.{File}
use Rattle.rast_terms.specs.declared.program.Program.{Program}
use Rattle.rast_items.specs.declared.event.Event.{Event}
use Rattle.rast_core.specs.declared.answer.Outcome.{Outcome}
use Rattle.rast_load.specs.Reading.{IsFile}
use Rattle.rast_accept.specs.declared.refusal.Refusal.{Refusal}
use Rattle.rast_accept.specs.Lines.{refusal_line, refusal_status}
use Rattle.rast_print.specs.FileText.{canonical}
use Rattle.rast_decide.specs.Decides.{Decides}
use Rattle.rast_words.specs.CommandLine.{rast}
use Rattle.rast_words.specs.Asks.{AsksRun, AsksCheck, AsksShow, AsksWhether}
use Rattle.rast_cli.specs.declared.answer.Answer.{Answer}
use Rattle.rast_cli.specs.declared.answer.Answer.TheVariants.{Usage, ReadFault, TooLong, NoFile, Refused, NoExec, Ran, Accepted, Shown, Decided}
use Rattle.rast_cli.specs.Lines.{line_of}
use Rattle.rast_cli.specs.Held.{Has, IsTooLong, IsRefusedFile, IsLoaded, HasNoExec, IsFaulty}
use Rattle.rast_cli.specs.Reported.{IsReport}

-- an answer has its line, and no run
abbrev pub HasLine : Answer → List ℕ → List Event → Type 0
HasLine answer text history = (text ≡ line_of answer) × (history ≡ [])

-- the file of this name says no accepted program, and the status and the text are those of the first reason
abbrev pub RefusesFile : ℕ → Option Named → List ℕ → ℕ → List ℕ → Type 0
RefusesFile limit held name status text = (why : Refusal) × IsRefusedFile limit held name why × (status ≡ refusal_status why) × (text ≡ refusal_line why)

-- the accepted program of the file of this name was run for so many events at most, with its report
pub record RunsFile (limit : ℕ) (held : Option Named) (name : List ℕ) (budget : ℕ) (trace : Bool) (outcome : Outcome) (text : List ℕ) (history : List Event) : Type 0 where
  pub program : Program
  pub loaded : IsLoaded limit held name program
  pub report : IsReport budget trace program outcome text history

-- the file of this name says an accepted program
abbrev pub AcceptsFile : ℕ → Option Named → List ℕ → Type 0
AcceptsFile limit held name = (program : Program) × IsLoaded limit held name program

-- the text is the canonical text of the file that the bytes of this name are
pub record ShowsFile (limit : ℕ) (held : Option Named) (name text : List ℕ) : Type 0 where
  pub bytes : List ℕ
  pub has : Has limit held name bytes
  pub file : File
  pub is : IsFile bytes file
  pub text_is : text ≡ canonical file

-- When an answer comes, with its text and history, and the facts that the files' count of faults rose or stayed.

-- where the file of this name gives no accepted program
abbrev pub NoneComes : ℕ → Option Named → Type 0 → Type 0 → List ℕ → Answer → List ℕ → List Event → Type 0
NoneComes limit held rose quiet name ReadFault text history = rose × HasLine ReadFault text history
NoneComes limit held rose quiet name TooLong text history = IsTooLong limit held name × quiet × HasLine TooLong text history
NoneComes limit held rose quiet name (Refused status) text history = RefusesFile limit held name status text × quiet × (history ≡ [])
NoneComes limit held rose quiet name answer text history = ⊥

-- at a run of the file of this name
abbrev pub RunComes : ℕ → Option Named → Type 0 → Type 0 → List ℕ → ℕ → Bool → Answer → List ℕ → List Event → Type 0
RunComes limit held rose quiet name budget trace NoExec text history = HasNoExec limit held name × quiet × HasLine NoExec text history
RunComes limit held rose quiet name budget trace (Ran outcome) text history = RunsFile limit held name budget trace outcome text history × quiet
RunComes limit held rose quiet name budget trace answer text history = NoneComes limit held rose quiet name answer text history

-- at a check of the file of this name
abbrev pub CheckComes : ℕ → Option Named → Type 0 → Type 0 → List ℕ → Answer → List ℕ → List Event → Type 0
CheckComes limit held rose quiet name Accepted text history = AcceptsFile limit held name × quiet × HasLine Accepted text history
CheckComes limit held rose quiet name answer text history = NoneComes limit held rose quiet name answer text history

-- at the canonical text of the file of this name
abbrev pub ShowComes : ℕ → Option Named → Type 0 → Type 0 → List ℕ → Answer → List ℕ → List Event → Type 0
ShowComes limit held rose quiet name ReadFault text history = rose × HasLine ReadFault text history
ShowComes limit held rose quiet name TooLong text history = IsTooLong limit held name × quiet × HasLine TooLong text history
ShowComes limit held rose quiet name (NoFile fault) text history = IsFaulty limit held name fault × quiet × HasLine (NoFile fault) text history
ShowComes limit held rose quiet name Shown text history = ShowsFile limit held name text × quiet × (history ≡ [])
ShowComes limit held rose quiet name answer text history = ⊥

-- at the question whether a formula holds
abbrev pub DecideComes : ℕ → List ℕ → Answer → List ℕ → List Event → Type 0
DecideComes limit formula (Decided d) text history = Decides limit formula d text × (history ≡ [])
DecideComes limit formula answer text history = ⊥

-- the command line doesn't take the words
abbrev pub IsUsage : List (List ℕ) → Type 0
IsUsage words = takes rast words ≡ false

-- at words that the command line doesn't take
abbrev pub UsageComes : List (List ℕ) → Answer → List ℕ → List Event → Type 0
UsageComes words Usage text history = IsUsage words × HasLine Usage text history
UsageComes words answer text history = ⊥

-- at any words
abbrev pub Comes : ℕ → List (List ℕ) → Option Named → Type 0 → Type 0 → Answer → List ℕ → List Event → Type 0
Comes limit words held rose quiet answer text history =
    ((name : List ℕ) × (budget : ℕ) × (trace : Bool) × AsksRun words name budget trace × RunComes limit held rose quiet name budget trace answer text history)
    ⊎ (((name : List ℕ) × AsksCheck words name × CheckComes limit held rose quiet name answer text history)
    ⊎ (((name : List ℕ) × AsksShow words name × ShowComes limit held rose quiet name answer text history)
    ⊎ (((formula : List ℕ) × AsksWhether words formula × quiet × DecideComes limit formula answer text history)
    ⊎ (quiet × UsageComes words answer text history))))

-- all of the text was written, or where a write failed a beginning
abbrev pub IsWritten : Option (List ℕ) → Option (List ℕ) → ℕ → ℕ → List ℕ → Type 0
IsWritten old new before now text = ((now ≡ before) × Appends old new text) ⊎ (Rose before now × ((n : ℕ) × (n < length text) × Appends old new (take n text)))

-- the status, with what was written of the text: all of it, or where a write failed a beginning
abbrev pub Ends : Option (List ℕ) → Option (List ℕ) → ℕ → ℕ → List ℕ → ℕ → ℕ → Type 0
Ends old new before now text code status = ((status ≡ code) × (now ≡ before) × Appends old new text)
    ⊎ ((status ≡ 4) × Rose before now × ((n : ℕ) × (n < length text) × Appends old new (take n text)))
