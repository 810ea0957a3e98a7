-- What the files have under a name, and what words ask for of it.
use Rattle.std.specs.Prelude.{◌≡◌, ℕ, Bool, ◌<◌, ◌≤◌, List, length, None, Some}
use Rattle.std.specs.declared.option.Option.{Option}
use Rattle.rast_io.specs.Bytes.{Named, Holds}
use Rattle.rast_ast.specs.declared.file.File.{File}
use Rattle.rast_terms.specs.declared.program.Program.{Program}
use Rattle.rast_load.specs.declared.fault.TextFault.{TextFault}
use Rattle.rast_load.specs.Reading.{IsFile, IsFault}
use Rattle.rast_check.specs.Decided.{searched}
use Rattle.rast_check.specs.Questions.{answer}
use Rattle.rast_accept.specs.declared.refusal.Refusal.{Refusal}
use Rattle.rast_accept.specs.Loading.{Says, Loads, IsReason}
use Rattle.rast_words.specs.Asks.{AsksRun, AsksCheck, AsksShow}

-- the file of this name has these bytes, as far as the files are told, and they are within the limit
pub record Has (limit : ℕ) (held : Option Named) (name bytes : List ℕ) : Type 0 where
  pub has : Holds held name bytes
  pub short : length bytes ≤ limit

-- the file of this name is longer than the limit, as far as the files are told
abbrev pub IsTooLong : ℕ → Option Named → List ℕ → Type 0
IsTooLong limit held name = (bytes : List ℕ) × Holds held name bytes × (limit < length bytes)

-- the file of this name says no accepted program, as far as the files are told, for this first reason
abbrev pub IsRefusedFile : ℕ → Option Named → List ℕ → Refusal → Type 0
IsRefusedFile limit held name why = (bytes : List ℕ) × Has limit held name bytes × IsReason bytes why

-- the file of this name says this accepted program, as far as the files are told
abbrev pub IsLoaded : ℕ → Option Named → List ℕ → Program → Type 0
IsLoaded limit held name program = (bytes : List ℕ) × Has limit held name bytes × Loads bytes program

-- the file of this name says an accepted program that executes nothing
abbrev pub HasNoExec : ℕ → Option Named → List ℕ → Type 0
HasNoExec limit held name = (program : Program) × IsLoaded limit held name program × (program.main ≡ None)

-- the bytes of this name are no file, as far as the files are told, and have this first fault
abbrev pub IsFaulty : ℕ → Option Named → List ℕ → TextFault → Type 0
IsFaulty limit held name fault = (bytes : List ℕ) × Has limit held name bytes × IsFault bytes fault × ((file : File) → IsFile bytes file → ⊥)

-- the file of this name is told, and has these bytes
abbrev pub IsHeld : Option Named → List ℕ → List ℕ → Type 0
IsHeld None name bytes = ⊥
IsHeld (Some files) name bytes = files name ≡ Some bytes

-- the file of this name is told, and says this program, of which nothing is false, undecided or over a limit
pub record IsClear (limit : ℕ) (told : Option Named) (name : List ℕ) (program : Program) : Type 0 where
  pub bytes : List ℕ
  pub held : IsHeld told name bytes
  pub short : length bytes ≤ limit
  pub says : Says bytes program
  pub clear : answer searched program ≡ None

-- the words ask for a run of such a program, which executes something
pub record AsksForProgram (limit : ℕ) (words : List (List ℕ)) (told : Option Named) : Type 0 where
  pub name : List ℕ
  pub budget : ℕ
  pub trace : Bool
  pub program : Program
  pub asks : AsksRun words name budget trace
  pub is : IsClear limit told name program
  pub executes : program.main ≡ None → ⊥

-- the words ask for a check of such a program
pub record AsksForCheck (limit : ℕ) (words : List (List ℕ)) (told : Option Named) : Type 0 where
  pub name : List ℕ
  pub program : Program
  pub asks : AsksCheck words name
  pub is : IsClear limit told name program

-- the words ask for the canonical text of bytes that are told, and that are a file
pub record AsksForFile (limit : ℕ) (words : List (List ℕ)) (told : Option Named) : Type 0 where
  pub name : List ℕ
  pub bytes : List ℕ
  pub file : File
  pub asks : AsksShow words name
  pub held : IsHeld told name bytes
  pub short : length bytes ≤ limit
  pub is : IsFile bytes file
