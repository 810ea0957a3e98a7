-- The accepted program of a file, or what is said where there is none.
use Rattle.std.specs.Prelude.{◌≡◌, ℕ, List, []}
use Rattle.std.specs.declared.option.Option.{Option}
use Rattle.rast_io.specs.Bytes.{Named}
use Rattle.rast_accept.specs.declared.refusal.Refusal.{Refusal}
use Rattle.rast_accept.specs.declared.refusal.LoadErr.{LoadErr}
use Rattle.rast_accept.specs.declared.refusal.LoadErr.TheVariants as unloaded
use Rattle.rast_accept.specs.Lines.{refusal_line, refusal_status}
use Rattle.rast_accept.specs.Loading.{Loads, IsReason}
use Rattle.rast_cli.specs.declared.answer.Answer.TheVariants.{Refused}
use Rattle.rast_cli.specs.declared.said.Said.{Said}
use Rattle.rast_cli.specs.declared.found.Found.{Found}
use Rattle.rast_cli.specs.declared.found.Found.TheVariants as found
use Rattle.rast_cli.specs.Held.{IsLoaded}
use Rattle.rast_cli.specs.Answered.{NoneComes}

abbrev pub IsFound : ℕ → Option Named → Type 0 → Type 0 → List ℕ → Found → Type 0
IsFound limit held rose quiet name (found.Program checked) = IsLoaded limit held name checked.program × quiet
IsFound limit held rose quiet name (found.None said) = NoneComes limit held rose quiet name said.answer said.text.items said.history.items

-- what is said is the refusal for this reason, with its status and its line, and no run
abbrev pub SaysRefusal : Refusal → Said → Type 0
SaysRefusal why said = (said.answer ≡ Refused (refusal_status why)) × (said.text.items ≡ refusal_line why) × (said.history.items ≡ [])

-- what is said of a text that isn't loaded; where memory is wanting nothing is
abbrev pub SaysUnloaded : LoadErr → Said → Type 0
SaysUnloaded (unloaded.Refused why) said = SaysRefusal why said
SaysUnloaded unloaded.Memory said = ⊥

-- the text says no accepted program, and what is said is the refusal for the first reason
pub record RefusesText (text : List ℕ) (said : Said) : Type 0 where
  pub why : Refusal
  pub reason : IsReason text why
  pub says : SaysRefusal why said

-- the accepted program that a text says, or its refusal
abbrev pub IsFoundIn : List ℕ → Found → Type 0
IsFoundIn text (found.Program checked) = Loads text checked.program
IsFoundIn text (found.None said) = RefusesText text said
