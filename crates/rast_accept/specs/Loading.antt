-- The accepted program that a text says, or the first reason why it says none.
use Rattle.std.specs.Prelude.{◌≡◌, ℕ, false, List, None, Ok, Err}
use Rattle.rast_ast.specs.declared.file.File.{File}
use Rattle.rast_terms.specs.declared.program.Program.{Program}
use Rattle.rast_load.specs.Reading.{IsFile, IsFault}
use Rattle.rast_load.specs.declared.form.FormErr.{FormErr}
use Rattle.rast_load.specs.declared.form.FormErr.TheVariants as form
use Rattle.rast_load.specs.Forms.{IsBuilt, IsBuiltFile, IsUnbuiltAt}
use Rattle.rast_resolve.specs.declared.fault.NameErr.{NameErr}
use Rattle.rast_resolve.specs.declared.fault.NameErr.TheVariants as name
use Rattle.rast_resolve.specs.declared.program.Resolved.{Resolved}
use Rattle.rast_resolve.specs.Programs.{resolved}
use Rattle.rast_made.specs.WellMade.{IsWellMade}
use Rattle.rast_rules.specs.Rules.{IsAccepted}
use Rattle.rast_check.specs.declared.answer.CheckErr.{CheckErr}
use Rattle.rast_check.specs.Decided.{searched}
use Rattle.rast_check.specs.Refusals.{IsRefusal}
use Rattle.rast_check.specs.Questions.{answer}
use Rattle.rast_check.specs.Shown.{Refutes}
use Rattle.rast_accept.specs.Faults.{is_rule_fault}
use Rattle.rast_accept.specs.declared.fault.NameFault.{NameFault}
use Rattle.rast_accept.specs.declared.fault.NameFault.TheVariants as fault
use Rattle.rast_accept.specs.declared.refusal.Refusal.{Refusal}
use Rattle.rast_accept.specs.declared.refusal.Refusal.TheVariants.{NoFile, NotYet, Names, Rules}
use Rattle.rast_accept.specs.declared.refusal.LoadErr.{LoadErr}
use Rattle.rast_accept.specs.declared.refusal.LoadErr.TheVariants.{Refused, Memory}

-- the text is a file of built forms that says this program
pub record Says (text : List ℕ) (program : Program) : Type 0 where
  pub file : File
  pub is : IsBuiltFile text file
  pub resolved_to : Resolved
  pub resolved_is : resolved file ≡ Ok resolved_to
  pub program_is : program ≡ resolved_to.program

-- a fault in names as the look-up of names has it
abbrev pub name_err : NameFault → NameErr
name_err (fault.Unknown n) = name.Unknown n
name_err (fault.Twice n) = name.Twice n
name_err (fault.Arity n) = name.Arity n
name_err (fault.BadMain n) = name.BadMain n
name_err (fault.Limit n) = name.Limit n

-- the text is a file of built forms of whose names this is the first fault
pub record IsNamesFault (text : List ℕ) (e : NameErr) : Type 0 where
  pub file : File
  pub is : IsBuiltFile text file
  pub faulty : resolved file ≡ Err e

-- the text says this program and no other, which is well made and accepted and has nothing undecided or over a limit
pub record Loads (text : List ℕ) (program : Program) : Type 0 where
  pub says : Says text program
  pub only : (other : Program) → Says text other → other ≡ program
  pub made : IsWellMade program
  pub accepted : IsAccepted program
  pub clear : answer searched program ≡ None

-- the text says no program
abbrev pub SaysNone : List ℕ → Type 0
SaysNone text = (program : Program) → Says text program → ⊥

-- The first reason why a text says no accepted program: it is no file; or it has a form that isn't built; or its names are faulty; or
-- the one program that it says is refused, and isn't accepted unless the refusal is for a bound or a limit.
abbrev pub IsReason : List ℕ → Refusal → Type 0
IsReason text (NoFile fault) = IsFault text fault × ((file : File) → IsFile text file → ⊥)
IsReason text (NotYet at) = (file : File) × IsFile text file × IsUnbuiltAt text at × (IsBuilt text → ⊥)
IsReason text (Names f) = IsNamesFault text (name_err f) × SaysNone text
IsReason text (Rules program f) =
    Says text program × ((other : Program) → Says text other → other ≡ program) × IsRefusal (answer searched program) f.why × Refutes program f.why

abbrev pub IsUnloaded : List ℕ → LoadErr → Type 0
IsUnloaded text (Refused why) = IsReason text why
IsUnloaded text Memory = Unit {0}

-- the refusals of the calls as reasons

abbrev pub of_form : FormErr → LoadErr
of_form (form.NoFile fault) = Refused (NoFile fault)
of_form (form.NotYet at) = Refused (NotYet at)
of_form form.Memory = Memory

abbrev pub of_names : NameErr → LoadErr
of_names (name.Unknown n) = Refused (Names (fault.Unknown n))
of_names (name.Twice n) = Refused (Names (fault.Twice n))
of_names (name.Arity n) = Refused (Names (fault.Arity n))
of_names (name.BadMain n) = Refused (Names (fault.BadMain n))
of_names (name.Limit n) = Refused (Names (fault.Limit n))
of_names name.Memory = Memory

-- a refusal of the check of a program, or want of memory
abbrev pub IsOfCheck : Program → CheckErr → LoadErr → Type 0
IsOfCheck g e (Refused (Rules h f)) = (h ≡ g) × (f.why ≡ e)
IsOfCheck g e (Refused why) = ⊥
IsOfCheck g e Memory = is_rule_fault e ≡ false
