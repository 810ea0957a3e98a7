-- The exit statuses and lines of texts that say no accepted program.
use Rattle.std.specs.Prelude.{ℕ, List, ◌++◌, codes}
use Rattle.std.specs.Fmt.{decimal}
use Rattle.rast_load.specs.Lines.{fault_line, fault_status}
use Rattle.rast_equal.specs.declared.answer.SameErr.{SameErr}
use Rattle.rast_equal.specs.declared.answer.SameErr.TheVariants as same
use Rattle.rast_equal.specs.declared.validity.TypeErr.{TypeErr}
use Rattle.rast_equal.specs.declared.validity.TypeErr.TheVariants as type
use Rattle.rast_check.specs.declared.answer.CheckErr.{CheckErr}
use Rattle.rast_check.specs.declared.answer.CheckErr.TheVariants as check
use Rattle.rast_lines.specs.Lines.{line}
use Rattle.rast_accept.specs.declared.fault.NameFault.{NameFault}
use Rattle.rast_accept.specs.declared.fault.NameFault.TheVariants as name
use Rattle.rast_accept.specs.declared.refusal.Refusal.{Refusal}
use Rattle.rast_accept.specs.declared.refusal.Refusal.TheVariants.{NoFile, NotYet, Names, Rules}

-- a passed limit is a bound
abbrev pub name_status : NameFault → ℕ
name_status (name.Limit n) = 5
name_status e = 1

abbrev pub named_line : List ℕ → List ℕ → List ℕ
named_line words n = words ++ n ++ codes "\n"

abbrev pub name_line : NameFault → List ℕ
name_line (name.Unknown n) = named_line (codes "refused: unknown ") n
name_line (name.Twice n) = named_line (codes "refused: twice ") n
name_line (name.Arity n) = named_line (codes "refused: arity ") n
name_line (name.BadMain n) = named_line (codes "refused: main ") n
name_line (name.Limit n) = named_line (codes "bound: limit in ") n

-- what is undecided is a bound
abbrev pub same_status : SameErr → ℕ
same_status (same.Bound s) = 5
same_status e = 1

abbrev pub type_status : TypeErr → ℕ
type_status (type.Bound d s) = 5
type_status e = 1

abbrev pub check_status : CheckErr → ℕ
check_status (check.BadType e) = type_status e
check_status (check.BadDecl k e) = type_status e
check_status (check.BadEquation e) = same_status e.why
check_status (check.Bound s k stop) = 5
check_status (check.Limit s stop) = 5
check_status e = 1

abbrev pub refusal_status : Refusal → ℕ
refusal_status (NoFile fault) = fault_status fault
refusal_status (NotYet at) = 1
refusal_status (Names f) = name_status f
refusal_status (Rules g f) = check_status f.why

abbrev pub refusal_line : Refusal → List ℕ
refusal_line (NoFile fault) = fault_line fault
refusal_line (NotYet at) = codes "refused: not yet at byte " ++ decimal at ++ codes "\n"
refusal_line (Names f) = name_line f
refusal_line (Rules g f) = line g f.why
