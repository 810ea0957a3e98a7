-- Exit statuses, and what was written where no write failed.
use Rattle.std.proofs.Common.{◌≡◌, ◌∙◌, ◌⊎◌, ℕ, List, refl, sym, inl, inr}
use Rattle.std.specs.declared.option.Option.{Option}
use Rattle.std.specs.Io.KnownBytes.{Appends}
use Rattle.rast_cooper.specs.declared.verdict.Verdict.TheVariants.{Holds, Fails, NodeLimit, NumberLimit}
use Rattle.rast_core.specs.declared.answer.Outcome.{Outcome}
use Rattle.rast_core.specs.declared.answer.Outcome.TheVariants as outcome
use Rattle.rast_load.specs.declared.fault.TextFault.{TextFault}
use Rattle.rast_load.specs.declared.fault.TextFault.TheVariants as fault
use Rattle.rast_load.specs.Lines.{fault_status}
use Rattle.rast_equal.specs.declared.answer.SameErr.{SameErr}
use Rattle.rast_equal.specs.declared.answer.SameErr.TheVariants as same
use Rattle.rast_equal.specs.declared.validity.TypeErr.{TypeErr}
use Rattle.rast_equal.specs.declared.validity.TypeErr.TheVariants as type
use Rattle.rast_check.specs.declared.answer.CheckErr.{CheckErr}
use Rattle.rast_check.specs.declared.answer.CheckErr.TheVariants as check
use Rattle.rast_accept.specs.declared.fault.NameFault.{NameFault}
use Rattle.rast_accept.specs.declared.fault.NameFault.TheVariants as name
use Rattle.rast_accept.specs.declared.refusal.Refusal.{Refusal}
use Rattle.rast_accept.specs.declared.refusal.Refusal.TheVariants as refusal
use Rattle.rast_accept.specs.Lines.{name_status, same_status, type_status, check_status, refusal_status}
use Rattle.rast_decide.specs.declared.decision.Decision.{Decision}
use Rattle.rast_decide.specs.declared.decision.Decision.TheVariants as decision
use Rattle.rast_decide.specs.Lines.{status_of}
use Rattle.rast_cli.specs.declared.answer.Answer.TheVariants.{Ran}
use Rattle.rast_cli.specs.Lines.{code_of}
use Rattle.rast_cli.specs.Answered.{Ends}

-- 1 or 5
abbrev pub IsRefusalCode : ℕ → Type 0
IsRefusalCode code = (code ≡ 1) ⊎ (code ≡ 5)

pub fault_codes : (f : TextFault) → IsRefusalCode (fault_status f)
fault_codes (fault.BadByte at) = inl refl
fault_codes (fault.BadNumber at) = inl refl
fault_codes (fault.LongName at) = inl refl
fault_codes (fault.Syntax at) = inl refl
fault_codes (fault.TooDeep at) = inr refl

name_codes : (e : NameFault) → IsRefusalCode (name_status e)
name_codes (name.Unknown n) = inl refl
name_codes (name.Twice n) = inl refl
name_codes (name.Arity n) = inl refl
name_codes (name.BadMain n) = inl refl
name_codes (name.Limit n) = inr refl

same_codes : (e : SameErr) → IsRefusalCode (same_status e)
same_codes (same.Fails path vars values) = inl refl
same_codes (same.Wanted path) = inl refl
same_codes same.Left = inl refl
same_codes (same.Bound stop) = inr refl
same_codes same.Memory = inl refl

type_codes : (e : TypeErr) → IsRefusalCode (type_status e)
type_codes (type.Invalid def rule vars values) = inl refl
type_codes (type.Bound def stop) = inr refl
type_codes type.Memory = inl refl

check_codes : (e : CheckErr) → IsRefusalCode (check_status e)
check_codes (check.BadType e) = type_codes e
check_codes (check.BadDecl k e) = type_codes e
check_codes (check.BadEquation e) = same_codes e.why
check_codes (check.Refused s k evidence) = inl refl
check_codes (check.Bound s k stop) = inr refl
check_codes (check.Limit s stop) = inr refl
check_codes check.Memory = inl refl

pub refusal_codes : (r : Refusal) → IsRefusalCode (refusal_status r)
refusal_codes (refusal.NoFile f) = fault_codes f
refusal_codes (refusal.NotYet at) = inl refl
refusal_codes (refusal.Names f) = name_codes f
refusal_codes (refusal.Rules g f) = check_codes f.why

-- 0, 6 or 7
abbrev pub IsRunCode : ℕ → Type 0
IsRunCode code = (code ≡ 0) ⊎ ((code ≡ 6) ⊎ (code ≡ 7))

pub outcome_codes : (o : Outcome) → IsRunCode (code_of (Ran o))
outcome_codes outcome.Running = inr (inl refl)
outcome_codes outcome.Finished = inl refl
outcome_codes outcome.OutOfBudget = inr (inl refl)
outcome_codes (outcome.IndexLimit pid value) = inr (inr refl)

pub decision_codes : (d : Decision) → (status_of d ≡ 0) ⊎ ((status_of d ≡ 1) ⊎ ((status_of d ≡ 5) ⊎ (status_of d ≡ 9)))
decision_codes decision.TooLong = inr (inr (inr refl))
decision_codes (decision.BadByte at) = inr (inl refl)
decision_codes (decision.BadNumber at) = inr (inl refl)
decision_codes (decision.LongName at) = inr (inl refl)
decision_codes (decision.Syntax at) = inr (inl refl)
decision_codes (decision.TooDeep at) = inr (inr (inl refl))
decision_codes decision.Limit = inr (inr (inl refl))
decision_codes (decision.Judged Holds) = inl refl
decision_codes (decision.Judged (Fails values)) = inr (inl refl)
decision_codes (decision.Judged NodeLimit) = inr (inr (inl refl))
decision_codes (decision.Judged NumberLimit) = inr (inr (inl refl))

-- the answer that a status other than 4 stands for, whose text was written whole
pub whole_of : (old new : Option (List ℕ)) (before now : ℕ) (text : List ℕ) (code status : ℕ) → Ends old new before now text code status → (status ≡ 4 → ⊥) → (status ≡ code) × Appends old new text
whole_of old new before now text code status (inl whole) other = (whole.0, whole.2)
whole_of old new before now text code status (inr part) other = absurd (other part.0)

-- from the status to the answer's code, and what was written
pub at_code : (old new : Option (List ℕ)) (before now : ℕ) (text : List ℕ) (code status k : ℕ) → Ends old new before now text code status → status ≡ k → (k ≡ 4 → ⊥) → (k ≡ code) × Appends old new text
at_code old new before now text code status k ends is other = let w = whole_of old new before now text code status ends (λ four. other (sym is ∙ four)) in (sym is ∙ w.0, w.1)
