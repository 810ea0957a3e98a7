-- What the calls of a check answer.
use Rattle.std.specs.Prelude.{◌≡◌, ℕ, List, Option, Some, None, Result, Ok, Err, All}
use Rattle.rast_equal.specs.declared.answer.SameErr.{SameErr}
use Rattle.rast_equal.specs.declared.answer.SameErr.TheVariants as same
use Rattle.rast_equal.specs.declared.validity.TypeErr.{TypeErr}
use Rattle.rast_equal.specs.declared.validity.TypeErr.TheVariants as type
use Rattle.rast_rules.specs.Rules.{Program, IsTruePremise}
use Rattle.rast_rules.specs.declared.judgement.Judgement.{Judgement}
use Rattle.rast_rules.specs.declared.premise.Premise.{Premise}
use Rattle.rast_check.specs.declared.premise.Why.{Why}
use Rattle.rast_check.specs.declared.premise.Why.TheVariants as why
use Rattle.rast_check.specs.Questions.{Question, IsTrueQuestion, Refusal, BadType, TypeBound, BadDecl, DeclBound, BadEquation, Refused, StopsAt, Limit, first_error, premise_error, refusal}
use Rattle.rast_check.specs.Decided.{searched}
use Rattle.rast_check.specs.declared.answer.CheckErr.{CheckErr}
use Rattle.rast_check.specs.declared.answer.CheckErr.TheVariants as err

-- want of memory is told by itself alone
abbrev pub IsTypeRefusal : Option Refusal → TypeErr → Type 0
IsTypeRefusal o (type.Invalid def rule vars values) = o ≡ Some (BadType def rule vars values)
IsTypeRefusal o (type.Bound def stop) = o ≡ Some (TypeBound def stop)
IsTypeRefusal o type.Memory = ⊥

abbrev pub IsDeclRefusal : Option Refusal → ℕ → TypeErr → Type 0
IsDeclRefusal o k (type.Invalid def rule vars values) = o ≡ Some (BadDecl k def rule vars values)
IsDeclRefusal o k (type.Bound def stop) = o ≡ Some (DeclBound k def stop)
IsDeclRefusal o k type.Memory = ⊥

abbrev pub IsEquationRefusal : Option Refusal → ℕ → ℕ → SameErr → Type 0
IsEquationRefusal o n k same.Memory = ⊥
IsEquationRefusal o n k e = o ≡ Some (BadEquation n k e)

-- this is refused; want of memory may always come
abbrev pub IsRefusal : Option Refusal → CheckErr → Type 0
IsRefusal o (err.BadType e) = IsTypeRefusal o e
IsRefusal o (err.BadDecl k e) = IsDeclRefusal o k e
IsRefusal o (err.BadEquation e) = IsEquationRefusal o e.number e.premise e.why
IsRefusal o (err.Refused n k evidence) = o ≡ Some (Refused n k evidence)
IsRefusal o (err.Bound n k stop) = o ≡ Some (StopsAt n k stop)
IsRefusal o (err.Limit n stop) = o ≡ Some (Limit n stop)
IsRefusal o err.Memory = Unit {0}

-- all of this is true and decided so
abbrev pub Clears : Program → List Question → Type 0
Clears g qs = (first_error (refusal searched g) qs ≡ None) × All (IsTrueQuestion g) qs

-- all of this is true and decided so, or this is refused first
abbrev pub Asked : {X : Type 0} → Program → List Question → Result X CheckErr → Type 0
Asked {X} g qs (Ok x) = Clears g qs
Asked {X} g qs (Err e) = IsRefusal (first_error (refusal searched g) qs) e

-- ---- one premise

abbrev pub IsWhy : ℕ → ℕ → Option Refusal → Why → Type 0
IsWhy n k o (why.False evidence) = o ≡ Some (Refused n k evidence)
IsWhy n k o (why.Stopped stop) = o ≡ Some (StopsAt n k stop)
IsWhy n k o why.Memory = Unit {0}

-- it is true and decided so; or why not, wherever it stands
abbrev pub Answered : {X : Type 0} → (ℕ → ℕ → Option Refusal) → Type 0 → Result X Why → Type 0
Answered {X} o T (Ok x) = ((n k : ℕ) → o n k ≡ None) × T
Answered {X} o T (Err e) = (n k : ℕ) → IsWhy n k (o n k) e

abbrev pub AnswersPremise : {X : Type 0} → Program → Judgement → Premise → Result X Why → Type 0
AnswersPremise {X} g j p r = Answered (λ n k. premise_error searched g n k j p) (IsTruePremise g j p) r
