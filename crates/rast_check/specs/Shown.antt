-- Refusals that show that a program isn't accepted.
use Rattle.rast_equal.specs.declared.answer.SameErr.{SameErr}
use Rattle.rast_equal.specs.declared.answer.SameErr.TheVariants as same
use Rattle.rast_equal.specs.declared.validity.TypeErr.{TypeErr}
use Rattle.rast_equal.specs.declared.validity.TypeErr.TheVariants as type
use Rattle.rast_rules.specs.Rules.{Program, IsAccepted}
use Rattle.rast_check.specs.declared.answer.CheckErr.{CheckErr}
use Rattle.rast_check.specs.declared.answer.CheckErr.TheVariants as err

-- after a false rule of a type the program isn't accepted
abbrev pub RefutesType : Program → TypeErr → Type 0
RefutesType g (type.Invalid def rule vars values) = IsAccepted g → ⊥
RefutesType g (type.Bound def stop) = Unit {0}
RefutesType g type.Memory = Unit {0}

-- nor is it after a false premise of an equation
abbrev pub RefutesSame : Program → SameErr → Type 0
RefutesSame g (same.Fails path vars values) = IsAccepted g → ⊥
RefutesSame g (same.Wanted path) = IsAccepted g → ⊥
RefutesSame g same.Left = IsAccepted g → ⊥
RefutesSame g (same.Bound stop) = Unit {0}
RefutesSame g same.Memory = Unit {0}

-- nor after evidence of whatever kind against a premise of a node
abbrev pub Refutes : Program → CheckErr → Type 0
Refutes g (err.BadType e) = RefutesType g e
Refutes g (err.BadDecl k e) = RefutesType g e
Refutes g (err.BadEquation e) = RefutesSame g e.why
Refutes g (err.Refused n k evidence) = IsAccepted g → ⊥
Refutes g (err.Bound n k stop) = Unit {0}
Refutes g (err.Limit n stop) = Unit {0}
Refutes g err.Memory = Unit {0}
