-- Refusals of a check that aren't want of memory.
use Rattle.std.specs.Prelude.{Bool, true, false}
use Rattle.rast_equal.specs.declared.answer.SameErr.{SameErr}
use Rattle.rast_equal.specs.declared.answer.SameErr.TheVariants as same
use Rattle.rast_equal.specs.declared.validity.TypeErr.{TypeErr}
use Rattle.rast_equal.specs.declared.validity.TypeErr.TheVariants as type
use Rattle.rast_check.specs.declared.answer.CheckErr.{CheckErr}
use Rattle.rast_check.specs.declared.answer.CheckErr.TheVariants as check

abbrev pub is_type_fault : TypeErr → Bool
is_type_fault type.Memory = false
is_type_fault e = true

abbrev pub is_same_fault : SameErr → Bool
is_same_fault same.Memory = false
is_same_fault e = true

abbrev pub is_rule_fault : CheckErr → Bool
is_rule_fault (check.BadType e) = is_type_fault e
is_rule_fault (check.BadDecl k e) = is_type_fault e
is_rule_fault (check.BadEquation e) = is_same_fault e.why
is_rule_fault check.Memory = false
is_rule_fault e = true
