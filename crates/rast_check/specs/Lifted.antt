-- What lower calls answer, as refusals of a check.
use Rattle.std.specs.Prelude.{ℕ, Option, Some, None}
use Rattle.rast_equal.specs.declared.equations.EquationErr.{EquationErr}
use Rattle.rast_equal.specs.declared.validity.TypeErr.{TypeErr}
use Rattle.rast_equal.specs.declared.validity.TypeErr.TheVariants as type
use Rattle.rast_check.specs.Questions.{Refusal, BadType, TypeBound, BadDecl, DeclBound, BadEquation}

abbrev pub type_refusal : Option TypeErr → Option Refusal
type_refusal None = None
type_refusal (Some (type.Invalid def rule vars values)) = Some (BadType def rule vars values)
type_refusal (Some (type.Bound def stop)) = Some (TypeBound def stop)
type_refusal (Some type.Memory) = None

-- the same of a type of a declaration
abbrev pub decl_refusal : ℕ → Option TypeErr → Option Refusal
decl_refusal k None = None
decl_refusal k (Some (type.Invalid def rule vars values)) = Some (BadDecl k def rule vars values)
decl_refusal k (Some (type.Bound def stop)) = Some (DeclBound k def stop)
decl_refusal k (Some type.Memory) = None

abbrev pub equation_refusal : Option EquationErr → Option Refusal
equation_refusal None = None
equation_refusal (Some e) = Some (BadEquation e.number e.premise e.why)
