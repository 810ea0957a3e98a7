-- The linear terms and formulas that written ones stand for in an item.
use Rattle.std.specs.Prelude.{Bool, false, List, map, Ok, Err}
use Rattle.rast_index.specs.Linear.{Linear}
use Rattle.rast_index.specs.declared.formula.Formula.{Formula}
use Rattle.rast_ast.specs.declared.term.Lin.{Lin}
use Rattle.rast_ast.specs.declared.form.Form.{Form}
use Rattle.rast_formula.specs.declared.refusal.ScopeErr.{ScopeErr}
use Rattle.rast_formula.specs.declared.refusal.ScopeErr.TheVariants as scope
use Rattle.rast_formula.specs.Answers as written
use Rattle.rast_formula.specs.Linears as terms
use Rattle.rast_formula.specs.Formulas as forms
use Rattle.rast_resolve.specs.declared.fault.NameErr.{NameErr}
use Rattle.rast_resolve.specs.declared.fault.NameErr.TheVariants as fault
use Rattle.rast_resolve.specs.Answers.{Answer, each}
use Rattle.rast_resolve.specs.Scopes.{Text, Texts, variable_of}

-- a limit is that of the item
abbrev pub fault_in : Text → ScopeErr → NameErr
fault_in item (scope.Unknown n) = fault.Unknown n
fault_in item scope.Limit = fault.Limit item
fault_in item scope.Memory = fault.Memory

abbrev pub in_item : {X : Type 0} → Text → written.Answer X → Answer X
in_item item (Ok x) = Ok x
in_item item (Err e) = Err (fault_in item e)

-- the item, whether a walk's variables have names there, and the variables in scope
abbrev pub linear_of : Text → Bool → Texts → Lin → Answer Linear
linear_of item walked vars l = in_item item (terms.linear_of (variable_of walked vars) l)

-- linear terms in their order
abbrev pub linears_of : Text → Bool → Texts → List Lin → Answer (List Linear)
linears_of item walked vars es = each (map (linear_of item walked vars) es)

abbrev pub formula_of : Text → Texts → Form → Answer Formula
formula_of item vars f = in_item item (forms.formula_of (variable_of false vars) f)
