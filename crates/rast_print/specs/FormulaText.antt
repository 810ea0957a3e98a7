-- The canonical text of formulas.
use Rattle.std.specs.Prelude.{ℕ, List, codes}
use Rattle.std.specs.Fmt.{decimal}
use Rattle.rast_ast.specs.declared.Rel.{Rel}
use Rattle.rast_ast.specs.declared.Rel.TheVariants as rel
use Rattle.rast_ast.specs.declared.Form.{Form}
use Rattle.rast_ast.specs.declared.Disjunction.{Disjunction}
use Rattle.rast_ast.specs.declared.Conjunction.{Conjunction}
use Rattle.rast_ast.specs.declared.Literal.{Literal}
use Rattle.rast_ast.specs.declared.Form.TheOpen.{Form-F, Literal-F, Conjunction-F, Disjunction-F, Plain, Implies, Not, Group, True, False, Divides, Related}
use Rattle.rast_ast.specs.declared.Form.TheFolds.{fold-Form, fold-Literal, fold-Conjunction, fold-Disjunction}
use Rattle.std.specs.List.{flat_map}
use Rattle.rast_print.specs.Joined.{◌▸◌}
use Rattle.rast_print.specs.LinearText.{lin_text}

abbrev pub rel_text : Rel → List ℕ
rel_text rel.Eq = codes " = "
rel_text rel.Ne = codes " <> "
rel_text rel.Lt = codes " < "
rel_text rel.Le = codes " <= "
rel_text rel.Gt = codes " > "
rel_text rel.Ge = codes " >= "

abbrev pub form_step : Form-F (List ℕ) (List ℕ) (List ℕ) (List ℕ) → List ℕ
form_step (Plain d) = d
form_step (Implies d f) = d ▸ codes " => " ▸ f

abbrev pub literal_step : Literal-F (List ℕ) (List ℕ) (List ℕ) (List ℕ) → List ℕ
literal_step (Not l) = codes "~ " ▸ l
literal_step (Group f) = codes "[" ▸ f ▸ codes "]"
literal_step True = codes "true"
literal_step False = codes "false"
literal_step (Divides k l) = decimal k ▸ codes " | " ▸ lin_text l
literal_step (Related a r b) = lin_text a ▸ rel_text r ▸ lin_text b

abbrev pub conjunction_step : Conjunction-F (List ℕ) (List ℕ) (List ℕ) (List ℕ) → List ℕ
conjunction_step c = c.first ▸ flat_map (λ l. codes " /\\ " ▸ l) c.rest

abbrev pub disjunction_step : Disjunction-F (List ℕ) (List ℕ) (List ℕ) (List ℕ) → List ℕ
disjunction_step d = d.first ▸ flat_map (λ c. codes " \\/ " ▸ c) d.rest

abbrev pub form_text : Form → List ℕ
form_text = fold-Form (List ℕ) (List ℕ) (List ℕ) (List ℕ) form_step literal_step conjunction_step disjunction_step

abbrev pub literal_text : Literal → List ℕ
literal_text = fold-Literal (List ℕ) (List ℕ) (List ℕ) (List ℕ) form_step literal_step conjunction_step disjunction_step

abbrev pub conjunction_text : Conjunction → List ℕ
conjunction_text = fold-Conjunction (List ℕ) (List ℕ) (List ℕ) (List ℕ) form_step literal_step conjunction_step disjunction_step

abbrev pub disjunction_text : Disjunction → List ℕ
disjunction_text = fold-Disjunction (List ℕ) (List ℕ) (List ℕ) (List ℕ) form_step literal_step conjunction_step disjunction_step

-- a further conjunction, and a further literal, behind the symbol before it
abbrev pub or_text : Conjunction → List ℕ
or_text c = codes " \\/ " ▸ conjunction_text c

abbrev pub and_text : Literal → List ℕ
and_text l = codes " /\\ " ▸ literal_text l
