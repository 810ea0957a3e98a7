-- The grammar of formulas: the tokens of each, and the starred nonterminals that are open at them.
use Rattle.std.specs.Prelude.{ℕ, Bool, true, false, not, ◌&&◌, ◌==◌, List, [], ◌∷◌, map}
use Rattle.std.specs.List.{list_all}
use Rattle.rast_forms.specs.Words.{all_true}
use Rattle.rast_forms.specs.Marks.{Mark, starred, joined, ◌▸◌}
use Rattle.rast_ast.specs.declared.kind.Kind.TheVariants as kind
use Rattle.rast_ast.specs.declared.form.Rel.{Rel}
use Rattle.rast_ast.specs.declared.form.Rel.TheVariants as rel
use Rattle.rast_ast.specs.declared.form.Form.{Form}
use Rattle.rast_ast.specs.declared.form.Disjunction.{Disjunction}
use Rattle.rast_ast.specs.declared.form.Conjunction.{Conjunction}
use Rattle.rast_ast.specs.declared.form.Literal.{Literal}
use Rattle.rast_ast.specs.declared.form.Form.TheOpen.{Form-F, Disjunction-F, Conjunction-F, Literal-F, Plain, Implies, Not, Group, True, False, Divides, Related}
use Rattle.rast_ast.specs.declared.form.Form.TheFolds.{fold-Form, fold-Disjunction, fold-Conjunction, fold-Literal}
use Rattle.rast_ast.specs.Written.{fixed, number}
use Rattle.rast_ast.specs.Linear.{lin_marks}

-- Rel = "=" | "<>" | "<" | "<=" | ">" | ">="
abbrev pub rel_marks : Rel → List Mark
rel_marks rel.Eq = fixed kind.Equal
rel_marks rel.Ne = fixed kind.NotEqual
rel_marks rel.Lt = fixed kind.Less
rel_marks rel.Le = fixed kind.AtMost
rel_marks rel.Gt = fixed kind.Greater
rel_marks rel.Ge = fixed kind.AtLeast

-- Form* = Or ["=>" Form]
abbrev pub form_step : Form-F (List Mark) (List Mark) (List Mark) (List Mark) → List Mark
form_step (Plain d) = starred d
form_step (Implies d f) = starred (d ▸ fixed kind.RightArrow ▸ f)

-- Or = And {"\/" And}
abbrev pub disjunction_step : Disjunction-F (List Mark) (List Mark) (List Mark) (List Mark) → List Mark
disjunction_step d = d.first ▸ joined (map (λ c. fixed kind.Or ▸ c) d.rest)

-- And = Not {"/\" Not}
abbrev pub conjunction_step : Conjunction-F (List Mark) (List Mark) (List Mark) (List Mark) → List Mark
conjunction_step c = c.first ▸ joined (map (λ l. fixed kind.And ▸ l) c.rest)

-- Not* = "~" Not | "[" Form "]" | "true" | "false" | Num "|" Lin | Lin Rel Lin
abbrev pub literal_step : Literal-F (List Mark) (List Mark) (List Mark) (List Mark) → List Mark
literal_step (Not l) = starred (fixed kind.Tilde ▸ l)
literal_step (Group f) = starred (fixed kind.OpenBracket ▸ f ▸ fixed kind.CloseBracket)
literal_step True = starred (fixed kind.True)
literal_step False = starred (fixed kind.False)
literal_step (Divides k l) = starred (number k ▸ fixed kind.Bar ▸ lin_marks true l)
literal_step (Related a r b) = starred (lin_marks true a ▸ rel_marks r ▸ lin_marks true b)

abbrev pub form_marks : Form → List Mark
form_marks = fold-Form (List Mark) (List Mark) (List Mark) (List Mark) form_step literal_step conjunction_step disjunction_step

abbrev pub disjunction_marks : Disjunction → List Mark
disjunction_marks = fold-Disjunction (List Mark) (List Mark) (List Mark) (List Mark) form_step literal_step conjunction_step disjunction_step

abbrev pub conjunction_marks : Conjunction → List Mark
conjunction_marks = fold-Conjunction (List Mark) (List Mark) (List Mark) (List Mark) form_step literal_step conjunction_step disjunction_step

abbrev pub literal_marks : Literal → List Mark
literal_marks = fold-Literal (List Mark) (List Mark) (List Mark) (List Mark) form_step literal_step conjunction_step disjunction_step

-- ---- which formulas the grammar has: a divisor is at least 1

abbrev pub form_proper : Form-F Bool Bool Bool Bool → Bool
form_proper (Plain d) = d
form_proper (Implies d f) = d && f

abbrev pub disjunction_proper : Disjunction-F Bool Bool Bool Bool → Bool
disjunction_proper d = d.first && all_true d.rest

abbrev pub conjunction_proper : Conjunction-F Bool Bool Bool Bool → Bool
conjunction_proper c = c.first && all_true c.rest

abbrev pub literal_proper : Literal-F Bool Bool Bool Bool → Bool
literal_proper (Not l) = l
literal_proper (Group f) = f
literal_proper True = true
literal_proper False = true
literal_proper (Divides k l) = not (k == 0)
literal_proper (Related a r b) = true

abbrev pub form_fits : Form → Bool
form_fits = fold-Form Bool Bool Bool Bool form_proper literal_proper conjunction_proper disjunction_proper

abbrev pub disjunction_fits : Disjunction → Bool
disjunction_fits = fold-Disjunction Bool Bool Bool Bool form_proper literal_proper conjunction_proper disjunction_proper

abbrev pub conjunction_fits : Conjunction → Bool
conjunction_fits = fold-Conjunction Bool Bool Bool Bool form_proper literal_proper conjunction_proper disjunction_proper

abbrev pub literal_fits : Literal → Bool
literal_fits = fold-Literal Bool Bool Bool Bool form_proper literal_proper conjunction_proper disjunction_proper
