-- The variables of a formula that stands alone, numbered in the order in which they first occur in its text.
use Rattle.std.specs.Prelude.{nat_le, List, [], ◌∷◌, ◌++◌, length, if◌then◌else◌, Ok, Err}
use Rattle.std.specs.List.{flat_map, list_any}
use Rattle.std.specs.Str.{bytes_eq}
use Rattle.rast_ast.specs.declared.term.Sign.{Sign}
use Rattle.rast_ast.specs.declared.term.Term.{Term}
use Rattle.rast_ast.specs.declared.term.Lin.{Lin}
use Rattle.rast_ast.specs.declared.term.Term.TheOpen.{Term-F, Lin-F, Times, Number, Variable, Group}
use Rattle.rast_ast.specs.declared.term.Term.TheFolds.{fold-Term, fold-Lin}
use Rattle.rast_ast.specs.declared.form.Form.{Form}
use Rattle.rast_ast.specs.declared.form.Disjunction.{Disjunction}
use Rattle.rast_ast.specs.declared.form.Conjunction.{Conjunction}
use Rattle.rast_ast.specs.declared.form.Literal.{Literal}
use Rattle.rast_ast.specs.declared.form.Form.TheOpen.{Form-F, Disjunction-F, Conjunction-F, Literal-F, Plain, Implies, Not, Group as Bracket, True, False, Divides, Related}
use Rattle.rast_ast.specs.declared.form.Form.TheFolds.{fold-Form, fold-Disjunction, fold-Conjunction, fold-Literal}
use Rattle.rast_formula.specs.declared.refusal.ScopeErr.TheVariants as refusal
use Rattle.rast_formula.specs.declared.numbered.Numbered.{Numbered}
use Rattle.rast_formula.specs.Answers.{Answer, ◌>>=◌}
use Rattle.rast_formula.specs.Scopes.{Bound, Text, variable_of}
use Rattle.rast_formula.specs.Formulas.{formula_of}

abbrev pub Texts : Type 0
Texts = List Text

-- ---- the names of the variables in a text, in its order

abbrev pub term_names_step : Term-F Texts Texts → Texts
term_names_step (Times k t) = t
term_names_step (Number k) = []
term_names_step (Variable n) = n ∷ []
term_names_step (Group l) = l

abbrev pub lin_names_step : Lin-F Texts Texts → Texts
lin_names_step l = l.first ++ flat_map (λ t. t.1) l.rest

abbrev pub term_names : Term → Texts
term_names = fold-Term Texts Texts term_names_step lin_names_step

abbrev pub lin_names : Lin → Texts
lin_names = fold-Lin Texts Texts term_names_step lin_names_step

abbrev pub form_names_step : Form-F Texts Texts Texts Texts → Texts
form_names_step (Plain d) = d
form_names_step (Implies d f) = d ++ f

abbrev pub disjunction_names_step : Disjunction-F Texts Texts Texts Texts → Texts
disjunction_names_step d = d.first ++ flat_map (λ c. c) d.rest

abbrev pub conjunction_names_step : Conjunction-F Texts Texts Texts Texts → Texts
conjunction_names_step c = c.first ++ flat_map (λ l. l) c.rest

abbrev pub literal_names_step : Literal-F Texts Texts Texts Texts → Texts
literal_names_step (Not l) = l
literal_names_step (Bracket f) = f
literal_names_step True = []
literal_names_step False = []
literal_names_step (Divides k l) = lin_names l
literal_names_step (Related l r m) = lin_names l ++ lin_names m

abbrev pub form_names : Form → Texts
form_names = fold-Form Texts Texts Texts Texts form_names_step literal_names_step conjunction_names_step disjunction_names_step

abbrev pub disjunction_names : Disjunction → Texts
disjunction_names = fold-Disjunction Texts Texts Texts Texts form_names_step literal_names_step conjunction_names_step disjunction_names_step

abbrev pub conjunction_names : Conjunction → Texts
conjunction_names = fold-Conjunction Texts Texts Texts Texts form_names_step literal_names_step conjunction_names_step disjunction_names_step

abbrev pub literal_names : Literal → Texts
literal_names = fold-Literal Texts Texts Texts Texts form_names_step literal_names_step conjunction_names_step disjunction_names_step

-- ---- each name is bound where it first occurs

-- a name that isn't bound becomes the next variable
abbrev pub bound : List Bound → Text → List Bound
bound s n = if list_any (λ b. bytes_eq b.name n) s then s else s ++ record { name = n; number = length s } ∷ []

abbrev pub all_bound : List Bound → Texts → List Bound
all_bound s [] = s
all_bound s (n ∷ ns) = all_bound (bound s n) ns

-- the variables of a formula, by number
abbrev pub variables_of : Form → List Bound
variables_of f = all_bound [] (form_names f)

-- the formula and its variables, of which there are at most sixteen
abbrev pub numbered : Form → Answer Numbered
numbered f =
    if nat_le (length (variables_of f)) 16
    then (formula_of (variable_of (variables_of f)) f >>= λ g. Ok (record { variables = variables_of f; formula = g }))
    else Err refusal.Limit

-- the names of a term behind its sign
abbrev pub signed_names : Sign × Term → Texts
signed_names t = term_names t.1
