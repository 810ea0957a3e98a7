-- The formula that a written one stands for.
use Rattle.std.specs.Prelude.{List, [], ◌∷◌, Ok}
use Rattle.rast_index.specs.declared.formula.Formula.{Formula}
use Rattle.rast_index.specs.declared.formula.Formula.TheVariants as formula
use Rattle.rast_index.specs.declared.formula.Rel.{Rel}
use Rattle.rast_index.specs.declared.formula.Rel.TheVariants as rel
use Rattle.rast_ast.specs.declared.form.Rel.{Rel as Written}
use Rattle.rast_ast.specs.declared.form.Rel.TheVariants as written
use Rattle.rast_ast.specs.declared.form.Form.{Form}
use Rattle.rast_ast.specs.declared.form.Disjunction.{Disjunction}
use Rattle.rast_ast.specs.declared.form.Conjunction.{Conjunction}
use Rattle.rast_ast.specs.declared.form.Literal.{Literal}
use Rattle.rast_ast.specs.declared.form.Form.TheOpen.{Form-F, Disjunction-F, Conjunction-F, Literal-F, Plain, Implies, Not, Group, True, False, Divides, Related}
use Rattle.rast_ast.specs.declared.form.Form.TheFolds.{fold-Form, fold-Disjunction, fold-Conjunction, fold-Literal}
use Rattle.rast_formula.specs.Answers.{Answer, ◌>>=◌, each}
use Rattle.rast_formula.specs.Scopes.{Look}
use Rattle.rast_formula.specs.Linears.{linear_of}

abbrev pub relation : Written → Rel
relation written.Eq = rel.Eq
relation written.Ne = rel.Ne
relation written.Lt = rel.Lt
relation written.Le = rel.Le
relation written.Gt = rel.Gt
relation written.Ge = rel.Ge

-- one alone is itself
abbrev pub joined : (List Formula → Formula) → Formula → List Formula → Formula
joined join f [] = f
joined join f (g ∷ gs) = join (f ∷ g ∷ gs)

abbrev pub all_joined : (List Formula → Formula) → Answer Formula → List (Answer Formula) → Answer Formula
all_joined join first rest = first >>= λ f. each rest >>= λ fs. Ok (joined join f fs)

abbrev pub A : Type 0
A = Answer Formula

abbrev pub form_step : Form-F A A A A → A
form_step (Plain d) = d
form_step (Implies d f) = d >>= λ a. f >>= λ b. Ok (formula.Imp a b)

abbrev pub disjunction_step : Disjunction-F A A A A → A
disjunction_step d = all_joined formula.Or d.first d.rest

abbrev pub conjunction_step : Conjunction-F A A A A → A
conjunction_step c = all_joined formula.And c.first c.rest

abbrev pub literal_step : Look → Literal-F A A A A → A
literal_step look (Not l) = l >>= λ f. Ok (formula.Not f)
literal_step look (Group f) = f
literal_step look True = Ok formula.True
literal_step look False = Ok formula.False
literal_step look (Divides k l) = linear_of look l >>= λ a. Ok (formula.Div k a)
literal_step look (Related l r m) = linear_of look l >>= λ a. linear_of look m >>= λ b. Ok (formula.Rel a (relation r) b)

-- groups vanish, and F /\ G /\ H is one conjunction of three members
abbrev pub formula_of : Look → Form → Answer Formula
formula_of look = fold-Form A A A A form_step (literal_step look) conjunction_step disjunction_step

abbrev pub disjunction_of : Look → Disjunction → Answer Formula
disjunction_of look = fold-Disjunction A A A A form_step (literal_step look) conjunction_step disjunction_step

abbrev pub conjunction_of : Look → Conjunction → Answer Formula
conjunction_of look = fold-Conjunction A A A A form_step (literal_step look) conjunction_step disjunction_step

abbrev pub literal_of : Look → Literal → Answer Formula
literal_of look = fold-Literal A A A A form_step (literal_step look) conjunction_step disjunction_step
