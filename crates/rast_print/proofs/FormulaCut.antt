-- The canonical text of a formula is cut into its tokens.
use Rattle.std.proofs.Common.{ℕ, true, false, List, ◌++◌, codes, refl}
use Rattle.rast_forms.specs.Marks.{Mark}
use Rattle.rast_ast.specs.declared.kind.Kind.TheVariants as kind
use Rattle.rast_ast.specs.declared.form.Rel.{Rel}
use Rattle.rast_ast.specs.declared.form.Rel.TheVariants as rel
use Rattle.rast_ast.specs.declared.form.Form.{Form, roll-Form}
use Rattle.rast_ast.specs.declared.form.Literal.{Literal, roll-Literal}
use Rattle.rast_ast.specs.declared.form.Conjunction.{Conjunction, roll-Conjunction}
use Rattle.rast_ast.specs.declared.form.Disjunction.{Disjunction, roll-Disjunction}
use Rattle.rast_ast.specs.declared.form.Form.TheOpen.{Form-F, Literal-F, Conjunction-F, Disjunction-F, Plain, Implies, Not, Group, True, False, Divides, Related}
use Rattle.rast_ast.specs.declared.form.Form.TheFolds.{map-Form, map-Literal, map-Conjunction, map-Disjunction, fold-roll-Form, fold-roll-Literal, fold-roll-Conjunction, fold-roll-Disjunction}
use Rattle.rast_ast.specs.Written.{fixed}
use Rattle.rast_ast.specs.Formulas as grammar
use Rattle.rast_print.specs.FormulaText.{rel_text, form_step, literal_step, conjunction_step, disjunction_step, form_text, literal_text, conjunction_text, disjunction_text}
use Rattle.rast_print.specs.LinearText.{lin_text}
use Rattle.rast_print.proofs.Induction.{Such, each_form}
use Rattle.rast_print.proofs.Cutting.{MayFollow, Cut, next, ◌▷◌, open_cut, weaker, as_is, parts_begin, parts_cut}
use Rattle.rast_print.proofs.Tokens as text
use Rattle.rast_print.proofs.LinearCut.{lin_cut}

rel_cut : (r : Rel) → Cut true (rel_text r) (grammar.rel_marks r)
rel_cut rel.Eq = text.spaced_equal
rel_cut rel.Ne = text.spaced_not_equal
rel_cut rel.Lt = text.spaced_less
rel_cut rel.Le = text.spaced_at_most
rel_cut rel.Gt = text.spaced_greater
rel_cut rel.Ge = text.spaced_at_least

rel_begins : (k : Rel) (x r : List ℕ) → MayFollow false ((rel_text k ++ x) ++ r)
rel_begins rel.Eq x r = refl
rel_begins rel.Ne x r = refl
rel_begins rel.Lt x r = refl
rel_begins rel.Le x r = refl
rel_begins rel.Gt x r = refl
rel_begins rel.Ge x r = refl

abbrev FormCut : Form → Type 0
FormCut f = Cut false (form_text f) (grammar.form_marks f)

abbrev LiteralCut : Literal → Type 0
LiteralCut l = Cut false (literal_text l) (grammar.literal_marks l)

abbrev ConjunctionCut : Conjunction → Type 0
ConjunctionCut c = Cut false (conjunction_text c) (grammar.conjunction_marks c)

abbrev DisjunctionCut : Disjunction → Type 0
DisjunctionCut d = Cut false (disjunction_text d) (grammar.disjunction_marks d)

-- a tree from its parts: its text and its tokens are those of its layer
form_by : (y : Form-F Form Literal Conjunction Disjunction) → Cut false (form_step (map-Form Form Literal Conjunction Disjunction (List ℕ) (List ℕ) (List ℕ) (List ℕ) form_text literal_text conjunction_text disjunction_text y)) (grammar.form_step (map-Form Form Literal Conjunction Disjunction (List Mark) (List Mark) (List Mark) (List Mark) grammar.form_marks grammar.literal_marks grammar.conjunction_marks grammar.disjunction_marks y)) → FormCut (roll-Form y)
form_by y = as_is (fold-roll-Form (List ℕ) (List ℕ) (List ℕ) (List ℕ) form_step literal_step conjunction_step disjunction_step y) (fold-roll-Form (List Mark) (List Mark) (List Mark) (List Mark) grammar.form_step grammar.literal_step grammar.conjunction_step grammar.disjunction_step y)

literal_by : (y : Literal-F Form Literal Conjunction Disjunction) → Cut false (literal_step (map-Literal Form Literal Conjunction Disjunction (List ℕ) (List ℕ) (List ℕ) (List ℕ) form_text literal_text conjunction_text disjunction_text y)) (grammar.literal_step (map-Literal Form Literal Conjunction Disjunction (List Mark) (List Mark) (List Mark) (List Mark) grammar.form_marks grammar.literal_marks grammar.conjunction_marks grammar.disjunction_marks y)) → LiteralCut (roll-Literal y)
literal_by y = as_is (fold-roll-Literal (List ℕ) (List ℕ) (List ℕ) (List ℕ) form_step literal_step conjunction_step disjunction_step y) (fold-roll-Literal (List Mark) (List Mark) (List Mark) (List Mark) grammar.form_step grammar.literal_step grammar.conjunction_step grammar.disjunction_step y)

conjunction_by : (y : Conjunction-F Form Literal Conjunction Disjunction) → Cut false (conjunction_step (map-Conjunction Form Literal Conjunction Disjunction (List ℕ) (List ℕ) (List ℕ) (List ℕ) form_text literal_text conjunction_text disjunction_text y)) (grammar.conjunction_step (map-Conjunction Form Literal Conjunction Disjunction (List Mark) (List Mark) (List Mark) (List Mark) grammar.form_marks grammar.literal_marks grammar.conjunction_marks grammar.disjunction_marks y)) → ConjunctionCut (roll-Conjunction y)
conjunction_by y = as_is (fold-roll-Conjunction (List ℕ) (List ℕ) (List ℕ) (List ℕ) form_step literal_step conjunction_step disjunction_step y) (fold-roll-Conjunction (List Mark) (List Mark) (List Mark) (List Mark) grammar.form_step grammar.literal_step grammar.conjunction_step grammar.disjunction_step y)

disjunction_by : (y : Disjunction-F Form Literal Conjunction Disjunction) → Cut false (disjunction_step (map-Disjunction Form Literal Conjunction Disjunction (List ℕ) (List ℕ) (List ℕ) (List ℕ) form_text literal_text conjunction_text disjunction_text y)) (grammar.disjunction_step (map-Disjunction Form Literal Conjunction Disjunction (List Mark) (List Mark) (List Mark) (List Mark) grammar.form_marks grammar.literal_marks grammar.conjunction_marks grammar.disjunction_marks y)) → DisjunctionCut (roll-Disjunction y)
disjunction_by y = as_is (fold-roll-Disjunction (List ℕ) (List ℕ) (List ℕ) (List ℕ) form_step literal_step conjunction_step disjunction_step y) (fold-roll-Disjunction (List Mark) (List Mark) (List Mark) (List Mark) grammar.form_step grammar.literal_step grammar.conjunction_step grammar.disjunction_step y)

form_at : (y : Form-F (Such FormCut) (Such LiteralCut) (Such ConjunctionCut) (Such DisjunctionCut)) → FormCut (roll-Form (map-Form (Such FormCut) (Such LiteralCut) (Such ConjunctionCut) (Such DisjunctionCut) Form Literal Conjunction Disjunction (λ e. e.0) (λ e. e.0) (λ e. e.0) (λ e. e.0) y))
form_at (Plain d) = form_by (Plain d.0) (open_cut d.1)
form_at (Implies d f) = form_by (Implies d.0 f.0) (open_cut (next d.1 (λ r h. refl) (text.spaced_right_arrow ▷ f.1)))

literal_at : (y : Literal-F (Such FormCut) (Such LiteralCut) (Such ConjunctionCut) (Such DisjunctionCut)) → LiteralCut (roll-Literal (map-Literal (Such FormCut) (Such LiteralCut) (Such ConjunctionCut) (Such DisjunctionCut) Form Literal Conjunction Disjunction (λ e. e.0) (λ e. e.0) (λ e. e.0) (λ e. e.0) y))
literal_at (Not l) = literal_by (Not l.0) (open_cut (text.tilde_space ▷ l.1))
literal_at (Group f) = literal_by (Group f.0) (open_cut (weaker (text.open_bracket ▷ next f.1 (λ r h. refl) text.close_bracket)))
literal_at True = literal_by True (open_cut text.true_word)
literal_at False = literal_by False (open_cut text.false_word)
literal_at (Divides k l) = literal_by (Divides k l) (open_cut (next (text.number_cut false k) (λ r h. refl) (text.spaced_bar ▷ lin_cut true l)))
literal_at (Related a k b) = literal_by (Related a k b) (open_cut (next (lin_cut true a) (λ r h. rel_begins k (lin_text b) r) (rel_cut k ▷ lin_cut true b)))

conjunction_at : (y : Conjunction-F (Such FormCut) (Such LiteralCut) (Such ConjunctionCut) (Such DisjunctionCut)) → ConjunctionCut (roll-Conjunction (map-Conjunction (Such FormCut) (Such LiteralCut) (Such ConjunctionCut) (Such DisjunctionCut) Form Literal Conjunction Disjunction (λ e. e.0) (λ e. e.0) (λ e. e.0) (λ e. e.0) y))
conjunction_at y = conjunction_by (map-Conjunction (Such FormCut) (Such LiteralCut) (Such ConjunctionCut) (Such DisjunctionCut) Form Literal Conjunction Disjunction (λ e. e.0) (λ e. e.0) (λ e. e.0) (λ e. e.0) y)
    (next y.first.1 (parts_begin false (λ l. codes " /\\ " ++ l) literal_text (λ l. fixed kind.And ++ l) grammar.literal_marks (λ (e : Such LiteralCut). e.0) (λ a z. refl) y.rest)
    (parts_cut false (λ l. codes " /\\ " ++ l) literal_text (λ l. fixed kind.And ++ l) grammar.literal_marks (λ (e : Such LiteralCut). e.0) (λ a. text.spaced_and ▷ a.1) (λ a z. refl) y.rest))

disjunction_at : (y : Disjunction-F (Such FormCut) (Such LiteralCut) (Such ConjunctionCut) (Such DisjunctionCut)) → DisjunctionCut (roll-Disjunction (map-Disjunction (Such FormCut) (Such LiteralCut) (Such ConjunctionCut) (Such DisjunctionCut) Form Literal Conjunction Disjunction (λ e. e.0) (λ e. e.0) (λ e. e.0) (λ e. e.0) y))
disjunction_at y = disjunction_by (map-Disjunction (Such FormCut) (Such LiteralCut) (Such ConjunctionCut) (Such DisjunctionCut) Form Literal Conjunction Disjunction (λ e. e.0) (λ e. e.0) (λ e. e.0) (λ e. e.0) y)
    (next y.first.1 (parts_begin false (λ c. codes " \\/ " ++ c) conjunction_text (λ c. fixed kind.Or ++ c) grammar.conjunction_marks (λ (e : Such ConjunctionCut). e.0) (λ a z. refl) y.rest)
    (parts_cut false (λ c. codes " \\/ " ++ c) conjunction_text (λ c. fixed kind.Or ++ c) grammar.conjunction_marks (λ (e : Such ConjunctionCut). e.0) (λ a. text.spaced_or ▷ a.1) (λ a z. refl) y.rest))

pub form_cut : (f : Form) → Cut false (form_text f) (grammar.form_marks f)
form_cut = each_form FormCut LiteralCut ConjunctionCut DisjunctionCut form_at literal_at conjunction_at disjunction_at

-- {F}
pub braced_form_cut : (f : Form) → Cut true (codes "{" ++ (form_text f ++ codes "}")) (fixed kind.OpenBrace ++ (grammar.form_marks f ++ fixed kind.CloseBrace))
braced_form_cut f = text.open_brace ▷ next (form_cut f) (λ r h. refl) text.close_brace
