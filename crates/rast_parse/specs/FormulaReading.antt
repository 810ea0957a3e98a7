-- Reading formulas.
use Rattle.std.specs.Prelude.{ℕ, zero, suc, Bool, true, false, not, ◌==◌, cond, List, [], ◌∷◌, ◌⊎◌, Option, Some, None}
use Rattle.std.proofs.Common.{inl, inr}
use Rattle.rast_forms.specs.Words.{Word, Name, Number, Fixed}
use Rattle.rast_forms.specs.Reading.{Reader, one_read, seq_read, nil_read, alt_read, all_read, as_read, choice_read, limit_read, two_test}
use Rattle.rast_ast.specs.declared.kind.Kind.{Kind}
use Rattle.rast_ast.specs.declared.kind.Kind.TheVariants as kind
use Rattle.rast_ast.specs.declared.term.Lin.{Lin}
use Rattle.rast_ast.specs.declared.form.Rel.{Rel}
use Rattle.rast_ast.specs.declared.form.Rel.TheVariants as rel
use Rattle.rast_ast.specs.declared.form.Form.{Form}
use Rattle.rast_ast.specs.declared.form.Form.TheVariants as form
use Rattle.rast_ast.specs.declared.form.Disjunction.{Disjunction, roll-Disjunction}
use Rattle.rast_ast.specs.declared.form.Conjunction.{Conjunction}
use Rattle.rast_ast.specs.declared.form.Literal.{Literal}
use Rattle.rast_ast.specs.declared.form.Literal.TheVariants as literal
use Rattle.rast_ast.specs.Kinds.{code}
use Rattle.rast_parse.specs.LinearReading.{is, fixed_read, lin_read}

-- the one where the tokens pass a test, or else the other
abbrev pub test_read : {X : Type 0} → (List Word → Bool) → Reader X → Reader X → Reader X
test_read test p q ts = cond (test ts) (p ts) (q ts)

-- a part behind a keyword or symbol
abbrev pub behind_kind : {X : Type 0} → Kind → Reader X → Reader X
behind_kind k p = as_read (λ x. x.1) (seq_read (fixed_read k) p)

-- ---- relations

abbrev pub Sixth : Type 0
Sixth = Unit {0} ⊎ (Unit {0} ⊎ (Unit {0} ⊎ (Unit {0} ⊎ (Unit {0} ⊎ Unit {0}))))

abbrev pub to_rel : Sixth → Rel
to_rel (inl x) = rel.Eq
to_rel (inr (inl x)) = rel.Ne
to_rel (inr (inr (inl x))) = rel.Lt
to_rel (inr (inr (inr (inl x)))) = rel.Le
to_rel (inr (inr (inr (inr (inl x))))) = rel.Gt
to_rel (inr (inr (inr (inr (inr x))))) = rel.Ge

abbrev pub rel_read : Reader Rel
rel_read = choice_read (is kind.Equal) (as_read (λ x. to_rel (inl x)) (fixed_read kind.Equal))
    (choice_read (is kind.NotEqual) (as_read (λ x. to_rel (inr (inl x))) (fixed_read kind.NotEqual))
    (choice_read (is kind.Less) (as_read (λ x. to_rel (inr (inr (inl x)))) (fixed_read kind.Less))
    (choice_read (is kind.AtMost) (as_read (λ x. to_rel (inr (inr (inr (inl x))))) (fixed_read kind.AtMost))
    (choice_read (is kind.Greater) (as_read (λ x. to_rel (inr (inr (inr (inr (inl x)))))) (fixed_read kind.Greater))
    (as_read (λ x. to_rel (inr (inr (inr (inr (inr x)))))) (fixed_read kind.AtLeast))))))

-- ---- members of conjunctions, by readers of the linear terms, the members and the formulas in them

abbrev pub LiteralLayer : Type 0
LiteralLayer = (Unit {0} × Literal) ⊎ ((Unit {0} × (Form × Unit {0})) ⊎ (Unit {0} ⊎ (Unit {0} ⊎ ((ℕ × (Unit {0} × Lin)) ⊎ (Lin × (Rel × Lin))))))

abbrev pub to_literal : LiteralLayer → Literal
to_literal (inl (u, l)) = literal.Not l
to_literal (inr (inl (o, (f, c)))) = literal.Group f
to_literal (inr (inr (inl u))) = literal.True
to_literal (inr (inr (inr (inl u)))) = literal.False
to_literal (inr (inr (inr (inr (inl (k, (u, l))))))) = literal.Divides k l
to_literal (inr (inr (inr (inr (inr (a, (r, b))))))) = literal.Related a r b

abbrev pub not_by : Reader Literal → Reader Literal
not_by one = as_read (λ x. to_literal (inl x)) (seq_read (fixed_read kind.Tilde) one)

abbrev pub bracket_by : Reader Form → Reader Literal
bracket_by whole = as_read (λ x. to_literal (inr (inl x))) (seq_read (fixed_read kind.OpenBracket) (seq_read whole (fixed_read kind.CloseBracket)))

abbrev pub true_read : Reader Literal
true_read = as_read (λ x. to_literal (inr (inr (inl x)))) (fixed_read kind.True)

abbrev pub false_read : Reader Literal
false_read = as_read (λ x. to_literal (inr (inr (inr (inl x))))) (fixed_read kind.False)

-- a number that may divide: it is at least 1
abbrev pub get_divisor : Word → Option ℕ
get_divisor (Name bytes) = None
get_divisor (Number value) = cond (value == 0) None (Some value)
get_divisor (Fixed which) = None

abbrev pub divisor_read : Reader ℕ
divisor_read = one_read get_divisor

abbrev pub divides_by : Reader Lin → Reader Literal
divides_by sum = as_read (λ x. to_literal (inr (inr (inr (inr (inl x)))))) (seq_read divisor_read (seq_read (fixed_read kind.Bar) sum))

abbrev pub related_by : Reader Lin → Reader Literal
related_by sum = as_read (λ x. to_literal (inr (inr (inr (inr (inr x)))))) (seq_read sum (seq_read rel_read sum))

abbrev pub is_divisor : Word → Bool
is_divisor (Name bytes) = false
is_divisor (Number value) = not (value == 0)
is_divisor (Fixed which) = false

-- whether a divisor comes, and a bar after it
abbrev pub is_division : List Word → Bool
is_division = two_test is_divisor (is kind.Bar)

abbrev pub relation_by : Reader Lin → Reader Literal
relation_by sum = test_read is_division (divides_by sum) (related_by sum)

abbrev pub literal_by : Reader Lin → Reader Literal → Reader Form → Reader Literal
literal_by sum one whole = choice_read (is kind.Tilde) (not_by one) (choice_read (is kind.OpenBracket) (bracket_by whole)
    (choice_read (is kind.True) true_read (choice_read (is kind.False) false_read (relation_by sum))))

-- ---- conjunctions, disjunctions and formulas

abbrev pub to_conjunction : Literal × List Literal → Conjunction
to_conjunction s = record { first = s.0; rest = s.1 }

abbrev pub to_disjunction : Conjunction × List Conjunction → Disjunction
to_disjunction s = roll-Disjunction (record { first = s.0; rest = s.1 })

abbrev pub FormLayer : Type 0
FormLayer = Disjunction × ((Unit {0} × Form) ⊎ Unit {0})

abbrev pub to_form : FormLayer → Form
to_form (d, inl (u, f)) = form.Implies d f
to_form (d, inr u) = form.Plain d

abbrev pub further_literals_read : Reader Literal → Reader (List Literal)
further_literals_read one = all_read (is kind.And) (behind_kind kind.And one)

abbrev pub conjunction_by : Reader Literal → Reader Conjunction
conjunction_by one = as_read to_conjunction (seq_read one (further_literals_read one))

abbrev pub further_conjunctions_read : Reader Literal → Reader (List Conjunction)
further_conjunctions_read one = all_read (is kind.Or) (behind_kind kind.Or (conjunction_by one))

abbrev pub disjunction_by : Reader Literal → Reader Disjunction
disjunction_by one = as_read to_disjunction (seq_read (conjunction_by one) (further_conjunctions_read one))

abbrev pub form_by : Reader Literal → Reader Form → Reader Form
form_by one whole = as_read to_form (seq_read (disjunction_by one) (alt_read (is kind.RightArrow) (seq_read (fixed_read kind.RightArrow) whole) nil_read))

abbrev pub formula_first : List ℕ
formula_first = code kind.Tilde ∷ code kind.OpenBracket ∷ code kind.True ∷ code kind.False ∷ code kind.Number ∷ code kind.Name ∷ code kind.OpenParen ∷ []

-- members and formulas, below at most so many that are open, themselves counted
abbrev pub both_read : ℕ → Reader Literal × Reader Form
both_read zero = (limit_read formula_first, limit_read formula_first)
both_read (suc d) = (literal_by (lin_read true d) (both_read d).0 (both_read d).1, form_by (both_read d).0 (both_read d).1)

abbrev pub literal_read : ℕ → Reader Literal
literal_read d = (both_read d).0

abbrev pub form_read : ℕ → Reader Form
form_read d = (both_read d).1
