-- Reading linear terms.
use Rattle.std.specs.Prelude.{ℕ, zero, suc, ◌-◌, Bool, ◌&&◌, cond, List, [], ◌∷◌, drop, ◌⊎◌}
use Rattle.std.proofs.Common.{inl, inr}
use Rattle.rast_forms.specs.Words.{starts}
use Rattle.rast_forms.specs.Reading.{Syntax, Bad, Reader, one_read, get_name, get_number, get_fixed, seq_read, nil_read, alt_read, all_read, as_read, choice_read, limit_read}
use Rattle.rast_ast.specs.declared.kind.Kind.{Kind}
use Rattle.rast_ast.specs.declared.kind.Kind.TheVariants as kind
use Rattle.rast_ast.specs.declared.term.Sign.{Sign}
use Rattle.rast_ast.specs.declared.term.Sign.TheVariants as sign
use Rattle.rast_ast.specs.declared.term.Term.{Term}
use Rattle.rast_ast.specs.declared.term.Term.TheVariants as term
use Rattle.rast_ast.specs.declared.term.Lin.{Lin}
use Rattle.rast_ast.specs.Kinds.{code}

abbrev pub fixed_read : Kind → Reader (Unit {0})
fixed_read k = one_read (get_fixed (code k - 2))

abbrev pub name_read : Reader (List ℕ)
name_read = one_read get_name

abbrev pub number_read : Reader ℕ
number_read = one_read get_number

abbrev pub is : Kind → List ℕ
is k = code k ∷ []

-- ---- signs

abbrev pub to_sign : Unit {0} ⊎ Unit {0} → Sign
to_sign (inl x) = sign.Plus
to_sign (inr x) = sign.Minus

abbrev pub sign_read : Reader Sign
sign_read = choice_read (is kind.Plus) (as_read (λ x. to_sign (inl x)) (fixed_read kind.Plus)) (as_read (λ x. to_sign (inr x)) (fixed_read kind.Minus))

-- ---- terms, by a reader of the terms in them

abbrev pub TermLayer : Type 0
TermLayer = (ℕ × ((Unit {0} × Term) ⊎ Unit {0})) ⊎ (List ℕ ⊎ (Unit {0} × (Lin × Unit {0})))

abbrev pub to_term : TermLayer → Term
to_term (inl (k, inl (s, t))) = term.Times k t
to_term (inl (k, inr u)) = term.Number k
to_term (inr (inl n)) = term.Variable n
to_term (inr (inr (o, (l, c)))) = term.Group l

abbrev pub to_lin : Term × List (Sign × Term) → Lin
to_lin s = record { first = s.0; rest = s.1 }

abbrev pub further_read : Reader Term → Reader (List (Sign × Term))
further_read one = all_read (code kind.Plus ∷ code kind.Minus ∷ []) (seq_read sign_read one)

abbrev pub lin_by : Reader Term → Reader Lin
lin_by one = as_read to_lin (seq_read one (further_read one))

abbrev pub number_by : Reader Term → Reader Term
number_by one = as_read (λ x. to_term (inl x)) (seq_read number_read (alt_read (is kind.Star) (seq_read (fixed_read kind.Star) one) nil_read))

abbrev pub variable_read : Reader Term
variable_read = as_read (λ x. to_term (inr (inl x))) name_read

abbrev pub group_by : Reader Term → Reader Term
group_by one = as_read (λ x. to_term (inr (inr x))) (seq_read (fixed_read kind.OpenParen) (seq_read (lin_by one) (fixed_read kind.CloseParen)))

abbrev pub term_by : Reader Term → Reader Term
term_by one = choice_read (is kind.Number) (number_by one) (choice_read (is kind.Name) variable_read (group_by one))

abbrev pub term_first : List ℕ
term_first = code kind.Number ∷ code kind.Name ∷ code kind.OpenParen ∷ []

-- Where no term may open: directly before a bar a number of a formula begins none, and the bar is wrong.
abbrev pub term_limit : Bool → Reader Term
term_limit in_formula ts = cond (in_formula && (starts (is kind.Number) ts && starts (is kind.Bar) (drop 1 ts))) (Bad Syntax (drop 1 ts)) (limit_read term_first ts)

-- a term, below at most so many that are open, itself counted
abbrev pub term_read : Bool → ℕ → Reader Term
term_read in_formula zero = term_limit in_formula
term_read in_formula (suc d) = term_by (term_read in_formula d)

abbrev pub lin_read : Bool → ℕ → Reader Lin
lin_read in_formula d = lin_by (term_read in_formula d)
