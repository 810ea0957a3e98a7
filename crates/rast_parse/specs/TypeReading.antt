-- Reading types.
use Rattle.std.specs.Prelude.{ℕ, zero, suc, Bool, true, false, ◌==◌, cond, List, [], ◌∷◌, ◌++◌, ◌⊎◌, Option, Some, None}
use Rattle.std.proofs.Common.{inl, inr}
use Rattle.rast_forms.specs.Words.{Word, Name, Number, Fixed, is_in}
use Rattle.rast_forms.specs.Reading.{Reader, ◌>>=◌, one_read, seq_read, nil_read, alt_read, all_read, as_read, choice_read, limited}
use Rattle.rast_ast.specs.declared.kind.Kind.{Kind}
use Rattle.rast_ast.specs.declared.kind.Kind.TheVariants as kind
use Rattle.rast_ast.specs.declared.term.Lin.{Lin}
use Rattle.rast_ast.specs.declared.form.Form.{Form}
use Rattle.rast_ast.specs.declared.type_expr.Prefix.{Prefix}
use Rattle.rast_ast.specs.declared.type_expr.Prefix.TheVariants as prefix
use Rattle.rast_ast.specs.declared.type_expr.TypeExpr.{TypeExpr}
use Rattle.rast_ast.specs.declared.type_expr.TypeExpr.TheVariants as type_expr
use Rattle.rast_ast.specs.declared.type_expr.Atom.{Atom}
use Rattle.rast_ast.specs.declared.type_expr.Atom.TheVariants as atom
use Rattle.rast_ast.specs.declared.type_expr.Choice.{Choice, roll-Choice}
use Rattle.rast_ast.specs.Kinds.{code}
use Rattle.rast_parse.specs.LinearReading.{is, fixed_read, name_read, lin_read}
use Rattle.rast_parse.specs.FormulaReading.{behind_kind, form_read}

-- one part and then another that is read by it
abbrev pub then_read : {X Y : Type 0} → Reader X → (X → Reader Y) → Reader Y
then_read p q ts = p ts >>= λ x more. q x more

-- a part before a keyword or symbol, and one between two
abbrev pub before_kind : {X : Type 0} → Kind → Reader X → Reader X
before_kind k p = as_read (λ x. x.0) (seq_read p (fixed_read k))

abbrev pub between_kinds : {X : Type 0} → Kind → Kind → Reader X → Reader X
between_kinds j k p = as_read (λ x. x.1.0) (seq_read (fixed_read j) (seq_read p (fixed_read k)))

abbrev pub braced_read : {X : Type 0} → Reader X → Reader X
braced_read p = between_kinds kind.OpenBrace kind.CloseBrace p

abbrev pub args_read : Reader Lin → Reader (List Lin)
args_read sum = all_read (is kind.OpenBrace) (braced_read sum)

-- ---- prefixes

abbrev pub Quantified : Type 0
Quantified = (List ℕ ⊎ Form) × Unit {0}

abbrev pub to_exists : Quantified → Prefix
to_exists (inl n, u) = prefix.Ex n
to_exists (inr f, u) = prefix.Assert f

abbrev pub to_all : Quantified → Prefix
to_all (inl n, u) = prefix.All n
to_all (inr f, u) = prefix.Assume f

-- what is quantified, or a formula, before the dot
abbrev pub quantified_read : Reader Form → Reader Quantified
quantified_read whole = seq_read (alt_read (is kind.Name) name_read (braced_read whole)) (fixed_read kind.Dot)

abbrev pub RawPrefix : Type 0
RawPrefix = Quantified ⊎ (Quantified ⊎ (Lin ⊎ Lin))

abbrev pub to_prefix : RawPrefix → Prefix
to_prefix (inl q) = to_exists q
to_prefix (inr (inl q)) = to_all q
to_prefix (inr (inr (inl l))) = prefix.Pays l
to_prefix (inr (inr (inr l))) = prefix.Gets l

abbrev pub exists_by : Reader Form → Reader Prefix
exists_by whole = as_read (λ x. to_prefix (inl x)) (behind_kind kind.Question (quantified_read whole))

abbrev pub all_by : Reader Form → Reader Prefix
all_by whole = as_read (λ x. to_prefix (inr (inl x))) (behind_kind kind.Exclamation (quantified_read whole))

abbrev pub pays_by : Reader Lin → Reader Prefix
pays_by sum = as_read (λ x. to_prefix (inr (inr (inl x)))) (between_kinds kind.Bar kind.Greater (braced_read sum))

abbrev pub gets_by : Reader Lin → Reader Prefix
gets_by sum = as_read (λ x. to_prefix (inr (inr (inr x)))) (between_kinds kind.Less kind.Bar (braced_read sum))

-- a prefix that no parenthesis begins
abbrev pub prefix_by : Reader Lin → Reader Form → Reader Prefix
prefix_by sum whole = choice_read (is kind.Question) (exists_by whole) (choice_read (is kind.Exclamation) (all_by whole) (choice_read (is kind.Bar) (pays_by sum) (gets_by sum)))

abbrev pub prefix_first : List ℕ
prefix_first = code kind.Question ∷ code kind.Exclamation ∷ code kind.Bar ∷ code kind.Less ∷ []

-- ---- choices and atoms, by readers of the linear terms and the types in them

abbrev pub labelled_by : Reader TypeExpr → Reader (List ℕ × TypeExpr)
labelled_by one = seq_read (before_kind kind.Colon name_read) one

abbrev pub further_labelled : Reader TypeExpr → Reader (List (List ℕ × TypeExpr))
further_labelled one = all_read (is kind.Comma) (behind_kind kind.Comma (labelled_by one))

abbrev pub to_choice : (List ℕ × TypeExpr) × List (List ℕ × TypeExpr) → Choice
to_choice s = roll-Choice (record { label = s.0.0; body = s.0.1; rest = s.1 })

abbrev pub choice_by : Reader TypeExpr → Reader Choice
choice_by one = as_read to_choice (seq_read (labelled_by one) (further_labelled one))

-- the number 1
abbrev pub get_one : Word → Option (Unit {0})
get_one (Name bytes) = None
get_one (Number value) = cond (value == 1) (Some tt) None
get_one (Fixed which) = None

abbrev pub one_read_1 : Reader (Unit {0})
one_read_1 = one_read get_one

abbrev pub RawAtom : Type 0
RawAtom = Unit {0} ⊎ (Choice ⊎ (Choice ⊎ (List ℕ × List Lin)))

abbrev pub to_atom : RawAtom → Atom
to_atom (inl u) = atom.One
to_atom (inr (inl c)) = atom.Plus c
to_atom (inr (inr (inl c))) = atom.With c
to_atom (inr (inr (inr (n, args)))) = atom.Named n args

abbrev pub unit_read : Reader Atom
unit_read = as_read (λ x. to_atom (inl x)) one_read_1

abbrev pub plus_by : Reader TypeExpr → Reader Atom
plus_by one = as_read (λ x. to_atom (inr (inl x))) (behind_kind kind.Plus (braced_read (choice_by one)))

abbrev pub with_by : Reader TypeExpr → Reader Atom
with_by one = as_read (λ x. to_atom (inr (inr (inl x)))) (behind_kind kind.Ampersand (braced_read (choice_by one)))

abbrev pub named_by : Reader Lin → Reader Atom
named_by sum = as_read (λ x. to_atom (inr (inr (inr x)))) (seq_read name_read (args_read sum))

-- an atom that no parenthesis begins
abbrev pub atom_by : Reader Lin → Reader TypeExpr → Reader Atom
atom_by sum one = choice_read (is kind.Number) unit_read (choice_read (is kind.Plus) (plus_by one) (choice_read (is kind.Ampersand) (with_by one) (named_by sum)))

-- ---- types

-- what follows an atom
abbrev pub Tail : Type 0
Tail = TypeExpr ⊎ (TypeExpr ⊎ Unit {0})

abbrev pub with_tail : Atom → Tail → TypeExpr
with_tail a (inl t) = type_expr.Tensor a t
with_tail a (inr (inl t)) = type_expr.Lolli a t
with_tail a (inr (inr u)) = type_expr.Atom a

abbrev pub after_by : Reader TypeExpr → Atom → Reader TypeExpr
after_by one a = choice_read (is kind.Star) (as_read (λ x. with_tail a (inl x)) (behind_kind kind.Star one))
    (choice_read (is kind.Lolli) (as_read (λ x. with_tail a (inr (inl x))) (behind_kind kind.Lolli one)) (as_read (λ x. with_tail a (inr (inr x))) nil_read))

abbrev pub prefixed_by : Reader Lin → Reader Form → Reader TypeExpr → Reader TypeExpr
prefixed_by sum whole one = as_read (λ x. type_expr.Prefixed x.0 x.1) (seq_read (prefix_by sum whole) one)

abbrev pub next_one_by : Reader TypeExpr → Reader TypeExpr
next_one_by one = as_read (λ t. type_expr.Prefixed prefix.NextOne t) (behind_kind kind.CloseParen one)

abbrev pub next_by : Reader Lin → Reader TypeExpr → Reader TypeExpr
next_by sum one = as_read (λ x. type_expr.Prefixed (prefix.Next x.0) x.1) (seq_read (before_kind kind.CloseParen (braced_read sum)) one)

abbrev pub group_type_by : Reader TypeExpr → Reader TypeExpr
group_type_by one = then_read (before_kind kind.CloseParen one) (λ t. after_by one (atom.Group t))

-- what stands behind an opening parenthesis
abbrev pub inside_by : Reader Lin → Reader TypeExpr → Reader TypeExpr
inside_by sum one = choice_read (is kind.CloseParen) (next_one_by one) (choice_read (is kind.OpenBrace) (next_by sum one) (group_type_by one))

abbrev pub type_by : Reader Lin → Reader Form → Reader TypeExpr → Reader TypeExpr
type_by sum whole one = choice_read prefix_first (prefixed_by sum whole one) (choice_read (is kind.OpenParen) (behind_kind kind.OpenParen (inside_by sum one))
    (then_read (atom_by sum one) (after_by one)))

abbrev pub type_first : List ℕ
type_first = prefix_first ++ (code kind.OpenParen ∷ code kind.Number ∷ code kind.Plus ∷ code kind.Ampersand ∷ code kind.Name ∷ [])

-- whether a type begins with this token: of the numbers it is 1
abbrev pub opens_type : Word → Bool
opens_type (Name bytes) = true
opens_type (Number value) = value == 1
opens_type (Fixed which) = is_in type_first (suc (suc which))

abbrev pub begins_type : List Word → Bool
begins_type [] = false
begins_type (w ∷ ws) = opens_type w

abbrev pub type_limit : Reader TypeExpr
type_limit ts = limited (begins_type ts) ts

-- a type, below at most so many that are open, itself counted
abbrev pub type_read : ℕ → Reader TypeExpr
type_read zero = type_limit
type_read (suc d) = type_by (lin_read false d) (form_read d) (type_read d)
