-- Types are read exactly.
use Rattle.std.proofs.Common.{◌≡◌, ℕ, suc, ◌-◌, Bool, true, false, ◌&&◌, ◌==◌, cond, List, [], ◌∷◌, ◌++◌, Some, None, ap, ap₂, sym, ◌∙◌, refl, subst, ◌⊎◌, inl, inr, append-nil}
use Rattle.std.proofs.lemmas.Bool.{eqb-true}
use Rattle.rast_forms.specs.Words.{Word, Name, Number, Fixed, all_true}
use Rattle.rast_forms.specs.Marks.{Mark, starred, joined, plain}
use Rattle.rast_forms.specs.Reading.{Reader, seq_read, nil_read, alt_read, as_read, choice_read}
use Rattle.rast_forms.proofs.Forms.{Form as Shape, Exact}
use Rattle.rast_forms.proofs.One.{name, one, one_exact, name_exact, fixed_exact}
use Rattle.rast_forms.proofs.Sequence.{seq, seq_exact, nil, nil_exact}
use Rattle.rast_forms.proofs.Either.{alt, alt_exact}
use Rattle.rast_forms.proofs.Between.{behind, behind_exact, between, between_exact}
use Rattle.rast_forms.proofs.Many.{many, many_exact}
use Rattle.rast_forms.proofs.Shapes.{shape_exact, star, star_exact}
use Rattle.rast_ast.specs.Kinds.{code}
use Rattle.rast_ast.specs.declared.kind.Kind.{Kind}
use Rattle.rast_ast.specs.declared.kind.Kind.TheVariants as kind
use Rattle.rast_ast.specs.declared.term.Lin.{Lin}
use Rattle.rast_ast.specs.declared.form.Form.{Form}
use Rattle.rast_ast.specs.declared.type_expr.Prefix.{Prefix}
use Rattle.rast_ast.specs.declared.type_expr.Prefix.TheVariants as prefix
use Rattle.rast_ast.specs.declared.type_expr.TypeExpr.{TypeExpr, roll-TypeExpr, out-TypeExpr, roll-out-TypeExpr}
use Rattle.rast_ast.specs.declared.type_expr.TypeExpr.TheVariants as type_expr
use Rattle.rast_ast.specs.declared.type_expr.Atom.{Atom, roll-Atom, out-Atom, roll-out-Atom}
use Rattle.rast_ast.specs.declared.type_expr.Atom.TheVariants as atom
use Rattle.rast_ast.specs.declared.type_expr.Choice.{Choice}
use Rattle.rast_ast.specs.declared.type_expr.Atom.TheOpen.{TypeExpr-F, Atom-F, Prefixed, Atom as Alone, Tensor, Lolli, One, Plus, With, Named, Group}
use Rattle.rast_ast.specs.declared.type_expr.Atom.TheFolds.{fold-roll-TypeExpr, fold-roll-Atom, fold-roll-Choice}
use Rattle.rast_ast.specs.Types.{prefix_marks, type_step, atom_step, choice_step, type_marks, atom_marks, choice_marks, prefix_fits, type_proper, atom_proper, choice_proper, type_fits, atom_fits, choice_fits}
use Rattle.rast_parse.specs.LinearReading.{is, name_read, lin_read}
use Rattle.rast_parse.specs.FormulaReading.{behind_kind, form_read}
use Rattle.rast_parse.specs.TypeReading.{then_read, before_kind, between_kinds, braced_read, args_read, Quantified, quantified_read, RawPrefix, to_prefix, exists_by, all_by, prefix_by, prefix_first, labelled_by, to_choice, choice_by, get_one, one_read_1, RawAtom, to_atom, unit_read, plus_by, atom_by, Tail, with_tail, after_by, prefixed_by, next_one_by, next_by, inside_by, type_by, type_first}
use Rattle.rast_parse.proofs.Choices.{alt_choice}
use Rattle.rast_parse.proofs.Fusions.{map_first, then_fused, then_mapped, behind_fused, ending, ending_exact}
use Rattle.rast_parse.proofs.Trees.{map-map, all_true_of, and_true}
use Rattle.rast_parse.proofs.LinearExact.{bars, word, lin_form}
use Rattle.rast_parse.proofs.TermLimit.{lin_exact}
use Rattle.rast_parse.proofs.FormulasExact.{form_form}
use Rattle.rast_parse.proofs.FormulaLimit.{form_exact}
use mathlib.Core.Path.{fun_ext}

abbrev within : {X : Type 0} → Kind → Kind → Shape X → Shape X
within j k F = between (code j - 2) (code k - 2) F

abbrev after : {X : Type 0} → Kind → Shape X → Shape X
after k F = behind (code k - 2) F

abbrev up_to : {X : Type 0} → Kind → Shape X → Shape X
up_to k F = ending (code k - 2) F

abbrev pub braced_lin : Shape Lin
braced_lin = within kind.OpenBrace kind.CloseBrace (lin_form false)

abbrev pub args_form : Shape (List Lin)
args_form = many braced_lin

-- ---- prefixes

abbrev pub quantified_form : Shape Quantified
quantified_form = seq (alt name (within kind.OpenBrace kind.CloseBrace form_form)) (word kind.Dot)

abbrev pub raw_prefix_form : Shape RawPrefix
raw_prefix_form = alt (after kind.Question quantified_form) (alt (after kind.Exclamation quantified_form) (alt (within kind.Bar kind.Greater braced_lin) (within kind.Less kind.Bar braced_lin)))

pub prefix_mark : (p : RawPrefix) → prefix_marks (to_prefix p) ≡ raw_prefix_form.mark p
prefix_mark (inl (inl n, u)) = refl
prefix_mark (inl (inr f, u)) = refl
prefix_mark (inr (inl (inl n, u))) = refl
prefix_mark (inr (inl (inr f, u))) = refl
prefix_mark (inr (inr (inl l))) = refl
prefix_mark (inr (inr (inr l))) = refl

pub prefix_fit : (p : RawPrefix) → prefix_fits (to_prefix p) ≡ raw_prefix_form.fits p
prefix_fit (inl (inl n, u)) = refl
prefix_fit (inl (inr f, u)) = and_true (form_form.fits f)
prefix_fit (inr (inl (inl n, u))) = refl
prefix_fit (inr (inl (inr f, u))) = and_true (form_form.fits f)
prefix_fit (inr (inr (inl l))) = refl
prefix_fit (inr (inr (inr l))) = refl

abbrev raw_prefix_read : Reader Lin → Reader Form → Reader RawPrefix
raw_prefix_read sum whole = alt_read (is kind.Question) (behind_kind kind.Question (quantified_read whole)) (alt_read (is kind.Exclamation) (behind_kind kind.Exclamation (quantified_read whole))
    (alt_read (is kind.Bar) (between_kinds kind.Bar kind.Greater (braced_read sum)) (between_kinds kind.Less kind.Bar (braced_read sum))))

prefix_reads : (sum : Reader Lin) (whole : Reader Form) → as_read to_prefix (raw_prefix_read sum whole) ≡ prefix_by sum whole
prefix_reads sum whole = alt_choice to_prefix (is kind.Question) _ _
    ∙ ap (choice_read (is kind.Question) (exists_by whole)) (alt_choice (λ x. to_prefix (inr x)) (is kind.Exclamation) _ _
    ∙ ap (choice_read (is kind.Exclamation) (all_by whole)) (alt_choice (λ x. to_prefix (inr (inr x))) (is kind.Bar) _ _))

module _ (d : ℕ) where
  pub braced_exact : Exact bars d braced_lin (braced_read (lin_read false d))
  braced_exact = between_exact bars d _ _ (lin_form false) _ (lin_exact false d) refl

  pub args_exact : Exact bars d args_form (args_read (lin_read false d))
  args_exact = many_exact bars d braced_lin _ braced_exact refl refl

  quantified_exact : Exact bars d quantified_form (quantified_read (form_read d))
  quantified_exact = seq_exact bars d (alt name (within kind.OpenBrace kind.CloseBrace form_form)) (word kind.Dot) _ _
      (alt_exact bars d name (within kind.OpenBrace kind.CloseBrace form_form) _ _ (name_exact bars d) (between_exact bars d _ _ form_form _ (form_exact d) refl) refl refl) (fixed_exact bars d _) refl

  raw_prefix_exact : Exact bars d raw_prefix_form (raw_prefix_read (lin_read false d) (form_read d))
  raw_prefix_exact = alt_exact bars d (after kind.Question quantified_form) _ _ _ (behind_exact bars d _ quantified_form _ quantified_exact)
      (alt_exact bars d (after kind.Exclamation quantified_form) _ _ _ (behind_exact bars d _ quantified_form _ quantified_exact)
      (alt_exact bars d (within kind.Bar kind.Greater braced_lin) (within kind.Less kind.Bar braced_lin) _ _ (between_exact bars d _ _ braced_lin _ braced_exact refl) (between_exact bars d _ _ braced_lin _ braced_exact refl) refl refl)
      refl refl) refl refl

-- ---- choices and atoms

abbrev pub type_form : Shape TypeExpr
type_form = record { mark = type_marks; fits = type_fits; first = type_first; is_empty = false; goes_on = code kind.Star ∷ code kind.Lolli ∷ code kind.OpenBrace ∷ []; some = type_expr.Atom atom.One }

abbrev pub labelled_form : Shape (List ℕ × TypeExpr)
labelled_form = seq (up_to kind.Colon name) type_form

abbrev pub further_form : Shape (List (List ℕ × TypeExpr))
further_form = many (after kind.Comma labelled_form)

abbrev pub choice_form : Shape Choice
choice_form = record {
  mark = choice_marks;
  fits = choice_fits;
  first = is kind.Name;
  is_empty = false;
  goes_on = code kind.Star ∷ code kind.Lolli ∷ code kind.OpenBrace ∷ code kind.Comma ∷ [];
  some = to_choice ((97 ∷ [], type_expr.Atom atom.One), []);
}

pub choice_mark : (x : (List ℕ × TypeExpr) × List (List ℕ × TypeExpr)) → choice_marks (to_choice x) ≡ (seq labelled_form further_form).mark x
choice_mark ((n, t), ps) = fold-roll-Choice _ _ _ atom_step type_step choice_step (record { label = n; body = t; rest = ps })
    ∙ ap (λ z. (labelled_form.mark (n, t)) ++ joined z) (map-map (λ (p : List ℕ × List Mark). plain (Fixed (code kind.Comma - 2)) ∷ plain (Name p.0) ∷ plain (Fixed (code kind.Colon - 2)) ∷ p.1) (λ (p : List ℕ × TypeExpr). (p.0, type_marks p.1)) ps)

pub choice_fit : (x : (List ℕ × TypeExpr) × List (List ℕ × TypeExpr)) → choice_fits (to_choice x) ≡ (seq labelled_form further_form).fits x
choice_fit ((n, t), ps) = fold-roll-Choice _ _ _ atom_proper type_proper choice_proper (record { label = n; body = t; rest = ps })
    ∙ ap (λ z. type_fits t && all_true z) (map-map (λ (p : List ℕ × Bool). p.1) (λ (p : List ℕ × TypeExpr). (p.0, type_fits p.1)) ps)

abbrev pub one_form : Shape (Unit {0})
one_form = one (λ _. plain (Number 1)) (λ _. true) (is kind.Number) tt

one_back : (t : Word) (x : Unit {0}) → get_one t ≡ Some x → (t ≡ Number 1) × (true ≡ true)
one_back (Name bytes) x e = absurd (cc)
one_back (Fixed which) x e = absurd (cc)
one_back (Number value) x e = at (value == 1) refl e
  where
    at : (b : Bool) → (value == 1) ≡ b → cond b (Some tt) None ≡ Some x → (Number value ≡ Number 1) × (true ≡ true)
    at true f g = (ap Number (eqb-true value 1 f), refl)
    at false f g = absurd (cc)

one_exact_1 : (d : ℕ) → Exact bars d one_form one_read_1
one_exact_1 d = one_exact bars d get_one (λ _. plain (Number 1)) (λ _. true) (is kind.Number) tt (λ x f. refl) one_back (λ x. refl) (λ x f. refl) refl

abbrev pub raw_atom_form : Shape RawAtom
raw_atom_form = alt one_form (alt (after kind.Plus (within kind.OpenBrace kind.CloseBrace choice_form)) (alt (after kind.Ampersand (within kind.OpenBrace kind.CloseBrace choice_form)) (seq name args_form)))

pub atom_mark : (a : RawAtom) → atom_marks (to_atom a) ≡ raw_atom_form.mark a
atom_mark (inl u) = ap atom_marks (sym atom.rolls-One) ∙ fold-roll-Atom _ _ _ atom_step type_step choice_step One
atom_mark (inr (inl c)) = ap atom_marks (sym (atom.rolls-Plus c)) ∙ fold-roll-Atom _ _ _ atom_step type_step choice_step (Plus c)
atom_mark (inr (inr (inl c))) = ap atom_marks (sym (atom.rolls-With c)) ∙ fold-roll-Atom _ _ _ atom_step type_step choice_step (With c)
atom_mark (inr (inr (inr (n, args)))) = ap atom_marks (sym (atom.rolls-Named n args)) ∙ fold-roll-Atom _ _ _ atom_step type_step choice_step (Named n args)

pub group_mark : (t : TypeExpr) → atom_marks (atom.Group t) ≡ plain (Fixed (code kind.OpenParen - 2)) ∷ (type_marks t ++ plain (Fixed (code kind.CloseParen - 2)) ∷ [])
group_mark t = ap atom_marks (sym (atom.rolls-Group t)) ∙ fold-roll-Atom _ _ _ atom_step type_step choice_step (Group t)

pub atom_fit : (a : RawAtom) → atom_fits (to_atom a) ≡ raw_atom_form.fits a
atom_fit (inl u) = ap atom_fits (sym atom.rolls-One) ∙ fold-roll-Atom _ _ _ atom_proper type_proper choice_proper One
atom_fit (inr (inl c)) = ap atom_fits (sym (atom.rolls-Plus c)) ∙ fold-roll-Atom _ _ _ atom_proper type_proper choice_proper (Plus c)
atom_fit (inr (inr (inl c))) = ap atom_fits (sym (atom.rolls-With c)) ∙ fold-roll-Atom _ _ _ atom_proper type_proper choice_proper (With c)
atom_fit (inr (inr (inr (n, args)))) = ap atom_fits (sym (atom.rolls-Named n args)) ∙ fold-roll-Atom _ _ _ atom_proper type_proper choice_proper (Named n args) ∙ sym (all_true_of _ (λ l. refl) args)

pub group_fit : (t : TypeExpr) → atom_fits (atom.Group t) ≡ type_fits t
group_fit t = ap atom_fits (sym (atom.rolls-Group t)) ∙ fold-roll-Atom _ _ _ atom_proper type_proper choice_proper (Group t)

abbrev raw_atom_read : Reader Lin → Reader TypeExpr → Reader RawAtom
raw_atom_read sum one = alt_read (is kind.Number) one_read_1 (alt_read (is kind.Plus) (behind_kind kind.Plus (braced_read (choice_by one)))
    (alt_read (is kind.Ampersand) (behind_kind kind.Ampersand (braced_read (choice_by one))) (seq_read name_read (args_read sum))))

atom_reads : (sum : Reader Lin) (one : Reader TypeExpr) → as_read to_atom (raw_atom_read sum one) ≡ atom_by sum one
atom_reads sum one = alt_choice to_atom (is kind.Number) _ _
    ∙ ap (choice_read (is kind.Number) unit_read) (alt_choice (λ x. to_atom (inr x)) (is kind.Plus) _ _
    ∙ ap (choice_read (is kind.Plus) (plus_by one)) (alt_choice (λ x. to_atom (inr (inr x))) (is kind.Ampersand) _ _))

-- ---- types

abbrev pub tail_form : Shape Tail
tail_form = alt (after kind.Star type_form) (alt (after kind.Lolli type_form) nil)

abbrev pub Inside : Type 0
Inside = TypeExpr ⊎ ((Lin × TypeExpr) ⊎ (TypeExpr × Tail))

abbrev pub inside_form : Shape Inside
inside_form = alt (after kind.CloseParen type_form) (alt (seq (up_to kind.CloseParen braced_lin) type_form) (seq (up_to kind.CloseParen type_form) tail_form))

abbrev pub Layer : Type 0
Layer = (RawPrefix × TypeExpr) ⊎ (Inside ⊎ (RawAtom × Tail))

abbrev pub type_layer : Shape Layer
type_layer = alt (seq raw_prefix_form type_form) (alt (after kind.OpenParen inside_form) (seq raw_atom_form tail_form))

abbrev pub to_inside : Inside → TypeExpr
to_inside (inl t) = type_expr.Prefixed prefix.NextOne t
to_inside (inr (inl (l, t))) = type_expr.Prefixed (prefix.Next l) t
to_inside (inr (inr (t, tail))) = with_tail (atom.Group t) tail

abbrev pub to_type : Layer → TypeExpr
to_type (inl (p, t)) = type_expr.Prefixed (to_prefix p) t
to_type (inr (inl i)) = to_inside i
to_type (inr (inr (a, tail))) = with_tail (to_atom a) tail

pub from_atom : Atom-F Atom TypeExpr Choice → Tail → Layer
from_atom One tail = inr (inr (inl tt, tail))
from_atom (Plus c) tail = inr (inr (inr (inl c), tail))
from_atom (With c) tail = inr (inr (inr (inr (inl c)), tail))
from_atom (Named n args) tail = inr (inr (inr (inr (inr (n, args))), tail))
from_atom (Group t) tail = inr (inl (inr (inr (t, tail))))

from_prefix : Prefix → TypeExpr → Layer
from_prefix (prefix.Ex n) t = inl (inl (inl n, tt), t)
from_prefix (prefix.Assert f) t = inl (inl (inr f, tt), t)
from_prefix (prefix.All n) t = inl (inr (inl (inl n, tt)), t)
from_prefix (prefix.Assume f) t = inl (inr (inl (inr f, tt)), t)
from_prefix (prefix.Pays l) t = inl (inr (inr (inl l)), t)
from_prefix (prefix.Gets l) t = inl (inr (inr (inr l)), t)
from_prefix prefix.NextOne t = inr (inl (inl t))
from_prefix (prefix.Next l) t = inr (inl (inr (inl (l, t))))

pub from_type : TypeExpr-F Atom TypeExpr Choice → Layer
from_type (Prefixed p t) = from_prefix p t
from_type (Alone a) = from_atom (out-Atom a) (inr (inr tt))
from_type (Tensor a t) = from_atom (out-Atom a) (inl t)
from_type (Lolli a t) = from_atom (out-Atom a) (inr (inl t))

atom_there : (x : Atom-F Atom TypeExpr Choice) (tail : Tail) → to_type (from_atom x tail) ≡ with_tail (roll-Atom x) tail
unfolding from_atom
atom_there One tail = ap (λ a. with_tail a tail) (sym atom.rolls-One)
atom_there (Plus c) tail = ap (λ a. with_tail a tail) (sym (atom.rolls-Plus c))
atom_there (With c) tail = ap (λ a. with_tail a tail) (sym (atom.rolls-With c))
atom_there (Named n args) tail = ap (λ a. with_tail a tail) (sym (atom.rolls-Named n args))
atom_there (Group t) tail = ap (λ a. with_tail a tail) (sym (atom.rolls-Group t))

prefix_there : (p : Prefix) (t : TypeExpr) → to_type (from_prefix p t) ≡ type_expr.Prefixed p t
unfolding from_prefix
prefix_there (prefix.Ex n) t = refl
prefix_there (prefix.Assert f) t = refl
prefix_there (prefix.All n) t = refl
prefix_there (prefix.Assume f) t = refl
prefix_there (prefix.Pays l) t = refl
prefix_there (prefix.Gets l) t = refl
prefix_there prefix.NextOne t = refl
prefix_there (prefix.Next l) t = refl

out_there : (a : Atom) (tail : Tail) → to_type (from_atom (out-Atom a) tail) ≡ with_tail a tail
out_there a tail = atom_there (out-Atom a) tail ∙ ap (λ b. with_tail b tail) (roll-out-Atom a)

layer_there : (x : TypeExpr-F Atom TypeExpr Choice) → to_type (from_type x) ≡ roll-TypeExpr x
unfolding from_type
layer_there (Prefixed p t) = prefix_there p t ∙ sym (type_expr.rolls-Prefixed p t)
layer_there (Alone a) = out_there a (inr (inr tt)) ∙ sym (type_expr.rolls-Atom a)
layer_there (Tensor a t) = out_there a (inl t) ∙ sym (type_expr.rolls-Tensor a t)
layer_there (Lolli a t) = out_there a (inr (inl t)) ∙ sym (type_expr.rolls-Lolli a t)

pub type_there : (t : TypeExpr) → to_type (from_type (out-TypeExpr t)) ≡ t
type_there t = layer_there (out-TypeExpr t) ∙ roll-out-TypeExpr t

prefixed_mark : (p : Prefix) (t : TypeExpr) → type_marks (type_expr.Prefixed p t) ≡ starred (prefix_marks p ++ type_marks t)
prefixed_mark p t = ap type_marks (sym (type_expr.rolls-Prefixed p t)) ∙ fold-roll-TypeExpr _ _ _ atom_step type_step choice_step (Prefixed p t)

tail_mark : (a : Atom) (tail : Tail) → type_marks (with_tail a tail) ≡ starred (atom_marks a ++ tail_form.mark tail)
tail_mark a (inl t) = ap type_marks (sym (type_expr.rolls-Tensor a t)) ∙ fold-roll-TypeExpr _ _ _ atom_step type_step choice_step (Tensor a t)
tail_mark a (inr (inl t)) = ap type_marks (sym (type_expr.rolls-Lolli a t)) ∙ fold-roll-TypeExpr _ _ _ atom_step type_step choice_step (Lolli a t)
tail_mark a (inr (inr u)) = ap type_marks (sym (type_expr.rolls-Atom a)) ∙ fold-roll-TypeExpr _ _ _ atom_step type_step choice_step (Alone a) ∙ ap starred (sym (append-nil (atom_marks a)))

pub type_mark : (x : Layer) → type_marks (to_type x) ≡ starred (type_layer.mark x)
type_mark (inl (p, t)) = prefixed_mark (to_prefix p) t ∙ ap (λ z. starred (z ++ type_marks t)) (prefix_mark p)
type_mark (inr (inl (inl t))) = prefixed_mark prefix.NextOne t
type_mark (inr (inl (inr (inl (l, t))))) = prefixed_mark (prefix.Next l) t
type_mark (inr (inl (inr (inr (t, tail))))) = tail_mark (atom.Group t) tail ∙ ap (λ z. starred (z ++ tail_form.mark tail)) (group_mark t)
type_mark (inr (inr (a, tail))) = tail_mark (to_atom a) tail ∙ ap (λ z. starred (z ++ tail_form.mark tail)) (atom_mark a)

prefixed_fit : (p : Prefix) (t : TypeExpr) → type_fits (type_expr.Prefixed p t) ≡ (prefix_fits p && type_fits t)
prefixed_fit p t = ap type_fits (sym (type_expr.rolls-Prefixed p t)) ∙ fold-roll-TypeExpr _ _ _ atom_proper type_proper choice_proper (Prefixed p t)

tail_fit : (a : Atom) (tail : Tail) → type_fits (with_tail a tail) ≡ (atom_fits a && tail_form.fits tail)
tail_fit a (inl t) = ap type_fits (sym (type_expr.rolls-Tensor a t)) ∙ fold-roll-TypeExpr _ _ _ atom_proper type_proper choice_proper (Tensor a t)
tail_fit a (inr (inl t)) = ap type_fits (sym (type_expr.rolls-Lolli a t)) ∙ fold-roll-TypeExpr _ _ _ atom_proper type_proper choice_proper (Lolli a t)
tail_fit a (inr (inr u)) = ap type_fits (sym (type_expr.rolls-Atom a)) ∙ fold-roll-TypeExpr _ _ _ atom_proper type_proper choice_proper (Alone a) ∙ and_true (atom_fits a)

pub type_fit : (x : Layer) → type_fits (to_type x) ≡ type_layer.fits x
type_fit (inl (p, t)) = prefixed_fit (to_prefix p) t ∙ ap (λ b. b && type_fits t) (prefix_fit p)
type_fit (inr (inl (inl t))) = prefixed_fit prefix.NextOne t
type_fit (inr (inl (inr (inl (l, t))))) = prefixed_fit (prefix.Next l) t
type_fit (inr (inl (inr (inr (t, tail))))) = tail_fit (atom.Group t) tail ∙ ap (λ b. b && tail_form.fits tail) (group_fit t)
type_fit (inr (inr (a, tail))) = tail_fit (to_atom a) tail ∙ ap (λ b. b && tail_form.fits tail) (atom_fit a)

pub one_type : type_fits (type_expr.Atom atom.One) ≡ true
one_type = type_fit (inr (inr (inl tt, inr (inr tt))))

-- ---- their readers

abbrev tail_read : Reader TypeExpr → Reader Tail
tail_read one = alt_read (is kind.Star) (behind_kind kind.Star one) (alt_read (is kind.Lolli) (behind_kind kind.Lolli one) nil_read)

tail_reads : (one : Reader TypeExpr) (a : Atom) → as_read (with_tail a) (tail_read one) ≡ after_by one a
tail_reads one a = alt_choice (with_tail a) (is kind.Star) (behind_kind kind.Star one) (alt_read (is kind.Lolli) (behind_kind kind.Lolli one) nil_read)
    ∙ ap (choice_read (is kind.Star) (as_read (λ x. with_tail a (inl x)) (behind_kind kind.Star one))) (alt_choice (λ x. with_tail a (inr x)) (is kind.Lolli) (behind_kind kind.Lolli one) nil_read)

abbrev raw_inside_read : Reader Lin → Reader TypeExpr → Reader Inside
raw_inside_read sum one = alt_read (is kind.CloseParen) (behind_kind kind.CloseParen one) (alt_read (is kind.OpenBrace) (seq_read (before_kind kind.CloseParen (braced_read sum)) one)
    (seq_read (before_kind kind.CloseParen one) (tail_read one)))

inside_reads : (sum : Reader Lin) (one : Reader TypeExpr) → as_read to_inside (raw_inside_read sum one) ≡ inside_by sum one
inside_reads sum one = alt_choice to_inside (is kind.CloseParen) _ _
    ∙ ap (choice_read (is kind.CloseParen) (next_one_by one)) (alt_choice (λ x. to_inside (inr x)) (is kind.OpenBrace) _ _
    ∙ ap (choice_read (is kind.OpenBrace) (next_by sum one)) (then_fused (λ x. to_inside (inr (inr x))) (before_kind kind.CloseParen one) (tail_read one)
    ∙ ap (then_read (before_kind kind.CloseParen one)) (fun_ext (λ t. tail_reads one (atom.Group t)))))

abbrev layer_read : Reader Lin → Reader Form → Reader TypeExpr → Reader Layer
layer_read sum whole one = alt_read prefix_first (seq_read (raw_prefix_read sum whole) one) (alt_read (is kind.OpenParen) (behind_kind kind.OpenParen (raw_inside_read sum one)) (seq_read (raw_atom_read sum one) (tail_read one)))

prefixed_reads : (sum : Reader Lin) (whole : Reader Form) (one : Reader TypeExpr) → as_read (λ x. to_type (inl x)) (seq_read (raw_prefix_read sum whole) one) ≡ prefixed_by sum whole one
prefixed_reads sum whole one = map_first to_prefix (λ x. type_expr.Prefixed x.0 x.1) (raw_prefix_read sum whole) one ∙ ap (λ p. as_read (λ x. type_expr.Prefixed x.0 x.1) (seq_read p one)) (prefix_reads sum whole)

paren_reads : (sum : Reader Lin) (one : Reader TypeExpr) → as_read to_inside (behind_kind kind.OpenParen (raw_inside_read sum one)) ≡ behind_kind kind.OpenParen (inside_by sum one)
paren_reads sum one = behind_fused kind.OpenParen to_inside (raw_inside_read sum one) ∙ ap (behind_kind kind.OpenParen) (inside_reads sum one)

alone_reads : (sum : Reader Lin) (one : Reader TypeExpr) → as_read (λ (x : RawAtom × Tail). with_tail (to_atom x.0) x.1) (seq_read (raw_atom_read sum one) (tail_read one)) ≡ then_read (atom_by sum one) (after_by one)
alone_reads sum one = then_fused (λ x. with_tail (to_atom x.0) x.1) (raw_atom_read sum one) (tail_read one)
    ∙ ap (then_read (raw_atom_read sum one)) (fun_ext (λ a. tail_reads one (to_atom a)))
    ∙ then_mapped to_atom (raw_atom_read sum one) (after_by one)
    ∙ ap (λ p. then_read p (after_by one)) (atom_reads sum one)

type_reads : (sum : Reader Lin) (whole : Reader Form) (one : Reader TypeExpr) → as_read to_type (layer_read sum whole one) ≡ type_by sum whole one
type_reads sum whole one = alt_choice to_type prefix_first _ _
    ∙ ap₂ (choice_read prefix_first) (prefixed_reads sum whole one) (alt_choice (λ x. to_type (inr x)) (is kind.OpenParen) _ _
    ∙ ap₂ (choice_read (is kind.OpenParen)) (paren_reads sum one) (alone_reads sum one))

-- ---- by a reader of the types that may open at most `d`

module _ (d : ℕ) (one : Reader TypeExpr) (E : Exact bars d type_form one) where
  labelled_exact : Exact bars d labelled_form (labelled_by one)
  labelled_exact = seq_exact bars d (up_to kind.Colon name) type_form _ _ (ending_exact bars d _ name _ (name_exact bars d) refl refl) E refl

  choice_exact : Exact bars d choice_form (choice_by one)
  choice_exact = shape_exact bars d (seq labelled_form further_form) _
      (seq_exact bars d labelled_form further_form _ _ labelled_exact (many_exact bars d (after kind.Comma labelled_form) _ (behind_exact bars d _ labelled_form _ labelled_exact) refl refl) refl)
      choice_form to_choice (λ c. ((c.label, c.body), c.rest)) (λ c f. refl) choice_mark choice_fit refl refl refl
      (choice_fit ((97 ∷ [], type_expr.Atom atom.One), []) ∙ ap (λ b. b && true) one_type)

  raw_atom_exact : Exact bars d raw_atom_form (raw_atom_read (lin_read false d) one)
  raw_atom_exact = alt_exact bars d one_form _ _ _ (one_exact_1 d)
      (alt_exact bars d (after kind.Plus (within kind.OpenBrace kind.CloseBrace choice_form)) _ _ _ (behind_exact bars d _ (within kind.OpenBrace kind.CloseBrace choice_form) _ (between_exact bars d _ _ choice_form _ choice_exact refl))
      (alt_exact bars d (after kind.Ampersand (within kind.OpenBrace kind.CloseBrace choice_form)) (seq name args_form) _ _ (behind_exact bars d _ (within kind.OpenBrace kind.CloseBrace choice_form) _ (between_exact bars d _ _ choice_form _ choice_exact refl))
      (seq_exact bars d name args_form _ _ (name_exact bars d) (args_exact d) refl) refl refl) refl refl) refl refl

  tail_exact : Exact bars d tail_form (tail_read one)
  tail_exact = alt_exact bars d (after kind.Star type_form) _ _ _ (behind_exact bars d _ type_form _ E)
      (alt_exact bars d (after kind.Lolli type_form) nil _ _ (behind_exact bars d _ type_form _ E) (nil_exact bars d) refl refl) refl refl

  inside_exact : Exact bars d inside_form (raw_inside_read (lin_read false d) one)
  inside_exact = alt_exact bars d (after kind.CloseParen type_form) _ _ _ (behind_exact bars d _ type_form _ E)
      (alt_exact bars d (seq (up_to kind.CloseParen braced_lin) type_form) (seq (up_to kind.CloseParen type_form) tail_form) _ _
      (seq_exact bars d (up_to kind.CloseParen braced_lin) type_form _ _ (ending_exact bars d _ braced_lin _ (braced_exact d) refl refl) E refl)
      (seq_exact bars d (up_to kind.CloseParen type_form) tail_form _ _ (ending_exact bars d _ type_form _ E refl refl) tail_exact refl) refl refl) refl refl

  layer_exact : Exact bars d type_layer (layer_read (lin_read false d) (form_read d) one)
  layer_exact = alt_exact bars d (seq raw_prefix_form type_form) _ _ _ (seq_exact bars d raw_prefix_form type_form _ _ (raw_prefix_exact d) E refl)
      (alt_exact bars d (after kind.OpenParen inside_form) (seq raw_atom_form tail_form) _ _ (behind_exact bars d _ inside_form _ inside_exact) (seq_exact bars d raw_atom_form tail_form _ _ raw_atom_exact tail_exact refl) refl refl)
      refl refl

  pub type_exact_by : Exact bars (suc d) type_form (type_by (lin_read false d) (form_read d) one)
  type_exact_by = subst (Exact bars (suc d) type_form) (type_reads (lin_read false d) (form_read d) one)
      (shape_exact bars (suc d) (star type_layer) _ (star_exact bars d type_layer _ layer_exact)
      type_form to_type (λ t. from_type (out-TypeExpr t)) (λ t f. type_there t) type_mark type_fit refl refl refl one_type)
