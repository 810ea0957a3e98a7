-- Formulas are read exactly.
use Rattle.std.proofs.Common.{◌≡◌, ℕ, suc, ◌-◌, true, false, not, ◌&&◌, ◌==◌, List, [], ◌∷◌, ◌++◌, ap, sym, ◌∙◌, refl, subst, inl, inr, append-nil}
use Rattle.rast_forms.specs.Words.{Fixed}
use Rattle.rast_forms.specs.Marks.{starred, joined, plain}
use Rattle.rast_forms.specs.Reading.{Reader, seq_read, nil_read, alt_read, as_read, choice_read, ahead_read}
use Rattle.rast_forms.proofs.Forms.{Form as Shape, Exact}
use Rattle.rast_forms.proofs.One.{fixed_exact}
use Rattle.rast_forms.proofs.Sequence.{seq, seq_exact, nil, nil_exact}
use Rattle.rast_forms.proofs.Either.{alt, alt_exact}
use Rattle.rast_forms.proofs.Ahead.{ahead_exact}
use Rattle.rast_forms.proofs.Between.{behind, behind_exact}
use Rattle.rast_forms.proofs.Many.{many, many_exact}
use Rattle.rast_forms.proofs.Shapes.{shape_exact, star, star_exact}
use Rattle.rast_ast.specs.Kinds.{code}
use Rattle.rast_ast.specs.declared.kind.Kind.TheVariants as kind
use Rattle.rast_ast.specs.declared.term.Lin.{Lin}
use Rattle.rast_ast.specs.declared.form.Rel.{Rel}
use Rattle.rast_ast.specs.declared.form.Rel.TheVariants as rel
use Rattle.rast_ast.specs.declared.form.Form.{Form, roll-Form, out-Form, roll-out-Form}
use Rattle.rast_ast.specs.declared.form.Form.TheVariants as form
use Rattle.rast_ast.specs.declared.form.Disjunction.{Disjunction, out-Disjunction, roll-out-Disjunction}
use Rattle.rast_ast.specs.declared.form.Conjunction.{Conjunction}
use Rattle.rast_ast.specs.declared.form.Literal.{Literal, roll-Literal, out-Literal, roll-out-Literal}
use Rattle.rast_ast.specs.declared.form.Literal.TheVariants as literal
use Rattle.rast_ast.specs.declared.form.Form.TheOpen.{Form-F, Literal-F, Plain, Implies, Not, Group, True, False, Divides, Related}
use Rattle.rast_ast.specs.declared.form.Form.TheFolds.{fold-roll-Form, fold-roll-Disjunction, fold-roll-Conjunction, fold-roll-Literal}
use Rattle.rast_ast.specs.Formulas.{rel_marks, form_step, disjunction_step, conjunction_step, literal_step, form_marks, disjunction_marks, conjunction_marks, literal_marks, form_proper, disjunction_proper, conjunction_proper, literal_proper, form_fits, disjunction_fits, conjunction_fits, literal_fits}
use Rattle.rast_parse.specs.LinearReading.{is, fixed_read, lin_read}
use Rattle.rast_parse.specs.FormulaReading.{Sixth, to_rel, rel_read, LiteralLayer, to_literal, not_by, bracket_by, true_read, false_read, divisor_read, is_divisor, is_division, literal_by, to_conjunction, to_disjunction, FormLayer, to_form, conjunction_by, disjunction_by, form_by, formula_first}
use Rattle.rast_parse.proofs.Choices.{alt_choice, ahead_choice}
use Rattle.rast_parse.proofs.Trees.{map-map, and_true}
use Rattle.rast_parse.proofs.LinearExact.{bars, word, lin_form}
use Rattle.rast_parse.proofs.TermLimit.{lin_exact}
use Rattle.rast_parse.proofs.Divisions.{divisor, divisor_exact, divides_form, left_of, right_of, taken_divides, taken_related}

-- ---- relations

abbrev pub rel_form : Shape Rel
rel_form = record { mark = rel_marks; fits = λ _. true; first = code kind.Equal ∷ code kind.NotEqual ∷ code kind.Less ∷ code kind.AtMost ∷ code kind.Greater ∷ code kind.AtLeast ∷ []; is_empty = false; goes_on = []; some = rel.Eq }

abbrev sixth_form : Shape Sixth
sixth_form = alt (word kind.Equal) (alt (word kind.NotEqual) (alt (word kind.Less) (alt (word kind.AtMost) (alt (word kind.Greater) (word kind.AtLeast)))))

from_rel : Rel → Sixth
from_rel rel.Eq = inl tt
from_rel rel.Ne = inr (inl tt)
from_rel rel.Lt = inr (inr (inl tt))
from_rel rel.Le = inr (inr (inr (inl tt)))
from_rel rel.Gt = inr (inr (inr (inr (inl tt))))
from_rel rel.Ge = inr (inr (inr (inr (inr tt))))

rel_there : (r : Rel) → to_rel (from_rel r) ≡ r
unfolding from_rel
rel_there rel.Eq = refl
rel_there rel.Ne = refl
rel_there rel.Lt = refl
rel_there rel.Le = refl
rel_there rel.Gt = refl
rel_there rel.Ge = refl

rel_mark : (x : Sixth) → rel_marks (to_rel x) ≡ sixth_form.mark x
rel_mark (inl x) = refl
rel_mark (inr (inl x)) = refl
rel_mark (inr (inr (inl x))) = refl
rel_mark (inr (inr (inr (inl x)))) = refl
rel_mark (inr (inr (inr (inr (inl x))))) = refl
rel_mark (inr (inr (inr (inr (inr x))))) = refl

rel_fits : (x : Sixth) → true ≡ sixth_form.fits x
rel_fits (inl x) = refl
rel_fits (inr (inl x)) = refl
rel_fits (inr (inr (inl x))) = refl
rel_fits (inr (inr (inr (inl x)))) = refl
rel_fits (inr (inr (inr (inr (inl x))))) = refl
rel_fits (inr (inr (inr (inr (inr x))))) = refl

abbrev sixth_read : Reader Sixth
sixth_read = alt_read (is kind.Equal) (fixed_read kind.Equal) (alt_read (is kind.NotEqual) (fixed_read kind.NotEqual) (alt_read (is kind.Less) (fixed_read kind.Less)
    (alt_read (is kind.AtMost) (fixed_read kind.AtMost) (alt_read (is kind.Greater) (fixed_read kind.Greater) (fixed_read kind.AtLeast)))))

sixth_exact : (d : ℕ) → Exact bars d sixth_form sixth_read
sixth_exact d = alt_exact bars d (word kind.Equal) _ _ _ (fixed_exact bars d _)
    (alt_exact bars d (word kind.NotEqual) _ _ _ (fixed_exact bars d _)
    (alt_exact bars d (word kind.Less) _ _ _ (fixed_exact bars d _)
    (alt_exact bars d (word kind.AtMost) _ _ _ (fixed_exact bars d _)
    (alt_exact bars d (word kind.Greater) (word kind.AtLeast) _ _ (fixed_exact bars d _) (fixed_exact bars d _) refl refl) refl refl) refl refl) refl refl) refl refl

rel_reads : as_read to_rel sixth_read ≡ rel_read
rel_reads = alt_choice to_rel (is kind.Equal) _ _
    ∙ ap (choice_read (is kind.Equal) _) (alt_choice (λ x. to_rel (inr x)) (is kind.NotEqual) _ _
    ∙ ap (choice_read (is kind.NotEqual) _) (alt_choice (λ x. to_rel (inr (inr x))) (is kind.Less) _ _
    ∙ ap (choice_read (is kind.Less) _) (alt_choice (λ x. to_rel (inr (inr (inr x)))) (is kind.AtMost) _ _
    ∙ ap (choice_read (is kind.AtMost) _) (alt_choice (λ x. to_rel (inr (inr (inr (inr x))))) (is kind.Greater) _ _))))

pub rel_exact : (d : ℕ) → Exact bars d rel_form rel_read
rel_exact d = subst (Exact bars d rel_form) rel_reads
    (shape_exact bars d sixth_form _ (sixth_exact d) rel_form to_rel from_rel (λ r f. rel_there r) rel_mark rel_fits refl refl refl refl)

-- ---- the parts

abbrev pub lin_more : List ℕ
lin_more = code kind.Star ∷ code kind.Bar ∷ code kind.Plus ∷ code kind.Minus ∷ []

abbrev pub literal_form : Shape Literal
literal_form = record { mark = literal_marks; fits = literal_fits; first = formula_first; is_empty = false; goes_on = lin_more; some = literal.True }

abbrev pub true_alone : Conjunction
true_alone = record { first = literal.True; rest = [] }

abbrev pub conjunction_form : Shape Conjunction
conjunction_form = record { mark = conjunction_marks; fits = conjunction_fits; first = formula_first; is_empty = false; goes_on = lin_more ++ is kind.And; some = true_alone }

abbrev pub disjunction_form : Shape Disjunction
disjunction_form = record { mark = disjunction_marks; fits = disjunction_fits; first = formula_first; is_empty = false; goes_on = lin_more ++ (code kind.And ∷ code kind.Or ∷ []); some = to_disjunction (true_alone, []) }

abbrev pub form_form : Shape Form
form_form = record {
  mark = form_marks;
  fits = form_fits;
  first = formula_first;
  is_empty = false;
  goes_on = lin_more ++ (code kind.And ∷ code kind.Or ∷ code kind.RightArrow ∷ []);
  some = form.Plain (to_disjunction (true_alone, []));
}

-- ---- members of conjunctions

abbrev related_form : Shape (Lin × (Rel × Lin))
related_form = seq (lin_form true) (seq rel_form (lin_form true))

abbrev pub literal_layer : Shape LiteralLayer
literal_layer = alt (seq (word kind.Tilde) literal_form) (alt (seq (word kind.OpenBracket) (seq form_form (word kind.CloseBracket))) (alt (word kind.True) (alt (word kind.False) (alt divides_form related_form))))

pub from_literal : Literal-F Form Literal Conjunction Disjunction → LiteralLayer
from_literal (Not l) = inl (tt, l)
from_literal (Group f) = inr (inl (tt, (f, tt)))
from_literal True = inr (inr (inl tt))
from_literal False = inr (inr (inr (inl tt)))
from_literal (Divides k l) = inr (inr (inr (inr (inl (k, (tt, l))))))
from_literal (Related a r b) = inr (inr (inr (inr (inr (a, (r, b))))))

to_from_literal : (x : Literal-F Form Literal Conjunction Disjunction) → to_literal (from_literal x) ≡ roll-Literal x
unfolding from_literal
to_from_literal (Not l) = sym (literal.rolls-Not l)
to_from_literal (Group f) = sym (literal.rolls-Group f)
to_from_literal True = sym literal.rolls-True
to_from_literal False = sym literal.rolls-False
to_from_literal (Divides k l) = sym (literal.rolls-Divides k l)
to_from_literal (Related a r b) = sym (literal.rolls-Related a r b)

pub literal_there : (l : Literal) → to_literal (from_literal (out-Literal l)) ≡ l
literal_there l = to_from_literal (out-Literal l) ∙ roll-out-Literal l

pub literal_mark : (x : LiteralLayer) → literal_marks (to_literal x) ≡ starred (literal_layer.mark x)
literal_mark (inl (u, l)) = ap literal_marks (sym (literal.rolls-Not l)) ∙ fold-roll-Literal _ _ _ _ form_step literal_step conjunction_step disjunction_step (Not l)
literal_mark (inr (inl (o, (f, c)))) = ap literal_marks (sym (literal.rolls-Group f)) ∙ fold-roll-Literal _ _ _ _ form_step literal_step conjunction_step disjunction_step (Group f)
literal_mark (inr (inr (inl u))) = ap literal_marks (sym literal.rolls-True) ∙ fold-roll-Literal _ _ _ _ form_step literal_step conjunction_step disjunction_step True
literal_mark (inr (inr (inr (inl u)))) = ap literal_marks (sym literal.rolls-False) ∙ fold-roll-Literal _ _ _ _ form_step literal_step conjunction_step disjunction_step False
literal_mark (inr (inr (inr (inr (inl (k, (u, l))))))) = ap literal_marks (sym (literal.rolls-Divides k l)) ∙ fold-roll-Literal _ _ _ _ form_step literal_step conjunction_step disjunction_step (Divides k l)
literal_mark (inr (inr (inr (inr (inr (a, (r, b))))))) = ap literal_marks (sym (literal.rolls-Related a r b)) ∙ fold-roll-Literal _ _ _ _ form_step literal_step conjunction_step disjunction_step (Related a r b)

pub literal_fit : (x : LiteralLayer) → literal_fits (to_literal x) ≡ literal_layer.fits x
literal_fit (inl (u, l)) = ap literal_fits (sym (literal.rolls-Not l)) ∙ fold-roll-Literal _ _ _ _ form_proper literal_proper conjunction_proper disjunction_proper (Not l)
literal_fit (inr (inl (o, (f, c)))) = ap literal_fits (sym (literal.rolls-Group f)) ∙ fold-roll-Literal _ _ _ _ form_proper literal_proper conjunction_proper disjunction_proper (Group f) ∙ and_true (form_fits f)
literal_fit (inr (inr (inl u))) = ap literal_fits (sym literal.rolls-True) ∙ fold-roll-Literal _ _ _ _ form_proper literal_proper conjunction_proper disjunction_proper True
literal_fit (inr (inr (inr (inl u)))) = ap literal_fits (sym literal.rolls-False) ∙ fold-roll-Literal _ _ _ _ form_proper literal_proper conjunction_proper disjunction_proper False
literal_fit (inr (inr (inr (inr (inl (k, (u, l))))))) = ap literal_fits (sym (literal.rolls-Divides k l)) ∙ fold-roll-Literal _ _ _ _ form_proper literal_proper conjunction_proper disjunction_proper (Divides k l) ∙ and_true (not (k == 0))
literal_fit (inr (inr (inr (inr (inr (a, (r, b))))))) = ap literal_fits (sym (literal.rolls-Related a r b)) ∙ fold-roll-Literal _ _ _ _ form_proper literal_proper conjunction_proper disjunction_proper (Related a r b)

abbrev literal_layer_read : Reader Lin → Reader Literal → Reader Form → Reader LiteralLayer
literal_layer_read sum one whole = alt_read (is kind.Tilde) (seq_read (fixed_read kind.Tilde) one) (alt_read (is kind.OpenBracket) (seq_read (fixed_read kind.OpenBracket) (seq_read whole (fixed_read kind.CloseBracket)))
    (alt_read (is kind.True) (fixed_read kind.True) (alt_read (is kind.False) (fixed_read kind.False)
    (ahead_read is_division (seq_read divisor_read (seq_read (fixed_read kind.Bar) sum)) (seq_read sum (seq_read rel_read sum))))))

literal_reads : (sum : Reader Lin) (one : Reader Literal) (whole : Reader Form) → as_read to_literal (literal_layer_read sum one whole) ≡ literal_by sum one whole
literal_reads sum one whole = alt_choice to_literal (is kind.Tilde) _ _
    ∙ ap (choice_read (is kind.Tilde) (not_by one)) (alt_choice (λ x. to_literal (inr x)) (is kind.OpenBracket) _ _
    ∙ ap (choice_read (is kind.OpenBracket) (bracket_by whole)) (alt_choice (λ x. to_literal (inr (inr x))) (is kind.True) _ _
    ∙ ap (choice_read (is kind.True) true_read) (alt_choice (λ x. to_literal (inr (inr (inr x)))) (is kind.False) _ _
    ∙ ap (choice_read (is kind.False) false_read) (ahead_choice (λ x. to_literal (inr (inr (inr (inr x))))) is_division _ _))))

-- ---- conjunctions and disjunctions

abbrev pub further_literals_form : Shape (List Literal)
further_literals_form = many (behind (code kind.And - 2) literal_form)

abbrev pub further_conjunctions_form : Shape (List Conjunction)
further_conjunctions_form = many (behind (code kind.Or - 2) conjunction_form)

pub conjunction_mark : (x : Literal × List Literal) → conjunction_marks (to_conjunction x) ≡ (seq literal_form further_literals_form).mark x
conjunction_mark (l, ls) = fold-roll-Conjunction _ _ _ _ form_step literal_step conjunction_step disjunction_step (record { first = l; rest = ls })
    ∙ ap (λ z. literal_marks l ++ joined z) (map-map (λ c. (plain (Fixed (code kind.And - 2)) ∷ []) ++ c) literal_marks ls)

pub conjunction_fit : (x : Literal × List Literal) → conjunction_fits (to_conjunction x) ≡ (seq literal_form further_literals_form).fits x
conjunction_fit (l, ls) = fold-roll-Conjunction _ _ _ _ form_proper literal_proper conjunction_proper disjunction_proper (record { first = l; rest = ls })

pub disjunction_mark : (x : Conjunction × List Conjunction) → disjunction_marks (to_disjunction x) ≡ (seq conjunction_form further_conjunctions_form).mark x
disjunction_mark (c, cs) = fold-roll-Disjunction _ _ _ _ form_step literal_step conjunction_step disjunction_step (record { first = c; rest = cs })
    ∙ ap (λ z. conjunction_marks c ++ joined z) (map-map (λ d. (plain (Fixed (code kind.Or - 2)) ∷ []) ++ d) conjunction_marks cs)

pub disjunction_fit : (x : Conjunction × List Conjunction) → disjunction_fits (to_disjunction x) ≡ (seq conjunction_form further_conjunctions_form).fits x
disjunction_fit (c, cs) = fold-roll-Disjunction _ _ _ _ form_proper literal_proper conjunction_proper disjunction_proper (record { first = c; rest = cs })

pub from_disjunction : Disjunction → Conjunction × List Conjunction
from_disjunction d = ((out-Disjunction d).first, (out-Disjunction d).rest)

pub disjunction_there : (d : Disjunction) → to_disjunction (from_disjunction d) ≡ d
unfolding from_disjunction
disjunction_there d = roll-out-Disjunction d

-- ---- formulas

abbrev pub form_layer : Shape FormLayer
form_layer = seq disjunction_form (alt (seq (word kind.RightArrow) form_form) nil)

pub from_form : Form-F Form Literal Conjunction Disjunction → FormLayer
from_form (Plain d) = (d, inr tt)
from_form (Implies d f) = (d, inl (tt, f))

to_from_form : (x : Form-F Form Literal Conjunction Disjunction) → to_form (from_form x) ≡ roll-Form x
unfolding from_form
to_from_form (Plain d) = sym (form.rolls-Plain d)
to_from_form (Implies d f) = sym (form.rolls-Implies d f)

pub form_there : (f : Form) → to_form (from_form (out-Form f)) ≡ f
form_there f = to_from_form (out-Form f) ∙ roll-out-Form f

pub form_mark : (x : FormLayer) → form_marks (to_form x) ≡ starred (form_layer.mark x)
form_mark (d, inl (u, f)) = ap form_marks (sym (form.rolls-Implies d f)) ∙ fold-roll-Form _ _ _ _ form_step literal_step conjunction_step disjunction_step (Implies d f)
form_mark (d, inr u) = ap form_marks (sym (form.rolls-Plain d)) ∙ fold-roll-Form _ _ _ _ form_step literal_step conjunction_step disjunction_step (Plain d) ∙ ap starred (sym (append-nil (disjunction_marks d)))

pub form_fit : (x : FormLayer) → form_fits (to_form x) ≡ form_layer.fits x
form_fit (d, inl (u, f)) = ap form_fits (sym (form.rolls-Implies d f)) ∙ fold-roll-Form _ _ _ _ form_proper literal_proper conjunction_proper disjunction_proper (Implies d f)
form_fit (d, inr u) = ap form_fits (sym (form.rolls-Plain d)) ∙ fold-roll-Form _ _ _ _ form_proper literal_proper conjunction_proper disjunction_proper (Plain d) ∙ and_true (disjunction_fits d)

-- ---- some are in the grammar

pub true_literal : literal_fits literal.True ≡ true
true_literal = literal_fit (inr (inr (inl tt)))

true_conjunction : conjunction_fits true_alone ≡ true
true_conjunction = conjunction_fit (literal.True, []) ∙ ap (λ b. b && true) true_literal

true_disjunction : disjunction_fits (to_disjunction (true_alone, [])) ≡ true
true_disjunction = disjunction_fit (true_alone, []) ∙ ap (λ b. b && true) true_conjunction

pub true_form : form_fits (form.Plain (to_disjunction (true_alone, []))) ≡ true
true_form = form_fit (to_disjunction (true_alone, []), inr tt) ∙ ap (λ b. b && true) true_disjunction

-- ---- by readers of the parts that may open at most `d`

module _ (d : ℕ) (one : Reader Literal) (whole : Reader Form) (E : Exact bars d literal_form one) (F : Exact bars d form_form whole) where
  division_exact : Exact bars d divides_form (seq_read divisor_read (seq_read (fixed_read kind.Bar) (lin_read true d)))
  division_exact = seq_exact bars d divisor _ _ _ (divisor_exact d) (seq_exact bars d (word kind.Bar) (lin_form true) _ _ (fixed_exact bars d _) (lin_exact true d) refl) refl

  related_exact : Exact bars d related_form (seq_read (lin_read true d) (seq_read rel_read (lin_read true d)))
  related_exact = seq_exact bars d (lin_form true) _ _ _ (lin_exact true d) (seq_exact bars d rel_form (lin_form true) _ _ (rel_exact d) (lin_exact true d) refl) refl

  relation_exact : Exact bars d (alt divides_form related_form) (ahead_read is_division (seq_read divisor_read (seq_read (fixed_read kind.Bar) (lin_read true d))) (seq_read (lin_read true d) (seq_read rel_read (lin_read true d))))
  relation_exact = ahead_exact bars d is_divisor bars divides_form related_form _ _ division_exact related_exact refl refl
      left_of (λ y r f g. right_of y.0 y.1.0 y.1.1 r) (taken_divides (lin_read true d)) (taken_related d)

  literal_layer_exact : Exact bars d literal_layer (literal_layer_read (lin_read true d) one whole)
  literal_layer_exact = alt_exact bars d (seq (word kind.Tilde) literal_form) _ _ _ (seq_exact bars d (word kind.Tilde) literal_form _ _ (fixed_exact bars d _) E refl)
      (alt_exact bars d (seq (word kind.OpenBracket) (seq form_form (word kind.CloseBracket))) _ _ _
      (seq_exact bars d (word kind.OpenBracket) _ _ _ (fixed_exact bars d _) (seq_exact bars d form_form (word kind.CloseBracket) _ _ F (fixed_exact bars d _) refl) refl)
      (alt_exact bars d (word kind.True) _ _ _ (fixed_exact bars d _)
      (alt_exact bars d (word kind.False) (alt divides_form related_form) _ _ (fixed_exact bars d _) relation_exact refl refl) refl refl) refl refl) refl refl

  pub literal_exact_by : Exact bars (suc d) literal_form (literal_by (lin_read true d) one whole)
  literal_exact_by = subst (Exact bars (suc d) literal_form) (literal_reads (lin_read true d) one whole)
      (shape_exact bars (suc d) (star literal_layer) _ (star_exact bars d literal_layer _ literal_layer_exact)
      literal_form to_literal (λ l. from_literal (out-Literal l)) (λ l f. literal_there l) literal_mark literal_fit refl refl refl true_literal)

  pub conjunction_exact_by : Exact bars d conjunction_form (conjunction_by one)
  conjunction_exact_by = shape_exact bars d (seq literal_form further_literals_form) _
      (seq_exact bars d literal_form further_literals_form _ _ E (many_exact bars d (behind (code kind.And - 2) literal_form) _ (behind_exact bars d (code kind.And - 2) literal_form _ E) refl refl) refl)
      conjunction_form to_conjunction (λ c. (c.first, c.rest)) (λ c f. refl) conjunction_mark conjunction_fit refl refl refl true_conjunction

  pub disjunction_exact_by : Exact bars d disjunction_form (disjunction_by one)
  disjunction_exact_by = shape_exact bars d (seq conjunction_form further_conjunctions_form) _
      (seq_exact bars d conjunction_form further_conjunctions_form _ _ conjunction_exact_by
      (many_exact bars d (behind (code kind.Or - 2) conjunction_form) _ (behind_exact bars d (code kind.Or - 2) conjunction_form _ conjunction_exact_by) refl refl) refl)
      disjunction_form to_disjunction from_disjunction (λ e f. disjunction_there e) disjunction_mark disjunction_fit refl refl refl true_disjunction

  form_layer_exact : Exact bars d form_layer (seq_read (disjunction_by one) (alt_read (is kind.RightArrow) (seq_read (fixed_read kind.RightArrow) whole) nil_read))
  form_layer_exact = seq_exact bars d disjunction_form _ _ _ disjunction_exact_by
      (alt_exact bars d (seq (word kind.RightArrow) form_form) nil _ _ (seq_exact bars d (word kind.RightArrow) form_form _ _ (fixed_exact bars d _) F refl) (nil_exact bars d) refl refl) refl

  pub form_exact_by : Exact bars (suc d) form_form (form_by one whole)
  form_exact_by = shape_exact bars (suc d) (star form_layer) _ (star_exact bars d form_layer _ form_layer_exact)
      form_form to_form (λ f. from_form (out-Form f)) (λ f g. form_there f) form_mark form_fit refl refl refl true_form
