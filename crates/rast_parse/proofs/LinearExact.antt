-- Linear terms are read exactly.
use Rattle.std.proofs.Common.{◌≡◌, ℕ, suc, ◌-◌, Bool, true, false, List, [], ◌∷◌, ◌++◌, ap, sym, ◌∙◌, refl, subst, ◌⊎◌, inl, inr}
use Rattle.rast_forms.specs.Marks.{Mark, starred, joined}
use Rattle.rast_forms.specs.Reading.{Reader, seq_read, nil_read, alt_read, choice_read}
use Rattle.rast_forms.proofs.Forms.{Form, Exact}
use Rattle.rast_forms.proofs.One.{name, number, fixed, name_exact, number_exact, fixed_exact}
use Rattle.rast_forms.proofs.Sequence.{seq, seq_exact, nil, nil_exact}
use Rattle.rast_forms.proofs.Either.{alt, alt_exact}
use Rattle.rast_forms.proofs.Many.{many, many_exact}
use Rattle.rast_forms.proofs.Shapes.{shape_exact, star, star_exact}
use Rattle.rast_ast.specs.Kinds.{code}
use Rattle.rast_ast.specs.declared.kind.Kind.{Kind}
use Rattle.rast_ast.specs.declared.kind.Kind.TheVariants as kind
use Rattle.rast_ast.specs.declared.term.Sign.{Sign}
use Rattle.rast_ast.specs.declared.term.Sign.TheVariants as sign
use Rattle.rast_ast.specs.declared.term.Lin.{Lin}
use Rattle.rast_ast.specs.declared.term.Term.{Term, roll-Term, out-Term, roll-out-Term}
use Rattle.rast_ast.specs.declared.term.Term.TheVariants as term
use Rattle.rast_ast.specs.declared.term.Term.TheOpen.{Term-F, Times, Number as Constant, Variable, Group}
use Rattle.rast_ast.specs.declared.term.Term.TheFolds.{fold-roll-Term, fold-roll-Lin}
use Rattle.rast_ast.specs.Linear.{sign_marks, term_marks, lin_marks, term_step, lin_step}
use Rattle.rast_parse.specs.LinearReading.{is, fixed_read, name_read, number_read, to_sign, sign_read, TermLayer, to_term, to_lin, further_read, lin_by, number_by, term_by, term_first}
use Rattle.rast_parse.proofs.Choices.{alt_choice}
use Rattle.rast_parse.proofs.Trees.{map-map, all_true_of}

abbrev pub bars : List ℕ
bars = is kind.Bar

abbrev pub word : Kind → Form (Unit {0})
word k = fixed (code k - 2)

-- ---- signs

abbrev pub sign_form : Form Sign
sign_form = record { mark = sign_marks; fits = λ _. true; first = code kind.Plus ∷ code kind.Minus ∷ []; is_empty = false; goes_on = []; some = sign.Plus }

from_sign : Sign → Unit {0} ⊎ Unit {0}
from_sign sign.Plus = inl tt
from_sign sign.Minus = inr tt

sign_there : (s : Sign) → to_sign (from_sign s) ≡ s
unfolding from_sign
sign_there sign.Plus = refl
sign_there sign.Minus = refl

sign_mark : (x : Unit {0} ⊎ Unit {0}) → sign_marks (to_sign x) ≡ (alt (word kind.Plus) (word kind.Minus)).mark x
sign_mark (inl x) = refl
sign_mark (inr x) = refl

sign_fits : (x : Unit {0} ⊎ Unit {0}) → true ≡ (alt (word kind.Plus) (word kind.Minus)).fits x
sign_fits (inl x) = refl
sign_fits (inr x) = refl

pub sign_exact : (d : ℕ) → Exact bars d sign_form sign_read
sign_exact d = subst (Exact bars d sign_form) (alt_choice to_sign (is kind.Plus) (fixed_read kind.Plus) (fixed_read kind.Minus))
    (shape_exact bars d (alt (word kind.Plus) (word kind.Minus)) _ (alt_exact bars d (word kind.Plus) (word kind.Minus) _ _ (fixed_exact bars d _) (fixed_exact bars d _) refl refl)
    sign_form to_sign from_sign (λ s f. sign_there s) sign_mark sign_fits refl refl refl refl)

-- ---- terms

abbrev pub term_form : Bool → Form Term
term_form b = record { mark = term_marks b; fits = λ _. true; first = term_first; is_empty = false; goes_on = code kind.Star ∷ code kind.Bar ∷ []; some = term.Number 1 }

abbrev pub lin_form : Bool → Form Lin
lin_form b = record { mark = lin_marks b; fits = λ _. true; first = term_first; is_empty = false; goes_on = code kind.Star ∷ code kind.Bar ∷ code kind.Plus ∷ code kind.Minus ∷ []; some = record { first = term.Number 1; rest = [] } }

abbrev pub further_form : Bool → Form (List (Sign × Term))
further_form b = many (seq sign_form (term_form b))

pub lin_mark : (b : Bool) (x : Term × List (Sign × Term)) → lin_marks b (to_lin x) ≡ (seq (term_form b) (further_form b)).mark x
lin_mark b (t, ts) = fold-roll-Lin (List Mark) (List Mark) (term_step b) lin_step (record { first = t; rest = ts }) ∙ ap (λ z. term_marks b t ++ joined z) (map-map (λ (p : Sign × List Mark). sign_marks p.0 ++ p.1) (λ (p : Sign × Term). (p.0, term_marks b p.1)) ts)

lin_fits : (b : Bool) (x : Term × List (Sign × Term)) → true ≡ (seq (term_form b) (further_form b)).fits x
lin_fits b (t, ts) = sym (all_true_of _ (λ x. refl) ts)

module _ (b : Bool) (d : ℕ) (one : Reader Term) (E : Exact bars d (term_form b) one) where
  further_exact : Exact bars d (further_form b) (further_read one)
  further_exact = many_exact bars d (seq sign_form (term_form b)) _ (seq_exact bars d sign_form (term_form b) _ _ (sign_exact d) E refl) refl refl

  pub lin_exact_by : Exact bars d (lin_form b) (lin_by one)
  lin_exact_by = shape_exact bars d (seq (term_form b) (further_form b)) _ (seq_exact bars d (term_form b) (further_form b) _ _ E further_exact refl)
      (lin_form b) to_lin (λ l. (l.first, l.rest)) (λ l f. refl) (lin_mark b) (lin_fits b) refl refl refl refl

abbrev pub layer_form : Bool → Form TermLayer
layer_form b = alt (seq (number b) (alt (seq (word kind.Star) (term_form b)) nil)) (alt name (seq (word kind.OpenParen) (seq (lin_form b) (word kind.CloseParen))))

pub from_layer : Term-F Term Lin → TermLayer
from_layer (Times k t) = inl (k, inl (tt, t))
from_layer (Constant k) = inl (k, inr tt)
from_layer (Variable n) = inr (inl n)
from_layer (Group l) = inr (inr (tt, (l, tt)))

pub to_layer : (x : Term-F Term Lin) → to_term (from_layer x) ≡ roll-Term x
unfolding from_layer
to_layer (Times k t) = sym (term.rolls-Times k t)
to_layer (Constant k) = sym (term.rolls-Number k)
to_layer (Variable n) = sym (term.rolls-Variable n)
to_layer (Group l) = sym (term.rolls-Group l)

pub term_mark : (b : Bool) (x : TermLayer) → term_marks b (to_term x) ≡ starred ((layer_form b).mark x)
term_mark b (inl (k, inl (s, t))) = ap (term_marks b) (sym (term.rolls-Times k t)) ∙ fold-roll-Term _ _ (term_step b) lin_step (Times k t)
term_mark b (inl (k, inr u)) = ap (term_marks b) (sym (term.rolls-Number k)) ∙ fold-roll-Term _ _ (term_step b) lin_step (Constant k)
term_mark b (inr (inl n)) = ap (term_marks b) (sym (term.rolls-Variable n)) ∙ fold-roll-Term _ _ (term_step b) lin_step (Variable n)
term_mark b (inr (inr (o, (l, c)))) = ap (term_marks b) (sym (term.rolls-Group l)) ∙ fold-roll-Term _ _ (term_step b) lin_step (Group l)

term_fits : (b : Bool) (x : TermLayer) → true ≡ (layer_form b).fits x
term_fits b (inl (k, inl (s, t))) = refl
term_fits b (inl (k, inr u)) = refl
term_fits b (inr (inl n)) = refl
term_fits b (inr (inr (o, (l, c)))) = refl

abbrev layer_read : Reader Term → Reader TermLayer
layer_read one = alt_read (is kind.Number) (seq_read number_read (alt_read (is kind.Star) (seq_read (fixed_read kind.Star) one) nil_read))
    (alt_read (is kind.Name) name_read (seq_read (fixed_read kind.OpenParen) (seq_read (lin_by one) (fixed_read kind.CloseParen))))

module _ (b : Bool) (d : ℕ) (one : Reader Term) (E : Exact bars d (term_form b) one) where
  number_layer_exact : Exact bars d (seq (number b) (alt (seq (word kind.Star) (term_form b)) nil)) (seq_read number_read (alt_read (is kind.Star) (seq_read (fixed_read kind.Star) one) nil_read))
  number_layer_exact = seq_exact bars d (number b) _ _ _ (number_exact bars d b)
      (alt_exact bars d (seq (word kind.Star) (term_form b)) nil _ _ (seq_exact bars d (word kind.Star) (term_form b) _ _ (fixed_exact bars d _) E refl) (nil_exact bars d) refl refl) refl

  group_layer_exact : Exact bars d (seq (word kind.OpenParen) (seq (lin_form b) (word kind.CloseParen))) (seq_read (fixed_read kind.OpenParen) (seq_read (lin_by one) (fixed_read kind.CloseParen)))
  group_layer_exact = seq_exact bars d (word kind.OpenParen) _ _ _ (fixed_exact bars d _)
      (seq_exact bars d (lin_form b) (word kind.CloseParen) _ _ (lin_exact_by b d one E) (fixed_exact bars d _) refl) refl

  layer_exact : Exact bars d (layer_form b) (layer_read one)
  layer_exact = alt_exact bars d (seq (number b) (alt (seq (word kind.Star) (term_form b)) nil)) _ _ _ number_layer_exact
      (alt_exact bars d name (seq (word kind.OpenParen) (seq (lin_form b) (word kind.CloseParen))) _ _ (name_exact bars d) group_layer_exact refl refl) refl refl

  pub term_exact_by : Exact bars (suc d) (term_form b) (term_by one)
  term_exact_by = subst (Exact bars (suc d) (term_form b)) (alt_choice to_term (is kind.Number) _ _ ∙ ap (choice_read (is kind.Number) (number_by one)) (alt_choice (λ x. to_term (inr x)) (is kind.Name) _ _))
      (shape_exact bars (suc d) (star (layer_form b)) _ (star_exact bars d (layer_form b) _ layer_exact)
      (term_form b) to_term (λ t. from_layer (out-Term t)) (λ t f. to_layer (out-Term t) ∙ roll-out-Term t) (term_mark b) (term_fits b) refl refl refl refl)
