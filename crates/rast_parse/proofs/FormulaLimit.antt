-- Where no formula may open, and formulas at each depth.
use Rattle.std.proofs.Common.{◌≡◌, ℕ, zero, suc, ◌-◌, ◌<◌, Bool, true, false, ◌&&◌, ◌||◌, ◌==◌, cond, List, [], ◌∷◌, ◌++◌, ap, sym, ◌∙◌, refl, subst, ◌⊎◌, inl, inr, arith}
use Rattle.std.proofs.lemmas.Bool.{eqb-true}
use Rattle.rast_forms.specs.Words.{Word, Name, Number, Fixed, key_of, is_in, starts}
use Rattle.rast_forms.specs.Marks.{Mark, bare, starred, one_more, highest, count}
use Rattle.rast_forms.proofs.Forms.{Exact, Begins}
use Rattle.rast_forms.proofs.Sets.{within_true}
use Rattle.rast_forms.proofs.Marking.{bare-starred, count_more_lt}
use Rattle.rast_forms.proofs.Shapes.{Opens, limit_exact}
use Rattle.rast_ast.specs.declared.term.Term.TheVariants as term
use Rattle.rast_ast.specs.declared.term.Lin.{Lin}
use Rattle.rast_ast.specs.declared.form.Rel.TheVariants as rel
use Rattle.rast_ast.specs.declared.form.Form.{Form, out-Form}
use Rattle.rast_ast.specs.declared.form.Form.TheVariants as form
use Rattle.rast_ast.specs.declared.form.Disjunction.{Disjunction}
use Rattle.rast_ast.specs.declared.form.Conjunction.{Conjunction}
use Rattle.rast_ast.specs.declared.form.Literal.{Literal, out-Literal}
use Rattle.rast_ast.specs.declared.form.Literal.TheVariants as literal
use Rattle.rast_ast.specs.Linear.{lin_marks}
use Rattle.rast_ast.specs.Formulas.{rel_marks, form_marks, disjunction_marks, conjunction_marks, literal_marks, form_fits, literal_fits}
use Rattle.rast_parse.specs.LinearReading.{term_first}
use Rattle.rast_parse.specs.FormulaReading.{LiteralLayer, to_literal, to_disjunction, to_form, formula_first, literal_read, form_read}
use Rattle.rast_parse.proofs.LinearExact.{bars, lin_mark, term_mark}
use Rattle.rast_parse.proofs.TermLimit.{fixed_open, lin_exact}
use Rattle.rast_parse.proofs.FormulasExact.{literal_form, form_form, literal_layer, from_literal, literal_there, literal_mark, literal_fit, conjunction_mark, conjunction_fit, disjunction_mark, disjunction_fit, disjunction_there, from_disjunction, form_layer, from_form, form_there, form_mark, form_fit, true_alone, true_literal, true_form, literal_exact_by, form_exact_by}

-- ---- what each begins with

begins_longer : (ms more : List Mark) → Begins formula_first false (bare ms) → Begins formula_first false (bare (ms ++ more))
begins_longer [] more b = absurd (cc)
begins_longer (m ∷ ms) more b = b

begins_wider : (ws : List Word) → Begins term_first false ws → Begins formula_first false ws
begins_wider [] b = absurd (cc)
begins_wider (w ∷ ws) b = within_true term_first formula_first (key_of w) refl b

begins_starred : (ms : List Mark) → Begins formula_first false (bare ms) → Begins formula_first false (bare (starred ms))
begins_starred ms b = subst (Begins formula_first false) (sym (bare-starred ms)) b

layer_begins : (x : LiteralLayer) → Begins formula_first false (bare (literal_layer.mark x))
layer_begins (inl (u, l)) = refl
layer_begins (inr (inl (o, (f, c)))) = refl
layer_begins (inr (inr (inl u))) = refl
layer_begins (inr (inr (inr (inl u)))) = refl
layer_begins (inr (inr (inr (inr (inl (k, (u, l))))))) = refl
layer_begins (inr (inr (inr (inr (inr (a, (r, b))))))) = begins_longer (lin_marks true a) _ (begins_wider (bare (lin_marks true a)) ((lin_exact true 0).begins a refl))

literal_begins : (l : Literal) → Begins formula_first false (bare (literal_marks l))
literal_begins l = subst (λ (z : List Mark). Begins formula_first false (bare z)) (sym (literal_mark (from_literal (out-Literal l))) ∙ ap literal_marks (literal_there l))
    (begins_starred (literal_layer.mark (from_literal (out-Literal l))) (layer_begins (from_literal (out-Literal l))))

conjunction_begins : (c : Conjunction) → Begins formula_first false (bare (conjunction_marks c))
conjunction_begins c = subst (λ (z : List Mark). Begins formula_first false (bare z)) (sym (conjunction_mark (c.first, c.rest))) (begins_longer (literal_marks c.first) _ (literal_begins c.first))

disjunction_begins : (d : Disjunction) → Begins formula_first false (bare (disjunction_marks d))
disjunction_begins d = subst (λ (z : List Mark). Begins formula_first false (bare z)) (sym (disjunction_mark (from_disjunction d)) ∙ ap disjunction_marks (disjunction_there d))
    (begins_longer (conjunction_marks (from_disjunction d).0) _ (conjunction_begins (from_disjunction d).0))

form_begins : (f : Form) → Begins formula_first false (bare (form_marks f))
form_begins f = subst (λ (z : List Mark). Begins formula_first false (bare z)) (sym (form_mark (from_form (out-Form f))) ∙ ap form_marks (form_there f))
    (begins_starred (form_layer.mark (from_form (out-Form f))) (begins_longer (disjunction_marks (from_form (out-Form f)).0) _ (disjunction_begins (from_form (out-Form f)).0)))

-- ---- one at least is open at the first token

high_starred : (ms : List Mark) → Begins formula_first false (bare (starred ms)) → 0 < highest (starred ms)
high_starred [] b = absurd (cc)
high_starred (m ∷ ms) b = omega arith

literal_high : (l : Literal) → 0 < highest (literal_marks l)
literal_high l = subst (λ (z : List Mark). 0 < highest z) (sym (literal_mark (from_literal (out-Literal l))) ∙ ap literal_marks (literal_there l))
    (high_starred (literal_layer.mark (from_literal (out-Literal l))) (begins_starred (literal_layer.mark (from_literal (out-Literal l))) (layer_begins (from_literal (out-Literal l)))))

form_high : (f : Form) → 0 < highest (form_marks f)
form_high f = subst (λ (z : List Mark). 0 < highest z) (sym (form_mark (from_form (out-Form f))) ∙ ap form_marks (form_there f))
    (high_starred (form_layer.mark (from_form (out-Form f))) (begins_starred (form_layer.mark (from_form (out-Form f)))
    (begins_longer (disjunction_marks (from_form (out-Form f)).0) _ (disjunction_begins (from_form (out-Form f)).0))))

-- ---- a member for each first token

abbrev one_lin : Lin
one_lin = record { first = term.Number 1; rest = [] }

-- a linear term that begins with a token, at which one is open
record Starting (w : Word) : Type 0 where
  lin : Lin
  mark : Mark
  more : List Mark
  are : mark ∷ more ≡ lin_marks true lin
  word_is : w ≡ mark.word
  open_is : mark.open_at ≡ 1

begun_by : (w : Word) → is_in term_first (key_of w) ≡ true → Starting w
begun_by (Name n) h = record {
  lin = record { first = term.Variable n; rest = [] };
  mark = record { word = Name n; open_at = 1; in_formula = false };
  more = [];
  are = sym (lin_mark true (term.Variable n, []) ∙ ap (λ z. z ++ []) (term_mark true (inr (inl n))));
  word_is = refl;
  open_is = refl;
}
begun_by (Number k) h = record {
  lin = record { first = term.Number k; rest = [] };
  mark = record { word = Number k; open_at = 1; in_formula = true };
  more = [];
  are = sym (lin_mark true (term.Number k, []) ∙ ap (λ z. z ++ []) (term_mark true (inl (k, inr tt))));
  word_is = refl;
  open_is = refl;
}
begun_by (Fixed which) h = record {
  lin = record { first = term.Group one_lin; rest = [] };
  mark = record { word = Fixed 53; open_at = 1; in_formula = false };
  more = _;
  are = sym (lin_mark true (term.Group one_lin, []) ∙ ap (λ z. z ++ []) (term_mark true (inr (inr (tt, (one_lin, tt))))));
  word_is = ap Fixed (fixed_open which h);
  open_is = refl;
}

abbrev related_layer : Lin → LiteralLayer
related_layer l = inr (inr (inr (inr (inr (l, (rel.Eq, one_lin))))))

opens_related : (w : Word) (v : List Word) → Starting w → Opens bars literal_form w v
opens_related w v s = (
  to_literal (related_layer s.lin),
  one_more s.mark,
  _,
  literal_fit (related_layer s.lin),
  sym (literal_mark (related_layer s.lin) ∙ ap (λ z. starred (z ++ (rel_marks rel.Eq ++ lin_marks true one_lin))) (sym s.are)),
  s.word_is,
  at (s.mark.in_formula && starts bars v),
)
  where
    at : (c : Bool) → 0 < cond c (suc s.mark.open_at - 1) (suc s.mark.open_at)
    at true = omega (arith, s.open_is)
    at false = omega arith

opens_fixed : (x : LiteralLayer) (k : ℕ) (more : List Mark) (which : ℕ) (v : List Word) → literal_layer.fits x ≡ true → literal_layer.mark x ≡ record { word = Fixed k; open_at = 0; in_formula = false } ∷ more → which ≡ k →
    Opens bars literal_form (Fixed which) v
opens_fixed x k more which v f e g = (to_literal x, record { word = Fixed k; open_at = 1; in_formula = false }, starred more, literal_fit x ∙ f, sym (literal_mark x ∙ ap starred e), ap Fixed g, omega arith)

-- the kinds, one by one
pub pick : (a k : ℕ) (rest : Bool) → ((a == k) || rest) ≡ true → (a ≡ k) ⊎ (rest ≡ true)
pick a k rest e = at (a == k) refl e
  where
    at : (b : Bool) → (a == k) ≡ b → (b || rest) ≡ true → (a ≡ k) ⊎ (rest ≡ true)
    at true f g = inl (eqb-true a k f)
    at false f g = inr g

pub less_two : (which k : ℕ) → suc (suc which) ≡ suc (suc k) → which ≡ k
less_two which k e = omega arith

opens_literal_fixed : (which : ℕ) (v : List Word) → is_in formula_first (suc (suc which)) ≡ true → Opens bars literal_form (Fixed which) v
opens_literal_fixed which v h = tilde (pick (suc (suc which)) 52 _ h)
  where
    last : is_in term_first (suc (suc which)) ≡ true → Opens bars literal_form (Fixed which) v
    last e = opens_related (Fixed which) v (begun_by (Fixed which) e)

    fourth : (suc (suc which) ≡ 14) ⊎ (is_in term_first (suc (suc which)) ≡ true) → Opens bars literal_form (Fixed which) v
    fourth (inl e) = opens_fixed (inr (inr (inr (inl tt)))) 12 [] which v refl refl (less_two which 12 e)
    fourth (inr e) = last e

    third : (suc (suc which) ≡ 24) ⊎ ((suc (suc which) == 14) || is_in term_first (suc (suc which))) ≡ true → Opens bars literal_form (Fixed which) v
    third (inl e) = opens_fixed (inr (inr (inl tt))) 22 [] which v refl refl (less_two which 22 e)
    third (inr e) = fourth (pick _ _ _ e)

    second : (suc (suc which) ≡ 57) ⊎ (((suc (suc which) == 24) || ((suc (suc which) == 14) || is_in term_first (suc (suc which)))) ≡ true) → Opens bars literal_form (Fixed which) v
    second (inl e) = opens_fixed (inr (inl (tt, (form.Plain (to_disjunction (true_alone, [])), tt)))) 55 _ which v (rw true_form refl) refl (less_two which 55 e)
    second (inr e) = third (pick _ _ _ e)

    tilde : (suc (suc which) ≡ 52) ⊎ (((suc (suc which) == 57) || ((suc (suc which) == 24) || ((suc (suc which) == 14) || is_in term_first (suc (suc which))))) ≡ true) → Opens bars literal_form (Fixed which) v
    tilde (inl e) = opens_fixed (inl (tt, literal.True)) 50 _ which v true_literal refl (less_two which 50 e)
    tilde (inr e) = second (pick _ _ _ e)

opens_literal : (w : Word) (v : List Word) → is_in formula_first (key_of w) ≡ true → Opens bars literal_form w v
opens_literal (Name n) v h = opens_related (Name n) v (begun_by (Name n) refl)
opens_literal (Number k) v h = opens_related (Number k) v (begun_by (Number k) refl)
opens_literal (Fixed which) v h = opens_literal_fixed which v h

abbrev alone : Literal → Conjunction
alone l = record { first = l; rest = [] }

plain_marks : (l : Literal) → form_marks (to_form (to_disjunction (alone l, []), inr tt)) ≡ starred (((literal_marks l ++ []) ++ []) ++ [])
plain_marks l = form_mark (to_disjunction (alone l, []), inr tt) ∙ ap (λ z. starred (z ++ [])) (disjunction_mark (alone l, []) ∙ ap (λ z. z ++ []) (conjunction_mark (l, [])))

plain_fits : (l : Literal) → literal_fits l ≡ true → form_fits (to_form (to_disjunction (alone l, []), inr tt)) ≡ true
plain_fits l f = form_fit (to_disjunction (alone l, []), inr tt) ∙ ap (λ b. b && true) (disjunction_fit (alone l, []) ∙ ap (λ b. b && true) (conjunction_fit (l, []) ∙ ap (λ b. b && true) f))

opens_as_form : (w : Word) (v : List Word) → Opens bars literal_form w v → Opens bars form_form w v
opens_as_form w v (l, m, ms, f, g, h, k) = (
  to_form (to_disjunction (alone l, []), inr tt),
  one_more m,
  _,
  plain_fits l f,
  sym (plain_marks l ∙ ap (λ z. starred (((z ++ []) ++ []) ++ [])) (sym g)),
  h,
  let more : 1 < count bars (one_more m) v = count_more_lt bars m v 0 k in omega arith,
)

-- ---- at each depth

pub both_exact : (d : ℕ) → Exact bars d literal_form (literal_read d) × Exact bars d form_form (form_read d)
both_exact zero = (
  limit_exact bars literal_form refl true_literal (λ l f. literal_begins l) opens_literal (λ l f. literal_high l),
  limit_exact bars form_form refl true_form (λ l f. form_begins l) (λ w v h. opens_as_form w v (opens_literal w v h)) (λ l f. form_high l),
)
both_exact (suc d) = (literal_exact_by d (literal_read d) (form_read d) (both_exact d).0 (both_exact d).1, form_exact_by d (literal_read d) (form_read d) (both_exact d).0 (both_exact d).1)

pub form_exact : (d : ℕ) → Exact bars d form_form (form_read d)
form_exact d = (both_exact d).1
