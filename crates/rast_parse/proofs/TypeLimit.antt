-- Where no type may open, and types at each depth.
use Rattle.std.proofs.Common.{◌≡◌, ℕ, zero, suc, ◌<◌, Bool, true, false, ◌&&◌, List, [], ◌∷◌, ◌++◌, ap, sym, ◌∙◌, refl, subst, ◌⊎◌, inl, inr, arith}
use Rattle.std.proofs.lemmas.Bool.{eqb-true}
use Rattle.rast_forms.specs.Words.{Word, Name, Number, Fixed, is_in}
use Rattle.rast_forms.specs.Marks.{Mark, bare, starred, highest}
use Rattle.rast_forms.specs.Reading.{Syntax, Bad, limited}
use Rattle.rast_forms.proofs.Forms.{Exact, Begins, Right}
use Rattle.rast_forms.proofs.Marking.{bare-starred}
use Rattle.rast_forms.proofs.Shapes.{Opens, limit_deep, limit_wrong}
use Rattle.rast_ast.specs.declared.term.Lin.{Lin}
use Rattle.rast_ast.specs.declared.term.Term.TheVariants as term
use Rattle.rast_ast.specs.declared.type_expr.TypeExpr.{TypeExpr, out-TypeExpr}
use Rattle.rast_ast.specs.declared.type_expr.TypeExpr.TheVariants as type_expr
use Rattle.rast_ast.specs.declared.type_expr.Atom.TheVariants as atom
use Rattle.rast_ast.specs.declared.type_expr.Choice.{Choice}
use Rattle.rast_ast.specs.Types.{type_marks}
use Rattle.rast_parse.specs.TypeReading.{to_choice, type_first, opens_type, begins_type, type_limit, type_read}
use Rattle.rast_parse.proofs.LinearExact.{bars}
use Rattle.rast_parse.proofs.FormulaLimit.{pick, less_two}
use Rattle.rast_parse.proofs.TypesExact.{type_form, type_layer, Layer, to_type, from_type, type_there, type_mark, type_fit, one_type, choice_fit, type_exact_by}

marks_of : (t : TypeExpr) → starred (type_layer.mark (from_type (out-TypeExpr t))) ≡ type_marks t
marks_of t = sym (type_mark (from_type (out-TypeExpr t))) ∙ ap type_marks (type_there t)

layer_begins : (x : Layer) → Begins type_first false (bare (type_layer.mark x))
layer_begins (inl (inl q, t)) = refl
layer_begins (inl (inr (inl q), t)) = refl
layer_begins (inl (inr (inr (inl l)), t)) = refl
layer_begins (inl (inr (inr (inr l)), t)) = refl
layer_begins (inr (inl i)) = refl
layer_begins (inr (inr (inl u, tail))) = refl
layer_begins (inr (inr (inr (inl c), tail))) = refl
layer_begins (inr (inr (inr (inr (inl c)), tail))) = refl
layer_begins (inr (inr (inr (inr (inr (n, args))), tail))) = refl

layer_opens : (x : Layer) (r : List Word) → begins_type (bare (type_layer.mark x) ++ r) ≡ true
layer_opens (inl (inl q, t)) r = refl
layer_opens (inl (inr (inl q), t)) r = refl
layer_opens (inl (inr (inr (inl l)), t)) r = refl
layer_opens (inl (inr (inr (inr l)), t)) r = refl
layer_opens (inr (inl i)) r = refl
layer_opens (inr (inr (inl u, tail))) r = refl
layer_opens (inr (inr (inr (inl c), tail))) r = refl
layer_opens (inr (inr (inr (inr (inl c)), tail))) r = refl
layer_opens (inr (inr (inr (inr (inr (n, args))), tail))) r = refl

type_begins : (t : TypeExpr) → Begins type_first false (bare (type_marks t))
type_begins t = subst (λ (z : List Mark). Begins type_first false (bare z)) (marks_of t)
    (subst (Begins type_first false) (sym (bare-starred (type_layer.mark (from_type (out-TypeExpr t))))) (layer_begins (from_type (out-TypeExpr t))))

type_opens : (t : TypeExpr) (r : List Word) → begins_type (bare (type_marks t) ++ r) ≡ true
type_opens t r = subst (λ (z : List Mark). begins_type (bare z ++ r) ≡ true) (marks_of t)
    (ap (λ z. begins_type (z ++ r)) (bare-starred (type_layer.mark (from_type (out-TypeExpr t)))) ∙ layer_opens (from_type (out-TypeExpr t)) r)

some_high : (ms : List Mark) → Begins type_first false (bare ms) → 0 < highest (starred ms)
some_high [] b = absurd (cc)
some_high (m ∷ ms) b = omega arith

type_high : (t : TypeExpr) → 0 < highest (type_marks t)
type_high t = subst (λ (z : List Mark). 0 < highest z) (marks_of t) (some_high (type_layer.mark (from_type (out-TypeExpr t))) (layer_begins (from_type (out-TypeExpr t))))

-- ---- a type for each first token

opens_layer : (x : Layer) (w : Word) (more : List Mark) (v : List Word) → type_layer.fits x ≡ true → type_layer.mark x ≡ record { word = w; open_at = 0; in_formula = false } ∷ more → Opens bars type_form w v
opens_layer x w more v f e = (to_type x, record { word = w; open_at = 1; in_formula = false }, starred more, type_fit x ∙ f, sym (type_mark x ∙ ap starred e), refl, omega arith)

opens_fixed : (x : Layer) (k : ℕ) (more : List Mark) (which : ℕ) (v : List Word) → type_layer.fits x ≡ true → type_layer.mark x ≡ record { word = Fixed k; open_at = 0; in_formula = false } ∷ more → suc (suc which) ≡ suc (suc k) →
    Opens bars type_form (Fixed which) v
opens_fixed x k more which v f e g = subst (λ n. Opens bars type_form (Fixed n) v) (sym (less_two which k g)) (opens_layer x (Fixed k) more v f e)

abbrev one_lin : Lin
one_lin = record { first = term.Number 1; rest = [] }

abbrev unit_type : TypeExpr
unit_type = type_expr.Atom atom.One

abbrev some_choice : Choice
some_choice = to_choice ((97 ∷ [], unit_type), [])

some_choice_fits : type_layer.fits (inr (inr (inr (inl some_choice), inr (inr tt)))) ≡ true
some_choice_fits = ap (λ b. b && true) (choice_fit ((97 ∷ [], unit_type), []) ∙ ap (λ b. b && true) one_type)

opens_which : (which : ℕ) (v : List Word) → is_in type_first (suc (suc which)) ≡ true → Opens bars type_form (Fixed which) v
opens_which which v h = question (pick _ _ _ h)
  where
    name : (suc (suc which) ≡ 0) ⊎ (is_in ([]) (suc (suc which)) ≡ true) → Opens bars type_form (Fixed which) v
    name (inl e) = absurd (omega (arith, e))
    name (inr e) = absurd (cc)

    ampersand : (suc (suc which) ≡ 43) ⊎ (is_in (0 ∷ []) (suc (suc which)) ≡ true) → Opens bars type_form (Fixed which) v
    ampersand (inl e) = opens_fixed (inr (inr (inr (inr (inl some_choice)), inr (inr tt)))) 41 _ which v some_choice_fits refl e
    ampersand (inr e) = name (pick _ _ _ e)

    plus : (suc (suc which) ≡ 42) ⊎ (is_in (43 ∷ 0 ∷ []) (suc (suc which)) ≡ true) → Opens bars type_form (Fixed which) v
    plus (inl e) = opens_fixed (inr (inr (inr (inl some_choice), inr (inr tt)))) 40 _ which v some_choice_fits refl e
    plus (inr e) = ampersand (pick _ _ _ e)

    number : (suc (suc which) ≡ 1) ⊎ (is_in (42 ∷ 43 ∷ 0 ∷ []) (suc (suc which)) ≡ true) → Opens bars type_form (Fixed which) v
    number (inl e) = absurd (omega (arith, e))
    number (inr e) = plus (pick _ _ _ e)

    paren : (suc (suc which) ≡ 55) ⊎ (is_in (1 ∷ 42 ∷ 43 ∷ 0 ∷ []) (suc (suc which)) ≡ true) → Opens bars type_form (Fixed which) v
    paren (inl e) = opens_fixed (inr (inl (inl unit_type))) 53 _ which v one_type refl e
    paren (inr e) = number (pick _ _ _ e)

    less : (suc (suc which) ≡ 33) ⊎ (is_in (55 ∷ 1 ∷ 42 ∷ 43 ∷ 0 ∷ []) (suc (suc which)) ≡ true) → Opens bars type_form (Fixed which) v
    less (inl e) = opens_fixed (inl (inr (inr (inr one_lin)), unit_type)) 31 _ which v one_type refl e
    less (inr e) = paren (pick _ _ _ e)

    bar : (suc (suc which) ≡ 51) ⊎ (is_in (33 ∷ 55 ∷ 1 ∷ 42 ∷ 43 ∷ 0 ∷ []) (suc (suc which)) ≡ true) → Opens bars type_form (Fixed which) v
    bar (inl e) = opens_fixed (inl (inr (inr (inl one_lin)), unit_type)) 49 _ which v one_type refl e
    bar (inr e) = less (pick _ _ _ e)

    exclamation : (suc (suc which) ≡ 46) ⊎ (is_in (51 ∷ 33 ∷ 55 ∷ 1 ∷ 42 ∷ 43 ∷ 0 ∷ []) (suc (suc which)) ≡ true) → Opens bars type_form (Fixed which) v
    exclamation (inl e) = opens_fixed (inl (inr (inl (inl (97 ∷ []), tt)), unit_type)) 44 _ which v one_type refl e
    exclamation (inr e) = bar (pick _ _ _ e)

    question : (suc (suc which) ≡ 45) ⊎ (is_in (46 ∷ 51 ∷ 33 ∷ 55 ∷ 1 ∷ 42 ∷ 43 ∷ 0 ∷ []) (suc (suc which)) ≡ true) → Opens bars type_form (Fixed which) v
    question (inl e) = opens_fixed (inl (inl (inl (97 ∷ []), tt), unit_type)) 43 _ which v one_type refl e
    question (inr e) = exclamation (pick _ _ _ e)

opens_word : (w : Word) (v : List Word) → opens_type w ≡ true → Opens bars type_form w v
opens_word (Name n) v h = opens_layer (inr (inr (inr (inr (inr (n, []))), inr (inr tt)))) (Name n) [] v refl refl
opens_word (Number k) v h = subst (λ n. Opens bars type_form (Number n) v) (sym (eqb-true k 1 h)) (opens_layer (inr (inr (inl tt, inr (inr tt)))) (Number 1) [] v refl refl)
opens_word (Fixed which) v h = opens_which which v h

limit_at : (w : Word) (ts : List Word) (b : Bool) → opens_type w ≡ b → Right bars 0 type_form type_limit (w ∷ ts) (limited b (w ∷ ts))
limit_at w ts true e = limit_deep bars type_form type_limit w ts (opens_word w ts e)
limit_at w ts false e = limit_wrong bars type_form type_limit (w ∷ ts) one_type wrong
  where
    wrong : (x : Word) (v u : List Word) → w ∷ ts ≡ x ∷ v → type_limit (x ∷ u) ≡ Bad Syntax (x ∷ u)
    wrong x v u f = let h : opens_type x ≡ false = ap begins_type (sym f) ∙ e in rw h refl

limit_sound : (ts : List Word) → Right bars 0 type_form type_limit ts (type_limit ts)
limit_sound [] = limit_wrong bars type_form type_limit [] one_type (λ x v w e. absurd (cc))
limit_sound (w ∷ ts) = limit_at w ts (opens_type w) refl

limit_type_exact : Exact bars 0 type_form type_limit
limit_type_exact = record {
  complete = λ t r f g. inr (rw (type_opens t r) tt, type_high t);
  sound = limit_sound;
  begins = λ t f. type_begins t;
  some_fits = one_type;
}

pub type_exact : (d : ℕ) → Exact bars d type_form (type_read d)
type_exact zero = limit_type_exact
type_exact (suc d) = type_exact_by d (type_read d) (type_exact d)
