-- A division and a relation are told apart by two tokens.
use Rattle.std.proofs.Common.{◌≡◌, ℕ, zero, suc, Bool, true, false, not, ◌&&◌, ◌==◌, cond, List, [], ◌∷◌, ◌++◌, Some, None, ap, sym, ◌∙◌, refl, subst, inl, inr}
use Rattle.rast_forms.specs.Words.{Word, Name, Number, Fixed, starts}
use Rattle.rast_forms.specs.Marks.{Mark, bare, starred, plain}
use Rattle.rast_forms.specs.Reading.{Done, Bad, Syntax, Reader, given, seq_read}
use Rattle.rast_forms.proofs.Forms.{Form as Shape, Exact, spell}
use Rattle.rast_forms.proofs.One.{one, one_exact}
use Rattle.rast_forms.proofs.Sets.{and_left, and_both}
use Rattle.rast_forms.proofs.Marking.{bare_split}
use Rattle.rast_forms.proofs.Sequence.{seq}
use Rattle.rast_ast.specs.declared.kind.Kind.TheVariants as kind
use Rattle.rast_ast.specs.declared.term.Sign.{Sign}
use Rattle.rast_ast.specs.declared.term.Sign.TheVariants as sign
use Rattle.rast_ast.specs.declared.term.Lin.{Lin}
use Rattle.rast_ast.specs.declared.term.Term.{Term, out-Term}
use Rattle.rast_ast.specs.declared.form.Rel.{Rel}
use Rattle.rast_ast.specs.declared.form.Rel.TheVariants as rel
use Rattle.rast_ast.specs.Linear.{term_marks, lin_marks}
use Rattle.rast_ast.specs.Formulas.{rel_marks}
use Rattle.rast_parse.specs.LinearReading.{is, fixed_read, number_read, lin_read, TermLayer}
use Rattle.rast_parse.specs.FormulaReading.{rel_read, get_divisor, divisor_read, is_divisor, is_division}
use Rattle.rast_parse.proofs.LinearExact.{bars, word, lin_form, lin_mark, further_form, layer_form, from_layer}
use Rattle.rast_parse.proofs.TermLimit.{marks_of}

-- ---- divisors

abbrev pub divisor : Shape ℕ
divisor = one (λ n. plain (Number n)) (λ n. not (n == 0)) (is kind.Number) 1

divisor_there : (x : ℕ) → not (x == 0) ≡ true → get_divisor (Number x) ≡ Some x
divisor_there x = at (x == 0)
  where
    at : (b : Bool) → not b ≡ true → cond b None (Some x) ≡ Some x
    at true e = absurd (cc)
    at false e = refl

divisor_back : (t : Word) (x : ℕ) → get_divisor t ≡ Some x → (t ≡ Number x) × (not (x == 0) ≡ true)
divisor_back (Name bytes) x e = absurd (cc)
divisor_back (Fixed which) x e = absurd (cc)
divisor_back (Number value) x e = at (value == 0) refl e
  where
    at : (b : Bool) → (value == 0) ≡ b → cond b None (Some value) ≡ Some x → (Number value ≡ Number x) × (not (x == 0) ≡ true)
    at true f g = absurd (cc)
    at false f g = let same : value ≡ x = cc in (ap Number same, ap (λ n. not (n == 0)) (sym same) ∙ ap not f)

pub divisor_exact : (d : ℕ) → Exact bars d divisor divisor_read
divisor_exact d = one_exact bars d get_divisor (λ n. plain (Number n)) (λ n. not (n == 0)) (is kind.Number) 1 divisor_there divisor_back (λ x. refl) (λ x f. refl) refl

-- ---- the code's test

pub divisor_some : (ts : List Word) (k : ℕ) (r : List Word) → number_read ts ≡ Done k r → (k == 0) ≡ false → divisor_read ts ≡ Done k r
divisor_some [] k r e f = absurd (cc)
divisor_some (Name n ∷ ts) k r e f = absurd (cc)
divisor_some (Fixed n ∷ ts) k r e f = absurd (cc)
divisor_some (Number n ∷ ts) k r e f = let same : n ≡ k = cc in let g : (n == 0) ≡ false = ap (λ z. z == 0) same ∙ f in rw g e

pub divisor_zero : (ts : List Word) (k : ℕ) (r : List Word) → number_read ts ≡ Done k r → (k == 0) ≡ true → divisor_read ts ≡ Bad Syntax ts
divisor_zero [] k r e f = absurd (cc)
divisor_zero (Name n ∷ ts) k r e f = absurd (cc)
divisor_zero (Fixed n ∷ ts) k r e f = absurd (cc)
divisor_zero (Number n ∷ ts) k r e f = let same : n ≡ k = cc in let g : (n == 0) ≡ true = ap (λ z. z == 0) same ∙ f in rw g refl

pub divisor_none : (ts : List Word) → number_read ts ≡ Bad Syntax ts → divisor_read ts ≡ Bad Syntax ts
divisor_none [] e = refl
divisor_none (Name n ∷ ts) e = refl
divisor_none (Fixed n ∷ ts) e = refl
divisor_none (Number n ∷ ts) e = absurd (cc)

pub division_some : (ts : List Word) (k : ℕ) (r : List Word) → divisor_read ts ≡ Done k r → is_division ts ≡ starts (is kind.Bar) r
division_some [] k r e = absurd (cc)
division_some (Name n ∷ ts) k r e = absurd (cc)
division_some (Fixed n ∷ ts) k r e = absurd (cc)
division_some (Number n ∷ ts) k r e = at (n == 0) e
  where
    at : (b : Bool) → given (cond b None (Some n)) (Number n) ts ≡ Done k r → (not b && starts (is kind.Bar) ts) ≡ starts (is kind.Bar) r
    at true f = absurd (cc)
    at false f = let same : ts ≡ r = cc in ap (starts (is kind.Bar)) same

pub division_none : (ts : List Word) → divisor_read ts ≡ Bad Syntax ts → is_division ts ≡ false
division_none [] e = refl
division_none (Name n ∷ ts) e = refl
division_none (Fixed n ∷ ts) e = refl
division_none (Number n ∷ ts) e = at (n == 0) e
  where
    at : (b : Bool) → given (cond b None (Some n)) (Number n) ts ≡ Bad Syntax (Number n ∷ ts) → (not b && starts (is kind.Bar) ts) ≡ false
    at true f = refl
    at false f = absurd (cc)

-- ---- what the test says of each

abbrev pub divides_form : Shape (ℕ × (Unit {0} × Lin))
divides_form = seq divisor (seq (word kind.Bar) (lin_form true))

abbrev rel_shape : Shape Rel
rel_shape = record { mark = rel_marks; fits = λ _. true; first = []; is_empty = false; goes_on = []; some = rel.Eq }

pub left_of : (x : ℕ × (Unit {0} × Lin)) (r : List Word) → divides_form.fits x ≡ true → is_division (spell divides_form x ++ r) ≡ true
left_of (k, (u, l)) r f = and_both _ _ (and_left _ _ f) refl

and_none : (b : Bool) → (b && false) ≡ false
and_none true = refl
and_none false = refl

two_false : (w : Word) (ts : List Word) → starts bars ts ≡ false → is_division (w ∷ ts) ≡ false
two_false w ts e = rw e (and_none (is_divisor w))

layer_second : (x : TermLayer) (r : List Word) → starts bars r ≡ false → is_division (bare (starred ((layer_form true).mark x)) ++ r) ≡ false
layer_second (inl (k, inl (s, t))) r e = and_none (not (k == 0))
layer_second (inl (k, inr u)) r e = two_false (Number k) r e
layer_second (inr (inl n)) r e = refl
layer_second (inr (inr (o, (l, c)))) r e = refl

term_second : (t : Term) (r : List Word) → starts bars r ≡ false → is_division (bare (term_marks true t) ++ r) ≡ false
term_second t r e = subst (λ (z : List Mark). is_division (bare z ++ r) ≡ false) (marks_of true t) (layer_second (from_layer (out-Term t)) r e)

further_ends : (ts : List (Sign × Term)) (r : List Word) → starts bars r ≡ false → starts bars (bare ((further_form true).mark ts) ++ r) ≡ false
further_ends [] r e = e
further_ends ((sign.Plus, t) ∷ ts) r e = refl
further_ends ((sign.Minus, t) ∷ ts) r e = refl

lin_second : (l : Lin) (r : List Word) → starts bars r ≡ false → is_division (bare (lin_marks true l) ++ r) ≡ false
lin_second l r e = subst (λ (z : List Mark). is_division (bare z ++ r) ≡ false) (sym (lin_mark true (l.first, l.rest)))
    (ap is_division (bare_split (term_marks true l.first) ((further_form true).mark l.rest) r) ∙ term_second l.first _ (further_ends l.rest r e))

rel_ends : (s : Rel) (ms : List Mark) (r : List Word) → starts bars (bare (rel_marks s ++ ms) ++ r) ≡ false
rel_ends rel.Eq ms r = refl
rel_ends rel.Ne ms r = refl
rel_ends rel.Lt ms r = refl
rel_ends rel.Le ms r = refl
rel_ends rel.Gt ms r = refl
rel_ends rel.Ge ms r = refl

pub right_of : (a : Lin) (s : Rel) (b : Lin) (r : List Word) → is_division (bare (lin_marks true a ++ (rel_marks s ++ lin_marks true b)) ++ r) ≡ false
right_of a s b r = ap is_division (bare_split (lin_marks true a) (rel_marks s ++ lin_marks true b) r) ∙ lin_second a _ (rel_ends s (lin_marks true b) r)

-- ---- neither is wrong at a divisor

pub taken_divides : (sum : Reader Lin) (x : Word) → is_divisor x ≡ true → seq_read divisor_read (seq_read (fixed_read kind.Bar) sum) (x ∷ []) ≡ Bad Syntax (x ∷ []) → ⊥
taken_divides sum (Name n) e h = absurd (cc)
taken_divides sum (Fixed n) e h = absurd (cc)
taken_divides sum (Number n) e h = at (divisor_there n e) h
  where
    at : get_divisor (Number n) ≡ Some n → seq_read divisor_read (seq_read (fixed_read kind.Bar) sum) (Number n ∷ []) ≡ Bad Syntax (Number n ∷ []) → ⊥
    at f g = let k : seq_read divisor_read (seq_read (fixed_read kind.Bar) sum) (Number n ∷ []) ≡ Bad Syntax [] = rw f refl in cc

pub taken_related : (d : ℕ) (x : Word) → is_divisor x ≡ true → seq_read (lin_read true d) (seq_read rel_read (lin_read true d)) (x ∷ []) ≡ Bad Syntax (x ∷ []) → ⊥
taken_related d (Name n) e h = absurd (cc)
taken_related d (Fixed n) e h = absurd (cc)
taken_related zero (Number n) e h = cc
taken_related (suc d) (Number n) e h = cc
