-- A part behind a keyword or symbol, and one between two.
use Rattle.std.proofs.Common.{◌≡◌, ℕ, suc, Bool, true, false, ◌&&◌, List, [], ◌∷◌, ◌++◌, ap, sym, ◌∙◌, refl}
use Rattle.rast_forms.specs.Words.{Word, Fixed, is_apart, is_within}
use Rattle.rast_forms.specs.Marks.{Mark, plain}
use Rattle.rast_forms.specs.Reading.{Reader, one_read, get_fixed, seq_read, as_read}
use Rattle.rast_forms.proofs.Forms.{Form, Exact, goes_on_both}
use Rattle.rast_forms.proofs.Sets.{within_refl}
use Rattle.rast_forms.proofs.One.{fixed, fixed_exact}
use Rattle.rast_forms.proofs.Sequence.{seq, seq_exact}
use Rattle.rast_forms.proofs.Shapes.{shape_exact}

abbrev pub behind : {X : Type 0} → ℕ → Form X → Form X
behind k F = record {
  mark = λ x. (plain (Fixed k) ∷ []) ++ F.mark x;
  fits = F.fits;
  first = suc (suc k) ∷ [];
  is_empty = false;
  goes_on = (seq (fixed k) F).goes_on;
  some = F.some;
}

abbrev pub behind_read : {X : Type 0} → ℕ → Reader X → Reader X
behind_read k p = as_read (λ x. x.1) (seq_read (one_read (get_fixed k)) p)

pub behind_exact : {X : Type 0} (bar : List ℕ) (d k : ℕ) (F : Form X) (p : Reader X) → Exact bar d F p → Exact bar d (behind k F) (behind_read k p)
behind_exact bar d k F p E = shape_exact bar d (seq (fixed k) F) _ (seq_exact bar d (fixed k) F _ _ (fixed_exact bar d k) E refl)
    (behind k F) (λ x. x.1) (λ x. (tt, x)) (λ x f. refl) (λ x. refl) (λ x. refl) (within_refl (suc (suc k) ∷ [])) refl (within_refl (seq (fixed k) F).goes_on) E.some_fits

abbrev pub between : {X : Type 0} → ℕ → ℕ → Form X → Form X
between j k F = record {
  mark = λ x. (plain (Fixed j) ∷ []) ++ (F.mark x ++ (plain (Fixed k) ∷ []));
  fits = F.fits;
  first = suc (suc j) ∷ [];
  is_empty = false;
  goes_on = [];
  some = F.some;
}

abbrev pub between_read : {X : Type 0} → ℕ → ℕ → Reader X → Reader X
between_read j k p = as_read (λ x. x.1.0) (seq_read (one_read (get_fixed j)) (seq_read p (one_read (get_fixed k))))

and_true : (b : Bool) → b ≡ (b && true)
and_true true = refl
and_true false = refl

goes_none : (b : Bool) → is_within (goes_on_both [] (b && false) []) [] ≡ true
goes_none true = refl
goes_none false = refl

pub between_exact : {X : Type 0} (bar : List ℕ) (d j k : ℕ) (F : Form X) (p : Reader X) → Exact bar d F p → is_apart F.goes_on (suc (suc k) ∷ []) ≡ true → Exact bar d (between j k F) (between_read j k p)
between_exact bar d j k F p E apart = shape_exact bar d (seq (fixed j) (seq F (fixed k))) _
    (seq_exact bar d (fixed j) (seq F (fixed k)) _ _ (fixed_exact bar d j) (seq_exact bar d F (fixed k) _ _ E (fixed_exact bar d k) apart) refl)
    (between j k F) (λ x. x.1.0) (λ x. (tt, (x, tt))) (λ x f. refl) (λ x. refl) (λ x. and_true (F.fits x.1.0)) (within_refl (suc (suc j) ∷ [])) refl (goes_none F.is_empty) E.some_fits
