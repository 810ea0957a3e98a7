-- Readers of several parts under another type.
use Rattle.std.proofs.Common.{◌≡◌, ℕ, suc, Bool, true, false, cond, ◌&&◌, List, [], ◌∷◌, ◌++◌, refl}
use Rattle.rast_forms.specs.Words.{Fixed, is_within, is_apart}
use Rattle.rast_forms.specs.Marks.{plain}
use Rattle.rast_forms.specs.Reading.{Read, Done, Bad, Reader, ◌>>=◌, one_read, get_fixed, seq_read, as_read}
use Rattle.rast_forms.proofs.Forms.{Form, Exact}
use Rattle.rast_forms.proofs.Sets.{within_refl}
use Rattle.rast_forms.proofs.One.{fixed, fixed_exact}
use Rattle.rast_forms.proofs.Sequence.{seq, seq_exact}
use Rattle.rast_forms.proofs.Shapes.{shape_exact}
use Rattle.rast_ast.specs.declared.kind.Kind.{Kind}
use Rattle.rast_parse.specs.LinearReading.{fixed_read}
use Rattle.rast_parse.specs.FormulaReading.{behind_kind}
use Rattle.rast_parse.specs.TypeReading.{then_read}
use Rattle.rast_parse.proofs.Trees.{and_true}
use mathlib.Core.Path.{fun_ext}

-- what was read under another type, and behind a part
abbrev mapped : {X T : Type 0} → (X → T) → Read X → Read T
mapped to m = m >>= λ x rest. Done (to x) rest

abbrev paired : {X Y : Type 0} → X → Read Y → Read (X × Y)
paired x m = m >>= λ y rest. Done (x, y) rest

pub map_first : {X Y Z T : Type 0} (f : X → Z) (g : Z × Y → T) (p : Reader X) (q : Reader Y) → as_read (λ x. g (f x.0, x.1)) (seq_read p q) ≡ as_read g (seq_read (as_read f p) q)
map_first {X} {Y} {Z} {T} f g p q = fun_ext (λ ts. first (p ts))
  where
    second : (x : X) (m : Read Y) → mapped (λ (s : X × Y). g (f s.0, s.1)) (paired x m) ≡ mapped g (paired (f x) m)
    second x (Done y r) = refl
    second x (Bad why r) = refl

    first : (m : Read X) → mapped (λ (s : X × Y). g (f s.0, s.1)) (m >>= λ x more. paired x (q more)) ≡ mapped g (mapped f m >>= λ z more. paired z (q more))
    first (Done x r) = second x (q r)
    first (Bad why r) = refl

pub then_fused : {X Y T : Type 0} (to : X × Y → T) (p : Reader X) (q : Reader Y) → as_read to (seq_read p q) ≡ then_read p (λ x. as_read (λ y. to (x, y)) q)
then_fused {X} {Y} {T} to p q = fun_ext (λ ts. first (p ts))
  where
    second : (x : X) (m : Read Y) → ((m >>= λ y rest. Done (x, y) rest) >>= λ s rest. Done (to s) rest) ≡ (m >>= λ y rest. Done (to (x, y)) rest)
    second x (Done y r) = refl
    second x (Bad why r) = refl

    first : (m : Read X) → ((m >>= λ x more. q more >>= λ y rest. Done (x, y) rest) >>= λ s rest. Done (to s) rest) ≡ (m >>= λ x more. q more >>= λ y rest. Done (to (x, y)) rest)
    first (Done x r) = second x (q r)
    first (Bad why r) = refl

pub then_mapped : {X Z T : Type 0} (f : X → Z) (p : Reader X) (k : Z → Reader T) → then_read p (λ x. k (f x)) ≡ then_read (as_read f p) k
then_mapped {X} {Z} {T} f p k = fun_ext (λ ts. first (p ts))
  where
    first : (m : Read X) → (m >>= λ x more. k (f x) more) ≡ ((m >>= λ x rest. Done (f x) rest) >>= λ x more. k x more)
    first (Done x r) = refl
    first (Bad why r) = refl

pub behind_fused : {X T : Type 0} (k : Kind) (to : X → T) (p : Reader X) → as_read to (behind_kind k p) ≡ behind_kind k (as_read to p)
behind_fused {X} {T} k to p = fun_ext (λ ts. first (fixed_read k ts))
  where
    second : (u : Unit {0}) (m : Read X) → mapped to (mapped (λ (s : Unit {0} × X). s.1) (paired u m)) ≡ mapped (λ (s : Unit {0} × T). s.1) (paired u (mapped to m))
    second u (Done y r) = refl
    second u (Bad why r) = refl

    first : (m : Read (Unit {0})) → mapped to (mapped (λ (s : Unit {0} × X). s.1) (m >>= λ u more. paired u (p more))) ≡ mapped (λ (s : Unit {0} × T). s.1) (m >>= λ u more. paired u (mapped to (p more)))
    first (Done u r) = second u (p r)
    first (Bad why r) = refl

-- ---- a part before a keyword or symbol

abbrev pub ending : {X : Type 0} → ℕ → Form X → Form X
ending k F = record {
  mark = λ x. F.mark x ++ (plain (Fixed k) ∷ []);
  fits = F.fits;
  first = F.first;
  is_empty = false;
  goes_on = [];
  some = F.some;
}

first_in : (b : Bool) (xs ys : List ℕ) → b ≡ false → is_within (cond b (xs ++ ys) xs) xs ≡ true
first_in true xs ys e = absurd (cc)
first_in false xs ys e = within_refl xs

none_empty : (b : Bool) → (b && false) ≡ false
none_empty true = refl
none_empty false = refl

pub ending_exact : {X : Type 0} (bar : List ℕ) (d k : ℕ) (F : Form X) (p : Reader X) → Exact bar d F p → F.is_empty ≡ false → is_apart F.goes_on (suc (suc k) ∷ []) ≡ true →
    Exact bar d (ending k F) (as_read (λ x. x.0) (seq_read p (one_read (get_fixed k))))
ending_exact bar d k F p E solid apart = shape_exact bar d (seq F (fixed k)) _ (seq_exact bar d F (fixed k) _ _ E (fixed_exact bar d k) apart)
    (ending k F) (λ x. x.0) (λ x. (x, tt)) (λ x f. refl) (λ x. refl) (λ x. and_true (F.fits x.0)) (first_in F.is_empty F.first (suc (suc k) ∷ []) solid) (none_empty F.is_empty) refl E.some_fits
