-- Choices of readers, and readers that agree.
use Rattle.std.proofs.Common.{◌≡◌, ℕ, Bool, true, false, cond, List, refl, ◌⊎◌, inl, inr}
use Rattle.rast_forms.specs.Words.{Word, starts}
use Rattle.rast_forms.specs.Reading.{Read, Done, Bad, Reader, ◌>>=◌, either_read, alt_read, as_read, choice_read, ahead_read}
use Rattle.rast_parse.specs.FormulaReading.{test_read}
use mathlib.Core.Path.{fun_ext}

module _ {X Y T : Type 0} (to : X ⊎ Y → T) (p : Reader X) (q : Reader Y) where
  left : (m : Read X) → ((m >>= λ x rest. Done (inl x) rest) >>= λ x rest. Done (to x) rest) ≡ (m >>= λ x rest. Done (to (inl x)) rest)
  left (Done x r) = refl
  left (Bad why r) = refl

  right : (m : Read Y) → ((m >>= λ x rest. Done (inr x) rest) >>= λ x rest. Done (to x) rest) ≡ (m >>= λ x rest. Done (to (inr x)) rest)
  right (Done x r) = refl
  right (Bad why r) = refl

  at : (b : Bool) (ts : List Word) → (either_read p q b ts >>= λ x rest. Done (to x) rest) ≡ cond b (as_read (λ x. to (inl x)) p ts) (as_read (λ y. to (inr y)) q ts)
  at true ts = left (p ts)
  at false ts = right (q ts)

pub alt_choice : {X Y T : Type 0} (to : X ⊎ Y → T) (first : List ℕ) (p : Reader X) (q : Reader Y) →
    as_read to (alt_read first p q) ≡ choice_read first (as_read (λ x. to (inl x)) p) (as_read (λ y. to (inr y)) q)
alt_choice to first p q = fun_ext (λ ts. at to p q (starts first ts) ts)

pub ahead_choice : {X Y T : Type 0} (to : X ⊎ Y → T) (test : List Word → Bool) (p : Reader X) (q : Reader Y) →
    as_read to (ahead_read test p q) ≡ test_read test (as_read (λ x. to (inl x)) p) (as_read (λ y. to (inr y)) q)
ahead_choice to test p q = fun_ext (λ ts. at to p q (test ts) ts)
