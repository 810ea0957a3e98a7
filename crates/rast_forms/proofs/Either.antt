-- One part or another, by the first token.
use Rattle.std.proofs.Common.{◌≡◌, ℕ, suc, max, ◌<◌, ◌≤◌, Bool, true, false, ◌&&◌, ◌||◌, cond, List, [], ◌∷◌, ◌++◌, ap, ap₂, sym, ◌∙◌, refl, subst, ◌⊎◌, inl, inr, arith, append_assoc}
use Rattle.rast_forms.specs.Words.{Word, key_of, is_in, starts, is_apart}
use Rattle.rast_forms.specs.Marks.{Mark, bare, highest, IsShallow}
use Rattle.rast_forms.specs.Reading.{Why, Syntax, TooDeep, Read, Done, Bad, Reader, ◌>>=◌, alt_read, either_read}
use Rattle.rast_forms.proofs.Sets.{or_left, or_right, is_in-append, starts-append, starts_same}
use Rattle.rast_forms.proofs.Forms.{Form, spell, Comes, and_then, Begins, IsDeepAt, Found, Fails, Right, Exact, goes_on_both, goes_on_second, ends_before}
use Rattle.rast_forms.proofs.Sequence.{or_first, or_second}

abbrev pub alt_mark : {X Y : Type 0} → Form X → Form Y → X ⊎ Y → List Mark
alt_mark P Q (inl x) = P.mark x
alt_mark P Q (inr y) = Q.mark y

abbrev pub alt_fits : {X Y : Type 0} → Form X → Form Y → X ⊎ Y → Bool
alt_fits P Q (inl x) = P.fits x
alt_fits P Q (inr y) = Q.fits y

abbrev pub alt : {X Y : Type 0} → Form X → Form Y → Form (X ⊎ Y)
alt P Q = record {
  mark = alt_mark P Q;
  fits = alt_fits P Q;
  first = P.first ++ Q.first;
  is_empty = Q.is_empty;
  goes_on = P.goes_on ++ goes_on_both P.first Q.is_empty Q.goes_on;
  some = inl P.some;
}

-- a part that has a first token starts with one of its kinds
pub starts_true : (first : List ℕ) (empty : Bool) (ws r : List Word) → empty ≡ false → Begins first empty ws → starts first (ws ++ r) ≡ true
starts_true first empty [] r e b = absurd (cc)
starts_true first empty (w ∷ ws) r e b = b

module _ {X Y : Type 0} (bar : List ℕ) (d : ℕ) (P : Form X) (Q : Form Y) (p : Reader X) (q : Reader Y) (E : Exact bar d P p) (F : Exact bar d Q q)
    (solid : P.is_empty ≡ false) (apart : is_apart P.first Q.first ≡ true) where
  alt_complete : (s : X ⊎ Y) (r : List Word) → alt_fits P Q s ≡ true → starts (alt P Q).goes_on r ≡ false →
      Comes d (highest (alt_mark P Q s)) s r (alt_read P.first p q (bare (alt_mark P Q s) ++ r))
  alt_complete (inl x) r f g = rw (starts_true P.first P.is_empty (spell P x) r solid (E.begins x f)) (
      and_then d (highest (P.mark x)) (highest (P.mark x)) x r (inl x) r (p (spell P x ++ r)) _ (omega arith)
      (E.complete x r f (or_left _ _ (sym (starts-append P.goes_on _ r) ∙ g))) (inl refl))
  alt_complete (inr y) r f g = let h : starts (goes_on_both P.first Q.is_empty Q.goes_on) r ≡ false = or_right (starts P.goes_on r) _ (sym (starts-append P.goes_on _ r) ∙ g) in
      rw (ends_before P.first Q.first Q.is_empty Q.goes_on (spell Q y) r apart (F.begins y f) h) (
      and_then d (highest (Q.mark y)) (highest (Q.mark y)) y r (inr y) r (q (spell Q y ++ r)) _ (omega arith)
      (F.complete y r f (goes_on_second P.first Q.is_empty Q.goes_on r h)) (inl refl))

  -- which of the two it is stays, whatever stands behind the token after it
  stays : (ts a u : List Word) (z : Word) (v w r : List Word) (b : Bool) → ts ≡ a ++ r → r ≡ u ++ z ∷ v → starts P.first ts ≡ b → starts P.first (a ++ (u ++ z ∷ w)) ≡ b
  stays ts a u z v w r b e f t = rw (← append_assoc a u (z ∷ w)) (starts_same P.first (a ++ u) z w v ∙ ap (starts P.first) (append_assoc a u (z ∷ v) ∙ sym (e ∙ ap (λ k. a ++ k) f)) ∙ t)

  alt_left : (ts : List Word) → starts P.first ts ≡ true → (m : Read X) → Right bar d P p ts m → Right bar d (alt P Q) (alt_read P.first p q) ts (m >>= λ x rest. Done (inl x) rest)
  alt_left ts t (Done x r) f = record {
    split = f.split;
    fits = f.fits;
    low = f.low;
    local = λ u z v w e. rw (stays ts (spell P x) u z v w r true f.split e t) (ap (λ m. m >>= λ x rest. Done (inl x) rest) (f.local u z v w e));
  }
  alt_left ts t (Bad why r) f = record {
    used = f.used;
    split = f.split;
    local = λ s z v w e. rw (stays ts f.used [] z v w r true f.split e t) (ap (λ m. m >>= λ x rest. Done (inl x) rest) (f.local s z v w e));
    tree = inl f.tree;
    fits = f.fits;
    seen = f.seen;
    more = f.more;
    seen_is = f.seen_is;
    viable = f.viable;
    shallow = f.shallow;
    deep = f.deep;
  }

  alt_right : (ts : List Word) → starts P.first ts ≡ false → (m : Read Y) → Right bar d Q q ts m → Right bar d (alt P Q) (alt_read P.first p q) ts (m >>= λ y rest. Done (inr y) rest)
  alt_right ts t (Done y r) f = record {
    split = f.split;
    fits = f.fits;
    low = f.low;
    local = λ u z v w e. rw (stays ts (spell Q y) u z v w r false f.split e t) (ap (λ m. m >>= λ y rest. Done (inr y) rest) (f.local u z v w e));
  }
  alt_right ts t (Bad why r) f = record {
    used = f.used;
    split = f.split;
    local = λ s z v w e. rw (stays ts f.used [] z v w r false f.split e t) (ap (λ m. m >>= λ y rest. Done (inr y) rest) (f.local s z v w e));
    tree = inr f.tree;
    fits = f.fits;
    seen = f.seen;
    more = f.more;
    seen_is = f.seen_is;
    viable = f.viable;
    shallow = f.shallow;
    deep = f.deep;
  }

  alt_sound : (ts : List Word) (b : Bool) → starts P.first ts ≡ b → Right bar d (alt P Q) (alt_read P.first p q) ts (either_read p q b ts)
  alt_sound ts true t = alt_left ts t (p ts) (E.sound ts)
  alt_sound ts false t = alt_right ts t (q ts) (F.sound ts)

  first_left : (ws : List Word) → Begins P.first P.is_empty ws → Begins (P.first ++ Q.first) Q.is_empty ws
  first_left [] b = absurd (cc)
  first_left (w ∷ ws) b = is_in-append P.first Q.first (key_of w) ∙ or_first _ _ b

  first_right : (ws : List Word) → Begins Q.first Q.is_empty ws → Begins (P.first ++ Q.first) Q.is_empty ws
  first_right [] b = b
  first_right (w ∷ ws) b = is_in-append P.first Q.first (key_of w) ∙ or_second _ _ b

  alt_begins : (s : X ⊎ Y) → alt_fits P Q s ≡ true → Begins (P.first ++ Q.first) Q.is_empty (bare (alt_mark P Q s))
  alt_begins (inl x) f = first_left (spell P x) (E.begins x f)
  alt_begins (inr y) f = first_right (spell Q y) (F.begins y f)

  pub alt_exact : Exact bar d (alt P Q) (alt_read P.first p q)
  alt_exact = record { complete = alt_complete; sound = λ ts. alt_sound ts (starts P.first ts) refl; begins = alt_begins; some_fits = E.some_fits }
