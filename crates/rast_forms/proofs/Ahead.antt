-- One part or another, by the first two tokens.
use Rattle.std.proofs.Common.{◌≡◌, ℕ, suc, max, ◌<◌, ◌≤◌, Bool, true, false, ◌&&◌, cond, List, [], ◌∷◌, ◌++◌, ap, ap₂, sym, ◌∙◌, refl, subst, ◌⊎◌, inl, inr, arith, append_assoc}
use Rattle.rast_forms.specs.Words.{Word, key_of, is_in, starts}
use Rattle.rast_forms.specs.Marks.{Mark, bare, highest, IsShallow}
use Rattle.rast_forms.specs.Reading.{Why, Syntax, TooDeep, Read, Done, Bad, Reader, ◌>>=◌, either_read, ahead_read, two_test}
use Rattle.rast_forms.proofs.Sets.{or_left, or_right, is_in-append, starts-append, starts_same}
use Rattle.rast_forms.proofs.Forms.{Form, spell, Comes, and_then, Begins, IsDeepAt, Found, Fails, Right, Exact, goes_on_both, goes_on_second}
use Rattle.rast_forms.proofs.Sequence.{or_first, or_second}
use Rattle.rast_forms.proofs.Either.{alt, alt_mark, alt_fits}

-- the test looks at two tokens alone
two_same : (one : Word → Bool) (second : List ℕ) (x : Word) (u : List Word) (y : Word) (v w : List Word) → two_test one second (x ∷ (u ++ y ∷ v)) ≡ two_test one second (x ∷ (u ++ y ∷ w))
two_same one second x u y v w = ap (λ b. one x && b) (starts_same second u y v w)

module _ {X Y : Type 0} (bar : List ℕ) (d : ℕ) (one : Word → Bool) (second : List ℕ) (P : Form X) (Q : Form Y) (p : Reader X) (q : Reader Y) (E : Exact bar d P p) (F : Exact bar d Q q)
    (solid : P.is_empty ≡ false) (solid' : Q.is_empty ≡ false)
    (left : (x : X) (r : List Word) → P.fits x ≡ true → two_test one second (spell P x ++ r) ≡ true)
    (right : (y : Y) (r : List Word) → Q.fits y ≡ true → starts Q.goes_on r ≡ false → two_test one second (spell Q y ++ r) ≡ false)
    (taken : (x : Word) → one x ≡ true → p (x ∷ []) ≡ Bad Syntax (x ∷ []) → ⊥)
    (taken' : (x : Word) → one x ≡ true → q (x ∷ []) ≡ Bad Syntax (x ∷ []) → ⊥) where
  goes_on_in : (r : List Word) → starts (alt P Q).goes_on r ≡ false → starts Q.goes_on r ≡ false
  goes_on_in r g = at Q.is_empty solid' (or_right (starts P.goes_on r) _ (sym (starts-append P.goes_on _ r) ∙ g))
    where
      at : (b : Bool) → b ≡ false → starts (goes_on_both P.first b Q.goes_on) r ≡ false → starts Q.goes_on r ≡ false
      at true e h = absurd (cc)
      at false e h = h

  ahead_complete : (s : X ⊎ Y) (r : List Word) → alt_fits P Q s ≡ true → starts (alt P Q).goes_on r ≡ false →
      Comes d (highest (alt_mark P Q s)) s r (ahead_read (two_test one second) p q (bare (alt_mark P Q s) ++ r))
  ahead_complete (inl x) r f g = rw (left x r f) (
      and_then d (highest (P.mark x)) (highest (P.mark x)) x r (inl x) r (p (spell P x ++ r)) _ (omega arith)
      (E.complete x r f (or_left _ _ (sym (starts-append P.goes_on _ r) ∙ g))) (inl refl))
  ahead_complete (inr y) r f g = rw (right y r f (goes_on_in r g)) (
      and_then d (highest (Q.mark y)) (highest (Q.mark y)) y r (inr y) r (q (spell Q y ++ r)) _ (omega arith) (F.complete y r f (goes_on_in r g)) (inl refl))

  -- the test of tokens of which one at least is kept before the one after which they change
  stays : (ts a u : List Word) (z : Word) (v w r : List Word) (b : Bool) (first : List ℕ) (empty : Bool) → empty ≡ false → Begins first empty a → ts ≡ a ++ r → r ≡ u ++ z ∷ v → two_test one second ts ≡ b →
      two_test one second (a ++ (u ++ z ∷ w)) ≡ b
  stays ts [] u z v w r b first empty e g s t h = absurd (cc)
  stays ts (x ∷ a) u z v w r b first empty e g s t h = rw (← append_assoc a u (z ∷ w)) (two_same one second x (a ++ u) z w v ∙ ap (two_test one second) (ap (λ k. x ∷ k) (append_assoc a u (z ∷ v)) ∙ sym (s ∙ ap (λ k. (x ∷ a) ++ k) t)) ∙ h)

  -- the same where a reader is wrong at the token where they change
  stays_wrong : {Z : Type 0} (n : Reader Z) (taken_n : (x : Word) → one x ≡ true → n (x ∷ []) ≡ Bad Syntax (x ∷ []) → ⊥) (ts used r : List Word) (z : Word) (v w : List Word) (b : Bool) →
      ((x : Word) (v w : List Word) → r ≡ x ∷ v → n (used ++ x ∷ w) ≡ Bad Syntax (x ∷ w)) → ts ≡ used ++ r → r ≡ z ∷ v → two_test one second ts ≡ b → two_test one second (used ++ z ∷ w) ≡ b
  stays_wrong n taken_n ts [] r z v w b local s t h = at (one z) refl
    where
      at : (c : Bool) → one z ≡ c → two_test one second (z ∷ w) ≡ b
      at true e = absurd (taken_n z e (local z v [] t))
      at false e = rw e (sym (ap (λ k. k && starts second v) e) ∙ sym (ap (two_test one second) (s ∙ t)) ∙ h)
  stays_wrong n taken_n ts (x ∷ used) r z v w b local s t h = two_same one second x used z w v ∙ ap (two_test one second) (sym (s ∙ ap (λ k. (x ∷ used) ++ k) t)) ∙ h

  ahead_left : (ts : List Word) → two_test one second ts ≡ true → (m : Read X) → Right bar d P p ts m → Right bar d (alt P Q) (ahead_read (two_test one second) p q) ts (m >>= λ x rest. Done (inl x) rest)
  ahead_left ts t (Done x r) f = record {
    split = f.split;
    fits = f.fits;
    low = f.low;
    local = λ u z v w e. rw (stays ts (spell P x) u z v w r true P.first P.is_empty solid (E.begins x f.fits) f.split e t) (ap (λ m. m >>= λ x rest. Done (inl x) rest) (f.local u z v w e));
  }
  ahead_left ts t (Bad why r) f = record {
    used = f.used;
    split = f.split;
    local = λ s z v w e. rw (stays_wrong p taken ts f.used r z v w true (f.local s) f.split e t) (ap (λ m. m >>= λ x rest. Done (inl x) rest) (f.local s z v w e));
    tree = inl f.tree;
    fits = f.fits;
    seen = f.seen;
    more = f.more;
    seen_is = f.seen_is;
    viable = f.viable;
    shallow = f.shallow;
    deep = f.deep;
  }

  ahead_right : (ts : List Word) → two_test one second ts ≡ false → (m : Read Y) → Right bar d Q q ts m → Right bar d (alt P Q) (ahead_read (two_test one second) p q) ts (m >>= λ y rest. Done (inr y) rest)
  ahead_right ts t (Done y r) f = record {
    split = f.split;
    fits = f.fits;
    low = f.low;
    local = λ u z v w e. rw (stays ts (spell Q y) u z v w r false Q.first Q.is_empty solid' (F.begins y f.fits) f.split e t) (ap (λ m. m >>= λ y rest. Done (inr y) rest) (f.local u z v w e));
  }
  ahead_right ts t (Bad why r) f = record {
    used = f.used;
    split = f.split;
    local = λ s z v w e. rw (stays_wrong q taken' ts f.used r z v w false (f.local s) f.split e t) (ap (λ m. m >>= λ y rest. Done (inr y) rest) (f.local s z v w e));
    tree = inr f.tree;
    fits = f.fits;
    seen = f.seen;
    more = f.more;
    seen_is = f.seen_is;
    viable = f.viable;
    shallow = f.shallow;
    deep = f.deep;
  }

  ahead_sound : (ts : List Word) (b : Bool) → two_test one second ts ≡ b → Right bar d (alt P Q) (ahead_read (two_test one second) p q) ts (either_read p q b ts)
  ahead_sound ts true t = ahead_left ts t (p ts) (E.sound ts)
  ahead_sound ts false t = ahead_right ts t (q ts) (F.sound ts)

  first_left : (ws : List Word) → Begins P.first P.is_empty ws → Begins (P.first ++ Q.first) Q.is_empty ws
  first_left [] b = absurd (cc)
  first_left (w ∷ ws) b = is_in-append P.first Q.first (key_of w) ∙ or_first _ _ b

  first_right : (ws : List Word) → Begins Q.first Q.is_empty ws → Begins (P.first ++ Q.first) Q.is_empty ws
  first_right [] b = b
  first_right (w ∷ ws) b = is_in-append P.first Q.first (key_of w) ∙ or_second _ _ b

  ahead_begins : (s : X ⊎ Y) → alt_fits P Q s ≡ true → Begins (P.first ++ Q.first) Q.is_empty (bare (alt_mark P Q s))
  ahead_begins (inl x) f = first_left (spell P x) (E.begins x f)
  ahead_begins (inr y) f = first_right (spell Q y) (F.begins y f)

  pub ahead_exact : Exact bar d (alt P Q) (ahead_read (two_test one second) p q)
  ahead_exact = record { complete = ahead_complete; sound = λ ts. ahead_sound ts (two_test one second ts) refl; begins = ahead_begins; some_fits = E.some_fits }
