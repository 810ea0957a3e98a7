-- Any number of parts, as long as the first token says so.
use Rattle.std.proofs.Common.{◌≡◌, ℕ, zero, suc, max, ◌+◌, ◌<◌, ◌≤◌, Bool, true, false, ◌&&◌, cond, not, List, [], ◌∷◌, ◌++◌, map, length, ap, ap₂, sym, ◌∙◌, refl, subst, ◌⊎◌, inl, inr, arith, append_assoc, length-append, append-nil}
use Rattle.rast_forms.specs.Words.{Word, key_of, is_in, starts, is_apart, all_true}
use Rattle.rast_forms.specs.Marks.{Mark, bare, highest, joined, IsShallow}
use Rattle.rast_forms.specs.Reading.{Why, Syntax, TooDeep, Read, Done, Bad, Reader, ◌>>=◌, many_read, all_read}
use Rattle.rast_forms.proofs.Sets.{and_left, and_right, and_both, starts_same}
use Rattle.rast_forms.proofs.Marking.{bare-append, bare_split, highest-append, shallow_append}
use Rattle.rast_forms.proofs.Forms.{Form, spell, Comes, and_then, Begins, IsDeepAt, Found, Fails, Right, Exact, goes_on_both, goes_on_second, ends_before}
use Rattle.rast_forms.proofs.Sequence.{deep_append}
use Rattle.rast_forms.proofs.Either.{starts_true}

abbrev pub many : {X : Type 0} → Form X → Form (List X)
many P = record {
  mark = λ xs. joined (map P.mark xs);
  fits = λ xs. all_true (map P.fits xs);
  first = P.first;
  is_empty = true;
  goes_on = goes_on_both P.goes_on true P.first;
  some = [];
}

pub record FailsMany {X : Type 0} (bar : List ℕ) (d : ℕ) (why : Why) (P : Form X) (p : Reader X) (ts r : List Word) : Type 0 where
  pub used : List Word
  pub split : ts ≡ used ++ r
  pub local : why ≡ Syntax → (x : Word) (v w : List Word) (n : ℕ) → r ≡ x ∷ v → length (used ++ x ∷ w) ≤ n → many_read P.first p n (used ++ x ∷ w) ≡ Bad Syntax (x ∷ w)
  pub tree : List X
  pub fits : all_true (map P.fits tree) ≡ true
  pub seen : List Mark
  pub more : List Mark
  pub seen_is : bare seen ≡ used
  pub viable : seen ++ more ≡ joined (map P.mark tree)
  pub shallow : IsShallow bar d seen r
  pub deep : IsDeepAt bar d why r more

pub record FoundMany {X : Type 0} (d : ℕ) (P : Form X) (p : Reader X) (ts : List Word) (xs : List X) (r : List Word) : Type 0 where
  pub split : ts ≡ spell (many P) xs ++ r
  pub fits : all_true (map P.fits xs) ≡ true
  pub low : highest (joined (map P.mark xs)) ≤ d
  pub local : (u : List Word) (y : Word) (v w : List Word) (n : ℕ) → r ≡ u ++ y ∷ v → length (spell (many P) xs ++ (u ++ y ∷ w)) ≤ n → many_read P.first p n (spell (many P) xs ++ (u ++ y ∷ w)) ≡ Done xs (u ++ y ∷ w)

module _ {X : Type 0} (bar : List ℕ) (d : ℕ) (P : Form X) (p : Reader X) (E : Exact bar d P p) (solid : P.is_empty ≡ false) (apart : is_apart P.goes_on P.first ≡ true) where
  RightMany : List Word → Read (List X) → Type 0
  RightMany ts (Done xs r) = FoundMany d P p ts xs r
  RightMany ts (Bad why r) = FailsMany bar d why P p ts r

  begun : (x : X) → P.fits x ≡ true → (r : List Word) → starts P.first (spell P x ++ r) ≡ true
  begun x f r = starts_true P.first P.is_empty (spell P x) r solid (E.begins x f)

  some_word : (ws : List Word) → starts P.first ws ≡ true → 0 < length ws
  some_word [] e = absurd (cc)
  some_word (t ∷ ts) e = omega arith

  item_some : (x : X) → P.fits x ≡ true → 0 < length (spell P x)
  item_some x f = subst (λ z. 0 < length z) (append-nil (spell P x)) (some_word (spell P x ++ []) (begun x f []))

  many_begins : (xs : List X) → all_true (map P.fits xs) ≡ true → Begins P.first true (spell (many P) xs)
  many_begins [] f = refl
  many_begins (x ∷ xs) f = subst (Begins P.first true) (sym (bare-append (P.mark x) (joined (map P.mark xs)))) (at (spell P x) (E.begins x (and_left _ _ f)))
    where
      at : (ws : List Word) → Begins P.first P.is_empty ws → Begins P.first true (ws ++ spell (many P) xs)
      at [] b = absurd (cc)
      at (w ∷ ws) b = b

  -- the first item ends before the further ones
  item_ends : (xs : List X) (r : List Word) → all_true (map P.fits xs) ≡ true → starts (goes_on_both P.goes_on true P.first) r ≡ false → starts P.goes_on (spell (many P) xs ++ r) ≡ false
  item_ends xs r f g = ends_before P.goes_on P.first true P.first (spell (many P) xs) r apart (many_begins xs f) g

  -- one turn, where an item begins
  many_turn : (n : ℕ) (ts : List Word) → starts P.first ts ≡ true → many_read P.first p (suc n) ts ≡ (p ts >>= λ x more. many_read P.first p n more >>= λ xs rest. Done (x ∷ xs) rest)
  many_turn n ts e = rw e refl

  fewer : (x : X) (xs : List X) (r : List Word) (n : ℕ) → P.fits x ≡ true → length (spell (many P) (x ∷ xs) ++ r) ≤ suc n → length (spell (many P) xs ++ r) ≤ n
  fewer x xs r n f le = let e = ap length (bare_split (P.mark x) (joined (map P.mark xs)) r) in
      omega (arith, le, item_some x f, e, length-append (spell P x) (spell (many P) xs ++ r))

  many_complete : (n : ℕ) (xs : List X) (r : List Word) → length (spell (many P) xs ++ r) ≤ n → all_true (map P.fits xs) ≡ true → starts (goes_on_both P.goes_on true P.first) r ≡ false →
      Comes d (highest (joined (map P.mark xs))) xs r (many_read P.first p n (spell (many P) xs ++ r))
  many_complete zero [] r le f g = inl refl
  many_complete (suc n) [] r le f g = inl (rw (goes_on_second P.goes_on true P.first r g) refl)
  many_complete zero (x ∷ xs) r le f g = absurd (omega (arith, le, item_some x (and_left _ _ f), ap length (bare_split (P.mark x) (joined (map P.mark xs)) r), length-append (spell P x) (spell (many P) xs ++ r)))
  many_complete (suc n) (x ∷ xs) r le f g = rw (bare_split (P.mark x) (joined (map P.mark xs)) r) (rw (begun x (and_left _ _ f) (spell (many P) xs ++ r))
      (and_then d (highest (P.mark x)) (highest (P.mark x ++ joined (map P.mark xs))) x (spell (many P) xs ++ r) (x ∷ xs) r (p (spell P x ++ (spell (many P) xs ++ r))) _
      (omega (arith, highest-append (P.mark x) (joined (map P.mark xs)))) (E.complete x _ (and_left _ _ f) (item_ends xs r (and_right _ _ f) g))
      (and_then d (highest (joined (map P.mark xs))) (highest (P.mark x ++ joined (map P.mark xs))) xs r (x ∷ xs) r (many_read P.first p n (spell (many P) xs ++ r)) _
      (omega (arith, highest-append (P.mark x) (joined (map P.mark xs)))) (many_complete n xs r (fewer x xs r n (and_left _ _ f) le) (and_right _ _ f) g) (inl refl))))

  head_true : (ts u r : List Word) (x : Word) (v w : List Word) → ts ≡ u ++ r → r ≡ x ∷ v → starts P.first ts ≡ true → starts P.first (u ++ x ∷ w) ≡ true
  head_true ts u r x v w e f t = starts_same P.first u x w v ∙ ap (starts P.first) (sym (e ∙ ap (λ z. u ++ z) f)) ∙ t

  many_first : (why : Why) (ts r : List Word) → starts P.first ts ≡ true → Fails bar d why P p ts r → FailsMany bar d why P p ts r
  many_first why ts r t f = record {
    used = f.used;
    split = f.split;
    local = loc;
    tree = f.tree ∷ [];
    fits = and_both _ _ f.fits refl;
    seen = f.seen;
    more = f.more;
    seen_is = f.seen_is;
    viable = f.viable ∙ sym (append-nil (P.mark f.tree));
    shallow = f.shallow;
    deep = f.deep;
  }
    where
      loc : why ≡ Syntax → (x : Word) (v w : List Word) (n : ℕ) → r ≡ x ∷ v → length (f.used ++ x ∷ w) ≤ n → many_read P.first p n (f.used ++ x ∷ w) ≡ Bad Syntax (x ∷ w)
      loc s x v w zero e le = absurd (omega (arith, le, length-append f.used (x ∷ w)))
      loc s x v w (suc n) e le = many_turn n _ (head_true ts f.used r x v w f.split e t) ∙ ap (λ m. m >>= λ x more. many_read P.first p n more >>= λ xs rest. Done (x ∷ xs) rest) (f.local s x v w e)

  many_next : (ts : List Word) (x : X) (more : List Word) → Found d P p ts x more → (m : Read (List X)) → RightMany more m → RightMany ts (m >>= λ xs rest. Done (x ∷ xs) rest)
  unfolding RightMany
  many_next ts x more f (Done xs r) g = record {
    split = f.split ∙ ap (λ z. spell P x ++ z) g.split ∙ sym (bare_split (P.mark x) (joined (map P.mark xs)) r);
    fits = and_both _ _ f.fits g.fits;
    low = omega (arith, f.low, g.low, highest-append (P.mark x) (joined (map P.mark xs)));
    local = loc;
  }
    where
      reads : (u : List Word) (z : Word) (v w : List Word) → r ≡ u ++ z ∷ v → p (spell P x ++ (spell (many P) xs ++ (u ++ z ∷ w))) ≡ Done x (spell (many P) xs ++ (u ++ z ∷ w))
      reads u z v w e = let h : p (spell P x ++ ((spell (many P) xs ++ u) ++ z ∷ w)) ≡ Done x ((spell (many P) xs ++ u) ++ z ∷ w)
          = f.local (spell (many P) xs ++ u) z v w (g.split ∙ ap (λ k. spell (many P) xs ++ k) e ∙ sym (append_assoc (spell (many P) xs) u (z ∷ v)))
          in rw (append_assoc (spell (many P) xs) u (z ∷ w)) at h

      loc : (u : List Word) (z : Word) (v w : List Word) (n : ℕ) → r ≡ u ++ z ∷ v → length (spell (many P) (x ∷ xs) ++ (u ++ z ∷ w)) ≤ n →
          many_read P.first p n (spell (many P) (x ∷ xs) ++ (u ++ z ∷ w)) ≡ Done (x ∷ xs) (u ++ z ∷ w)
      loc u z v w zero e le = absurd (omega (arith, le, length-append (spell (many P) (x ∷ xs)) (u ++ z ∷ w), length-append u (z ∷ w)))
      loc u z v w (suc n) e le = ap (many_read P.first p (suc n)) (bare_split (P.mark x) (joined (map P.mark xs)) (u ++ z ∷ w))
          ∙ many_turn n _ (begun x f.fits (spell (many P) xs ++ (u ++ z ∷ w)))
          ∙ ap (λ m. m >>= λ x more. many_read P.first p n more >>= λ xs rest. Done (x ∷ xs) rest) (reads u z v w e)
          ∙ ap (λ m. m >>= λ xs rest. Done (x ∷ xs) rest) (g.local u z v w n e (fewer x xs (u ++ z ∷ w) n f.fits le))
  many_next ts x more f (Bad why r) g = record {
    used = spell P x ++ g.used;
    split = f.split ∙ ap (λ z. spell P x ++ z) g.split ∙ sym (append_assoc (spell P x) g.used r);
    local = loc;
    tree = x ∷ g.tree;
    fits = and_both _ _ f.fits g.fits;
    seen = P.mark x ++ g.seen;
    more = g.more;
    seen_is = bare-append (P.mark x) g.seen ∙ ap (λ z. spell P x ++ z) g.seen_is;
    viable = append_assoc (P.mark x) g.seen g.more ∙ ap (λ z. P.mark x ++ z) g.viable;
    shallow = shallow_append bar d (P.mark x) g.seen r f.low g.shallow;
    deep = g.deep;
  }
    where
      loc : why ≡ Syntax → (y : Word) (v w : List Word) (n : ℕ) → r ≡ y ∷ v → length ((spell P x ++ g.used) ++ y ∷ w) ≤ n → many_read P.first p n ((spell P x ++ g.used) ++ y ∷ w) ≡ Bad Syntax (y ∷ w)
      loc s y v w zero e le = absurd (omega (arith, le, length-append (spell P x ++ g.used) (y ∷ w)))
      loc s y v w (suc n) e le = ap (many_read P.first p (suc n)) (append_assoc (spell P x) g.used (y ∷ w))
          ∙ many_turn n _ (begun x f.fits (g.used ++ y ∷ w))
          ∙ ap (λ m. m >>= λ x more. many_read P.first p n more >>= λ xs rest. Done (x ∷ xs) rest) (f.local g.used y v w (g.split ∙ ap (λ k. g.used ++ k) e))
          ∙ ap (λ m. m >>= λ xs rest. Done (x ∷ xs) rest) (g.local s y v w n e
          (omega (arith, le, item_some x f.fits, length-append (spell P x ++ g.used) (y ∷ w), length-append (spell P x) g.used, length-append g.used (y ∷ w))))

  many_then : (n : ℕ) (ts : List Word) → starts P.first ts ≡ true → length ts ≤ suc n → ((us : List Word) → length us ≤ n → RightMany us (many_read P.first p n us)) → (m : Read X) → Right bar d P p ts m →
      RightMany ts (m >>= λ x more. many_read P.first p n more >>= λ xs rest. Done (x ∷ xs) rest)
  unfolding RightMany
  many_then n ts t le IH (Done x more) f = many_next ts x more f (many_read P.first p n more) (IH more (omega (arith, le, item_some x f.fits, ap length f.split, length-append (spell P x) more)))
  many_then n ts t le IH (Bad why r) f = many_first why ts r t f

  many_none : (ts : List Word) → starts P.first ts ≡ false → FoundMany d P p ts [] ts
  many_none ts e = record { split = refl; fits = refl; low = omega arith; local = loc }
    where
      loc : (u : List Word) (y : Word) (v w : List Word) (n : ℕ) → ts ≡ u ++ y ∷ v → length (u ++ y ∷ w) ≤ n → many_read P.first p n (u ++ y ∷ w) ≡ Done [] (u ++ y ∷ w)
      loc u y v w zero f le = refl
      loc u y v w (suc n) f le = rw (starts_same P.first u y w v ∙ ap (starts P.first) (sym f) ∙ e) refl

  many_by : (n : ℕ) (ts : List Word) → length ts ≤ suc n → ((us : List Word) → length us ≤ n → RightMany us (many_read P.first p n us)) → (b : Bool) → starts P.first ts ≡ b →
      RightMany ts (cond b (p ts >>= λ x more. many_read P.first p n more >>= λ xs rest. Done (x ∷ xs) rest) (Done [] ts))
  unfolding RightMany
  many_by n ts le IH true e = many_then n ts e le IH (p ts) (E.sound ts)
  many_by n ts le IH false e = many_none ts e

  many_sound : (n : ℕ) (ts : List Word) → length ts ≤ n → RightMany ts (many_read P.first p n ts)
  unfolding RightMany
  many_sound zero [] le = many_none [] refl
  many_sound zero (t ∷ ts) le = absurd (omega (arith, le))
  many_sound (suc n) ts le = many_by n ts le (many_sound n) (starts P.first ts) refl

  -- with as many turns as there are tokens
  as_many : (ts : List Word) (m : Read (List X)) → RightMany ts m → Right bar d (many P) (all_read P.first p) ts m
  unfolding RightMany
  as_many ts (Done xs r) f = record { split = f.split; fits = f.fits; low = f.low; local = λ u y v w e. f.local u y v w (length (spell (many P) xs ++ (u ++ y ∷ w))) e (omega arith) }
  as_many ts (Bad why r) f = record {
    used = f.used;
    split = f.split;
    local = λ s x v w e. f.local s x v w (length (f.used ++ x ∷ w)) e (omega arith);
    tree = f.tree;
    fits = f.fits;
    seen = f.seen;
    more = f.more;
    seen_is = f.seen_is;
    viable = f.viable;
    shallow = f.shallow;
    deep = f.deep;
  }

  pub many_exact : Exact bar d (many P) (all_read P.first p)
  many_exact = record {
    complete = λ xs r f g. many_complete (length (spell (many P) xs ++ r)) xs r (omega arith) f g;
    sound = λ ts. as_many ts (many_read P.first p (length ts) ts) (many_sound (length ts) ts (omega arith));
    begins = many_begins;
    some_fits = refl;
  }
