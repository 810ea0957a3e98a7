-- One part after another.
use Rattle.std.proofs.Common.{◌≡◌, ℕ, suc, max, ◌<◌, ◌≤◌, Bool, true, false, ◌&&◌, ◌||◌, cond, List, [], ◌∷◌, ◌++◌, ap, ap₂, sym, ◌∙◌, refl, subst, ◌⊎◌, inl, inr, arith, append_assoc}
use Rattle.rast_forms.specs.Words.{Word, key_of, is_in, starts, is_apart}
use Rattle.rast_forms.specs.Marks.{Mark, bare, highest, IsShallow}
use Rattle.rast_forms.specs.Reading.{Why, Syntax, TooDeep, Read, Done, Bad, Reader, ◌>>=◌, seq_read, nil_read}
use Rattle.rast_forms.proofs.Sets.{and_left, and_right, and_both, is_in-append}
use Rattle.rast_forms.proofs.Marking.{bare-append, bare_split, highest-append, shallow_append}
use Rattle.rast_forms.proofs.Forms.{Form, spell, Comes, and_then, Begins, IsDeepAt, Found, Fails, Right, Exact, goes_on_both, goes_on_second, ends_before}

abbrev pub seq : {X Y : Type 0} → Form X → Form Y → Form (X × Y)
seq P Q = record {
  mark = λ s. P.mark s.0 ++ Q.mark s.1;
  fits = λ s. P.fits s.0 && Q.fits s.1;
  first = cond P.is_empty (P.first ++ Q.first) P.first;
  is_empty = P.is_empty && Q.is_empty;
  goes_on = goes_on_both P.goes_on Q.is_empty Q.goes_on;
  some = (P.some, Q.some);
}

-- the token where a part too many begins, before further tokens
pub deep_append : (bar : List ℕ) (d : ℕ) (why : Why) (r : List Word) (more further : List Mark) → IsDeepAt bar d why r more → IsDeepAt bar d why r (more ++ further)
deep_append bar d Syntax r more further h = tt
deep_append bar d TooDeep r more further (m, ms, v, e, f, g) = (m, ms ++ further, v, ap (λ z. z ++ further) e, f, g)

pub or_first : (a b : Bool) → a ≡ true → (a || b) ≡ true
or_first a b e = rw e refl

pub or_second : (a b : Bool) → b ≡ true → (a || b) ≡ true
or_second true b e = refl
or_second false b e = e

both_begin : (xs ys : List ℕ) (one two : Bool) (a b : List Word) → Begins xs one a → Begins ys two b → Begins (cond one (xs ++ ys) xs) (one && two) (a ++ b)
both_begin xs ys true two [] [] g h = h
both_begin xs ys true two [] (w ∷ b) g h = is_in-append xs ys (key_of w) ∙ or_second _ _ h
both_begin xs ys true two (w ∷ a) b g h = is_in-append xs ys (key_of w) ∙ or_first _ _ g
both_begin xs ys false two [] b g h = absurd (cc)
both_begin xs ys false two (w ∷ a) b g h = g

module _ {X Y : Type 0} (bar : List ℕ) (d : ℕ) (P : Form X) (Q : Form Y) (p : Reader X) (q : Reader Y) (E : Exact bar d P p) (F : Exact bar d Q q) (apart : is_apart P.goes_on Q.first ≡ true) where
  seq_complete : (s : X × Y) (r : List Word) → (seq P Q).fits s ≡ true → starts (seq P Q).goes_on r ≡ false →
      Comes d (highest ((seq P Q).mark s)) s r (seq_read p q (spell (seq P Q) s ++ r))
  seq_complete (x, y) r f g = rw (bare_split (P.mark x) (Q.mark y) r) (
      and_then d (highest (P.mark x)) (highest (P.mark x ++ Q.mark y)) x (spell Q y ++ r) (x, y) r (p (spell P x ++ (spell Q y ++ r))) _
      (omega (arith, highest-append (P.mark x) (Q.mark y)))
      (E.complete x (spell Q y ++ r) (and_left _ _ f) (ends_before P.goes_on Q.first Q.is_empty Q.goes_on (spell Q y) r apart (F.begins y (and_right _ _ f)) g))
      (and_then d (highest (Q.mark y)) (highest (P.mark x ++ Q.mark y)) y r (x, y) r (q (spell Q y ++ r)) _
      (omega (arith, highest-append (P.mark x) (Q.mark y)))
      (F.complete y r (and_right _ _ f) (goes_on_second P.goes_on Q.is_empty Q.goes_on r g)) (inl refl)))

  seq_second : (ts : List Word) (x : X) (more : List Word) → Found d P p ts x more → (m : Read Y) → Right bar d Q q more m → Right bar d (seq P Q) (seq_read p q) ts (m >>= λ y rest. Done (x, y) rest)
  seq_second ts x more f (Done y r) g = record {
    split = f.split ∙ ap (λ z. spell P x ++ z) g.split ∙ sym (bare_split (P.mark x) (Q.mark y) r);
    fits = and_both _ _ f.fits g.fits;
    low = omega (arith, f.low, g.low, highest-append (P.mark x) (Q.mark y));
    local = λ u z v w e. rw (bare_split (P.mark x) (Q.mark y) (u ++ z ∷ w)) (
        ap (λ m. m >>= λ x more. q more >>= λ y rest. Done (x, y) rest) (reads u z v w e)
        ∙ ap (λ m. m >>= λ y rest. Done (x, y) rest) (g.local u z v w e));
  }
    where
      reads : (u : List Word) (z : Word) (v w : List Word) → r ≡ u ++ z ∷ v → p (spell P x ++ (spell Q y ++ (u ++ z ∷ w))) ≡ Done x (spell Q y ++ (u ++ z ∷ w))
      reads u z v w e = let h : p (spell P x ++ ((spell Q y ++ u) ++ z ∷ w)) ≡ Done x ((spell Q y ++ u) ++ z ∷ w)
          = f.local (spell Q y ++ u) z v w (g.split ∙ ap (λ k. spell Q y ++ k) e ∙ sym (append_assoc (spell Q y) u (z ∷ v)))
          in rw (append_assoc (spell Q y) u (z ∷ w)) at h
  seq_second ts x more f (Bad why r) g = record {
    used = spell P x ++ g.used;
    split = f.split ∙ ap (λ z. spell P x ++ z) g.split ∙ sym (append_assoc (spell P x) g.used r);
    local = λ s z v w e. rw (append_assoc (spell P x) g.used (z ∷ w)) (
        ap (λ m. m >>= λ x more. q more >>= λ y rest. Done (x, y) rest) (f.local g.used z v w (g.split ∙ ap (λ k. g.used ++ k) e))
        ∙ ap (λ m. m >>= λ y rest. Done (x, y) rest) (g.local s z v w e));
    tree = (x, g.tree);
    fits = and_both _ _ f.fits g.fits;
    seen = P.mark x ++ g.seen;
    more = g.more;
    seen_is = bare-append (P.mark x) g.seen ∙ ap (λ z. spell P x ++ z) g.seen_is;
    viable = append_assoc (P.mark x) g.seen g.more ∙ ap (λ z. P.mark x ++ z) g.viable;
    shallow = shallow_append bar d (P.mark x) g.seen r f.low g.shallow;
    deep = g.deep;
  }

  seq_first : (ts : List Word) (m : Read X) → Right bar d P p ts m → Right bar d (seq P Q) (seq_read p q) ts (m >>= λ x more. q more >>= λ y rest. Done (x, y) rest)
  seq_first ts (Done x more) f = seq_second ts x more f (q more) (F.sound more)
  seq_first ts (Bad why r) f = record {
    used = f.used;
    split = f.split;
    local = λ s z v w e. ap (λ m. m >>= λ x more. q more >>= λ y rest. Done (x, y) rest) (f.local s z v w e);
    tree = (f.tree, Q.some);
    fits = and_both _ _ f.fits F.some_fits;
    seen = f.seen;
    more = f.more ++ Q.mark Q.some;
    seen_is = f.seen_is;
    viable = sym (append_assoc f.seen f.more (Q.mark Q.some)) ∙ ap (λ z. z ++ Q.mark Q.some) f.viable;
    shallow = f.shallow;
    deep = deep_append bar d why r f.more (Q.mark Q.some) f.deep;
  }

  seq_begins : (s : X × Y) → (seq P Q).fits s ≡ true → Begins (seq P Q).first (seq P Q).is_empty (spell (seq P Q) s)
  seq_begins (x, y) f = subst (Begins (seq P Q).first (seq P Q).is_empty) (sym (bare-append (P.mark x) (Q.mark y)))
      (both_begin P.first Q.first P.is_empty Q.is_empty (spell P x) (spell Q y) (E.begins x (and_left _ _ f)) (F.begins y (and_right _ _ f)))

  pub seq_exact : Exact bar d (seq P Q) (seq_read p q)
  seq_exact = record {
    complete = seq_complete;
    sound = λ ts. seq_first ts (p ts) (E.sound ts);
    begins = seq_begins;
    some_fits = and_both _ _ E.some_fits F.some_fits;
  }

-- ---- nothing

abbrev pub nil : Form (Unit {0})
nil = record { mark = λ _. []; fits = λ _. true; first = []; is_empty = true; goes_on = []; some = tt }

pub nil_exact : (bar : List ℕ) (d : ℕ) → Exact bar d nil nil_read
nil_exact bar d = record {
  complete = λ x r f g. inl refl;
  sound = λ ts. record { split = refl; fits = refl; low = omega arith; local = λ u z v w e. refl };
  begins = λ x f. refl;
  some_fits = refl;
}
