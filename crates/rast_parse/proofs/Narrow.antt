-- The same parts as another type, where only those that fit are told.
use Rattle.std.proofs.Common.{◌≡◌, ℕ, Bool, true, false, List, [], ◌∷◌, ◌++◌, ap, sym, ◌∙◌, subst, inl, arith}
use Rattle.rast_forms.specs.Words.{Word, key_of, starts, is_within}
use Rattle.rast_forms.specs.Marks.{Mark, bare, highest}
use Rattle.rast_forms.specs.Reading.{Read, Done, Bad, Reader, ◌>>=◌, as_read}
use Rattle.rast_forms.proofs.Sets.{starts_within, within_true}
use Rattle.rast_forms.proofs.Forms.{Form, spell, Comes, and_then, Begins, Right, Exact}

module _ {X T : Type 0} (bar : List ℕ) (d : ℕ) (P : Form X) (p : Reader X) (E : Exact bar d P p) (G : Form T) (to : X → T) (from : T → X)
    (there : (t : T) → G.fits t ≡ true → to (from t) ≡ t) (from_fits : (t : T) → G.fits t ≡ true → P.fits (from t) ≡ true)
    (mark_is : (x : X) → P.fits x ≡ true → G.mark (to x) ≡ P.mark x) (fits_is : (x : X) → P.fits x ≡ true → G.fits (to x) ≡ true)
    (first_in : is_within P.first G.first ≡ true) (empty_is : P.is_empty ≡ G.is_empty) (goes_on_in : is_within P.goes_on G.goes_on ≡ true) (some_is : G.fits G.some ≡ true) where
  from_mark : (t : T) → G.fits t ≡ true → G.mark t ≡ P.mark (from t)
  from_mark t f = ap G.mark (sym (there t f)) ∙ mark_is (from t) (from_fits t f)

  spell_is : (x : X) → P.fits x ≡ true → spell G (to x) ≡ spell P x
  spell_is x f = ap bare (mark_is x f)

  narrow_complete : (t : T) (r : List Word) → G.fits t ≡ true → starts G.goes_on r ≡ false → Comes d (highest (G.mark t)) t r (as_read to p (spell G t ++ r))
  narrow_complete t r f g = subst (λ (z : List Mark). Comes d (highest z) t r (as_read to p (bare z ++ r))) (sym (from_mark t f))
      (and_then d (highest (P.mark (from t))) (highest (P.mark (from t))) (from t) r t r (p (spell P (from t) ++ r)) _ (omega arith)
      (E.complete (from t) r (from_fits t f) (starts_within P.goes_on G.goes_on r goes_on_in g)) (inl (ap (λ z. Done z r) (there t f))))

  narrow_right : (ts : List Word) (m : Read X) → Right bar d P p ts m → Right bar d G (as_read to p) ts (m >>= λ x rest. Done (to x) rest)
  narrow_right ts (Done x r) h = record {
    split = h.split ∙ ap (λ z. z ++ r) (sym (spell_is x h.fits));
    fits = fits_is x h.fits;
    low = rw (mark_is x h.fits) h.low;
    local = λ u y v w e. ap (λ z. as_read to p (z ++ (u ++ y ∷ w))) (spell_is x h.fits) ∙ ap (λ m. m >>= λ x rest. Done (to x) rest) (h.local u y v w e);
  }
  narrow_right ts (Bad why r) h = record {
    used = h.used;
    split = h.split;
    local = λ s x v w e. ap (λ m. m >>= λ x rest. Done (to x) rest) (h.local s x v w e);
    tree = to h.tree;
    fits = fits_is h.tree h.fits;
    seen = h.seen;
    more = h.more;
    seen_is = h.seen_is;
    viable = h.viable ∙ sym (mark_is h.tree h.fits);
    shallow = h.shallow;
    deep = h.deep;
  }

  within_begins : (a b : Bool) (ws : List Word) → a ≡ b → Begins P.first a ws → Begins G.first b ws
  within_begins a b [] e g = sym e ∙ g
  within_begins a b (w ∷ ws) e g = within_true P.first G.first (key_of w) first_in g

  pub narrow_exact : Exact bar d G (as_read to p)
  narrow_exact = record {
    complete = narrow_complete;
    sound = λ ts. narrow_right ts (p ts) (E.sound ts);
    begins = λ t f. subst (λ (z : List Mark). Begins G.first G.is_empty (bare z)) (sym (from_mark t f)) (within_begins P.is_empty G.is_empty (spell P (from t)) empty_is (E.begins (from t) (from_fits t f)));
    some_fits = some_is;
  }
