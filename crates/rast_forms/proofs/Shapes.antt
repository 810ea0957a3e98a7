-- The same parts as another type, one more starred part, and the limit.
use Rattle.std.proofs.Common.{◌≡◌, ℕ, zero, suc, max, ◌<◌, ◌≤◌, Bool, true, false, ◌&&◌, cond, not, List, [], ◌∷◌, ◌++◌, map, ap, ap₂, sym, ◌∙◌, refl, subst, ◌⊎◌, inl, inr, arith}
use Rattle.std.proofs.lemmas.List.{map-append}
use Rattle.rast_forms.specs.Words.{Word, key_of, is_in, starts, is_within}
use Rattle.rast_forms.specs.Marks.{Mark, bare, highest, one_more, starred, count, IsShallow}
use Rattle.rast_forms.specs.Reading.{Why, Syntax, TooDeep, Read, Done, Bad, Reader, ◌>>=◌, as_read, limited, limit_read}
use Rattle.rast_forms.proofs.Sets.{starts_within, within_true, starts_same}
use Rattle.rast_forms.proofs.Marking.{bare-starred, highest_starred_le, highest_starred_lt, shallow_more, count_more_lt}
use Rattle.rast_forms.proofs.Forms.{Form, spell, Comes, and_then, Begins, IsDeepAt, Found, Fails, Right, Exact}
use Rattle.rast_forms.proofs.Either.{starts_true}

-- Parts of a type `T`, written as those of `P` are: each that fits is made of one, and the tokens that may begin and follow are within what is claimed.
module _ {X T : Type 0} (bar : List ℕ) (d : ℕ) (P : Form X) (p : Reader X) (E : Exact bar d P p) (G : Form T) (to : X → T) (from : T → X)
    (there : (t : T) → G.fits t ≡ true → to (from t) ≡ t) (mark_is : (x : X) → G.mark (to x) ≡ P.mark x) (fits_is : (x : X) → G.fits (to x) ≡ P.fits x)
    (first_in : is_within P.first G.first ≡ true) (empty_is : P.is_empty ≡ G.is_empty) (goes_on_in : is_within P.goes_on G.goes_on ≡ true) (some_is : G.fits G.some ≡ true) where
  from_fits : (t : T) → G.fits t ≡ true → P.fits (from t) ≡ true
  from_fits t f = sym (fits_is (from t)) ∙ ap G.fits (there t f) ∙ f

  from_mark : (t : T) → G.fits t ≡ true → G.mark t ≡ P.mark (from t)
  from_mark t f = ap G.mark (sym (there t f)) ∙ mark_is (from t)

  spell_is : (x : X) → spell G (to x) ≡ spell P x
  spell_is x = ap bare (mark_is x)

  shape_complete : (t : T) (r : List Word) → G.fits t ≡ true → starts G.goes_on r ≡ false → Comes d (highest (G.mark t)) t r (as_read to p (spell G t ++ r))
  shape_complete t r f g = subst (λ (z : List Mark). Comes d (highest z) t r (as_read to p (bare z ++ r))) (sym (from_mark t f))
      (and_then d (highest (P.mark (from t))) (highest (P.mark (from t))) (from t) r t r (p (spell P (from t) ++ r)) _ (omega arith)
      (E.complete (from t) r (from_fits t f) (starts_within P.goes_on G.goes_on r goes_on_in g)) (inl (ap (λ z. Done z r) (there t f))))

  shape_right : (ts : List Word) (m : Read X) → Right bar d P p ts m → Right bar d G (as_read to p) ts (m >>= λ x rest. Done (to x) rest)
  shape_right ts (Done x r) h = record {
    split = h.split ∙ ap (λ z. z ++ r) (sym (spell_is x));
    fits = fits_is x ∙ h.fits;
    low = rw (mark_is x) h.low;
    local = λ u y v w e. ap (λ z. as_read to p (z ++ (u ++ y ∷ w))) (spell_is x) ∙ ap (λ m. m >>= λ x rest. Done (to x) rest) (h.local u y v w e);
  }
  shape_right ts (Bad why r) h = record {
    used = h.used;
    split = h.split;
    local = λ s x v w e. ap (λ m. m >>= λ x rest. Done (to x) rest) (h.local s x v w e);
    tree = to h.tree;
    fits = fits_is h.tree ∙ h.fits;
    seen = h.seen;
    more = h.more;
    seen_is = h.seen_is;
    viable = h.viable ∙ sym (mark_is h.tree);
    shallow = h.shallow;
    deep = h.deep;
  }

  within_begins : (a b : Bool) (ws : List Word) → a ≡ b → Begins P.first a ws → Begins G.first b ws
  within_begins a b [] e g = sym e ∙ g
  within_begins a b (w ∷ ws) e g = within_true P.first G.first (key_of w) first_in g

  pub shape_exact : Exact bar d G (as_read to p)
  shape_exact = record {
    complete = shape_complete;
    sound = λ ts. shape_right ts (p ts) (E.sound ts);
    begins = λ t f. subst (λ (z : List Mark). Begins G.first G.is_empty (bare z)) (sym (from_mark t f)) (within_begins P.is_empty G.is_empty (spell P (from t)) empty_is (E.begins (from t) (from_fits t f)));
    some_fits = some_is;
  }

-- ---- a starred part: one more is open at each of its tokens

abbrev pub star : {X : Type 0} → Form X → Form X
star P = record { mark = λ x. starred (P.mark x); fits = P.fits; first = P.first; is_empty = P.is_empty; goes_on = P.goes_on; some = P.some }

module _ {X : Type 0} (bar : List ℕ) (d : ℕ) (P : Form X) (p : Reader X) (E : Exact bar d P p) where
  raised : (x : X) (r : List Word) (m : Read X) → Comes d (highest (P.mark x)) x r m → Comes (suc d) (highest (starred (P.mark x))) x r m
  raised x r m (inl e) = inl e
  raised x r m (inr h) = inr (h.0, highest_starred_lt (P.mark x) d h.1)

  deep_more : (why : Why) (r : List Word) (more : List Mark) → IsDeepAt bar d why r more → IsDeepAt bar (suc d) why r (starred more)
  deep_more Syntax r more h = tt
  deep_more TooDeep r more (m, ms, v, e, f, g) = (one_more m, starred ms, v, ap starred e, f, count_more_lt bar m v d g)

  star_right : (ts : List Word) (m : Read X) → Right bar d P p ts m → Right bar (suc d) (star P) p ts m
  star_right ts (Done x r) h = record {
    split = h.split ∙ ap (λ z. z ++ r) (sym (bare-starred (P.mark x)));
    fits = h.fits;
    low = highest_starred_le (P.mark x) d h.low;
    local = λ u y v w e. ap (λ z. p (z ++ (u ++ y ∷ w))) (bare-starred (P.mark x)) ∙ h.local u y v w e;
  }
  star_right ts (Bad why r) h = record {
    used = h.used;
    split = h.split;
    local = h.local;
    tree = h.tree;
    fits = h.fits;
    seen = starred h.seen;
    more = starred h.more;
    seen_is = bare-starred h.seen ∙ h.seen_is;
    viable = sym (map-append one_more h.seen h.more) ∙ ap starred h.viable;
    shallow = shallow_more bar d h.seen r h.shallow;
    deep = deep_more why r h.more h.deep;
  }

  pub star_exact : Exact bar (suc d) (star P) p
  star_exact = record {
    complete = λ x r f g. subst (λ z. Comes (suc d) (highest (starred (P.mark x))) x r (p (z ++ r))) (sym (bare-starred (P.mark x))) (raised x r (p (spell P x ++ r)) (E.complete x r f g));
    sound = λ ts. star_right ts (p ts) (E.sound ts);
    begins = λ x f. subst (Begins P.first P.is_empty) (sym (bare-starred (P.mark x))) (E.begins x f);
    some_fits = E.some_fits;
  }

-- ---- no more parts may be open

-- a part that begins with this token, at which more than none are open before what follows
abbrev pub Opens : {X : Type 0} → List ℕ → Form X → Word → List Word → Type 0
Opens {X} bar F w v = (t : X) × (m : Mark) × (ms : List Mark) × (F.fits t ≡ true) × (m ∷ ms ≡ F.mark t) × (w ≡ m.word) × (0 < count bar m v)

pub limit_deep : {X : Type 0} (bar : List ℕ) (F : Form X) (read : Reader X) (w : Word) (ts : List Word) → Opens bar F w ts → Fails bar 0 TooDeep F read (w ∷ ts) (w ∷ ts)
limit_deep bar F read w ts (t, m, ms, f, g, h, k) = record {
  used = [];
  split = refl;
  local = λ s. absurd (cc);
  tree = t;
  fits = f;
  seen = [];
  more = m ∷ ms;
  seen_is = refl;
  viable = g;
  shallow = tt;
  deep = (m, ms, ts, refl, ap (λ z. z ∷ ts) h, k);
}

-- a token that begins no part, where that is seen by it alone
pub limit_wrong : {X : Type 0} (bar : List ℕ) (F : Form X) (read : Reader X) (ts : List Word) → F.fits F.some ≡ true → ((x : Word) (v w : List Word) → ts ≡ x ∷ v → read (x ∷ w) ≡ Bad Syntax (x ∷ w)) →
    Fails bar 0 Syntax F read ts ts
limit_wrong bar F read ts some_fits local = record {
  used = [];
  split = refl;
  local = λ s. local;
  tree = F.some;
  fits = some_fits;
  seen = [];
  more = F.mark F.some;
  seen_is = refl;
  viable = refl;
  shallow = tt;
  deep = tt;
}

module _ {X : Type 0} (bar : List ℕ) (F : Form X) (solid : F.is_empty ≡ false) (some_fits : F.fits F.some ≡ true) (begins : (x : X) → F.fits x ≡ true → Begins F.first F.is_empty (spell F x))
    (opens : (w : Word) (v : List Word) → is_in F.first (key_of w) ≡ true → Opens bar F w v) (high : (x : X) → F.fits x ≡ true → 0 < highest (F.mark x)) where
  limit_complete : (x : X) (r : List Word) → F.fits x ≡ true → Comes 0 (highest (F.mark x)) x r (limit_read F.first (spell F x ++ r))
  limit_complete x r f = rw (starts_true F.first F.is_empty (spell F x) r solid (begins x f)) (inr (tt, high x f))

  limit_right : (ts : List Word) (b : Bool) → starts F.first ts ≡ b → Right bar 0 F (limit_read F.first) ts (limited b ts)
  limit_right ts false e = limit_wrong bar F (limit_read F.first) ts some_fits (λ x v w f. ap (λ b. limited b (x ∷ w)) (ap (starts F.first) (sym f) ∙ e))
  limit_right [] true e = absurd (cc)
  limit_right (w ∷ ts) true e = limit_deep bar F (limit_read F.first) w ts (opens w ts e)

  pub limit_exact : Exact bar 0 F (limit_read F.first)
  limit_exact = record {
    complete = λ x r f g. limit_complete x r f;
    sound = λ ts. limit_right ts (starts F.first ts) refl;
    begins = begins;
    some_fits = some_fits;
  }
