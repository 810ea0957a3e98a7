-- Reading to the last token.
use Rattle.std.proofs.Common.{◌≡◌, ℕ, ◌<◌, ◌≤◌, true, List, [], ◌∷◌, ◌++◌, length, ap, sym, ◌∙◌, refl, subst, inl, inr, arith, append_assoc, append-nil}
use Rattle.rast_forms.specs.Words.{Word}
use Rattle.rast_forms.specs.Marks.{highest, IsShallow}
use Rattle.rast_forms.specs.Reading.{Syntax, TooDeep, Read, Done, Bad, Reader, ◌>>=◌, ended, whole_read}
use Rattle.rast_forms.proofs.Marking.{shallow_append}
use Rattle.rast_forms.proofs.Forms.{Form, spell, Comes, and_then, Found, Fails, Right, Exact}

-- what the code knows after the last part
pub ended_ok : {X : Type 0} (x : X) (r : List Word) (m : Read X) → m ≡ Done x r → length r ≡ 0 → (m >>= ended) ≡ Done x []
ended_ok x [] m e h = rw e refl
ended_ok x (t ∷ r) m e h = absurd (omega (arith, h))

pub ended_bad : {X : Type 0} (x : X) (r : List Word) (m : Read X) → m ≡ Done x r → 0 < length r → (m >>= ended) ≡ Bad Syntax r
ended_bad x [] m e h = absurd (omega (arith, h))
ended_bad x (t ∷ r) m e h = rw e refl

pub record ReadWhole {X : Type 0} (d : ℕ) (F : Form X) (ts : List Word) (x : X) : Type 0 where
  pub split : ts ≡ spell F x
  pub fits : F.fits x ≡ true
  pub low : highest (F.mark x) ≤ d

abbrev pub RightWhole : {X : Type 0} → List ℕ → ℕ → Form X → Reader X → List Word → Read X → Type 0
RightWhole bar d F p ts (Done x r) = ReadWhole d F ts x
RightWhole bar d F p ts (Bad why r) = Fails bar d why F (whole_read p) ts r

module _ {X : Type 0} (bar : List ℕ) (d : ℕ) (F : Form X) (p : Reader X) (E : Exact bar d F p) where
  pub whole_comes : (x : X) → F.fits x ≡ true → Comes d (highest (F.mark x)) x [] (whole_read p (spell F x))
  whole_comes x f = subst (λ z. Comes d (highest (F.mark x)) x [] (whole_read p z)) (append-nil (spell F x))
      (and_then d (highest (F.mark x)) (highest (F.mark x)) x [] x [] (p (spell F x ++ [])) ended (omega arith) (E.complete x [] f refl) (inl refl))

  more_left : (ts : List Word) (x : X) (t : Word) (r : List Word) → Found d F p ts x (t ∷ r) → Fails bar d Syntax F (whole_read p) ts (t ∷ r)
  more_left ts x t r f = record {
    used = spell F x;
    split = f.split;
    local = λ s y v w e. ap (λ m. m >>= ended) (f.local [] y v w e);
    tree = x;
    fits = f.fits;
    seen = F.mark x;
    more = [];
    seen_is = refl;
    viable = append-nil (F.mark x);
    shallow = subst (λ z. IsShallow bar d z (t ∷ r)) (append-nil (F.mark x)) (shallow_append bar d (F.mark x) [] (t ∷ r) f.low tt);
    deep = tt;
  }

  whole_right : (ts : List Word) (m : Read X) → Right bar d F p ts m → RightWhole bar d F p ts (m >>= ended)
  whole_right ts (Done x []) f = record { split = f.split ∙ append-nil (spell F x); fits = f.fits; low = f.low }
  whole_right ts (Done x (t ∷ r)) f = more_left ts x t r f
  whole_right ts (Bad why r) f = record {
    used = f.used;
    split = f.split;
    local = λ s y v w e. ap (λ m. m >>= ended) (f.local s y v w e);
    tree = f.tree;
    fits = f.fits;
    seen = f.seen;
    more = f.more;
    seen_is = f.seen_is;
    viable = f.viable;
    shallow = f.shallow;
    deep = f.deep;
  }

  pub whole_sound : (ts : List Word) → RightWhole bar d F p ts (whole_read p ts)
  whole_sound ts = whole_right ts (p ts) (E.sound ts)

  not_wrong : (x : X) (r : List Word) (m : Read X) → Comes d (highest (F.mark x)) x [] m → m ≡ Bad Syntax r → ⊥
  not_wrong x r (Done y s) c e = absurd (cc)
  not_wrong x r (Bad TooDeep s) c e = absurd (cc)
  not_wrong x r (Bad Syntax s) (inl f) e = absurd (cc)
  not_wrong x r (Bad Syntax s) (inr h) e = absurd (h.0)

  -- where reading is wrong at the end of what it is given, that is no part
  pub not_whole : (ts r : List Word) (x : X) → F.fits x ≡ true → ts ≡ spell F x → whole_read p ts ≡ Bad Syntax r → ⊥
  not_whole ts r x f e g = not_wrong x r (whole_read p (spell F x)) (whole_comes x f) (ap (whole_read p) (sym e) ∙ g)

  -- no part begins with what was used and the token there
  pub not_begun : (ts r : List Word) (t : Word) (v : List Word) (h : Fails bar d Syntax F (whole_read p) ts r) → r ≡ t ∷ v → (x : X) (further : List Word) → F.fits x ≡ true →
      (h.used ++ t ∷ []) ++ further ≡ spell F x → ⊥
  not_begun ts r t v h e x further f g = not_whole (h.used ++ t ∷ further) (t ∷ further) x f (sym (append_assoc h.used (t ∷ []) further) ∙ g) (h.local refl t v further e)

  -- a part at which no more are open is read
  pub whole_done : (x : X) → F.fits x ≡ true → highest (F.mark x) ≤ d → whole_read p (spell F x) ≡ Done x []
  whole_done x f low = at (whole_comes x f)
    where
      at : Comes d (highest (F.mark x)) x [] (whole_read p (spell F x)) → whole_read p (spell F x) ≡ Done x []
      at (inl e) = e
      at (inr h) = absurd (omega (arith, h.1, low))
