-- Forms of a grammar: how the parts of one kind are written, and that a reader reads them exactly.
use Rattle.std.proofs.Common.{◌≡◌, ℕ, suc, max, ◌<◌, ◌≤◌, Bool, true, false, ◌&&◌, ◌||◌, cond, List, [], ◌∷◌, ◌++◌, ap, ap₂, sym, ◌∙◌, refl, subst, ◌⊎◌, inl, inr, arith}
use Rattle.rast_forms.specs.Words.{Word, key_of, is_in, starts, is_apart, is_within}
use Rattle.rast_forms.specs.Marks.{Mark, bare, highest, count, IsShallow}
use Rattle.rast_forms.specs.Reading.{Why, Syntax, TooDeep, Read, Done, Bad, Reader, ◌>>=◌}
use Rattle.rast_forms.proofs.Sets.{or_left, or_right, starts-append, apart_false}

abbrev pub IsDeep : {X : Type 0} → Read X → Type 0
IsDeep (Done x ts) = ⊥
IsDeep (Bad Syntax ts) = ⊥
IsDeep (Bad TooDeep ts) = Unit {0}

pub deep_bind : {X Y : Type 0} (m : Read X) (f : X → List Word → Read Y) → IsDeep m → IsDeep (m >>= f)
deep_bind (Done x ts) f h = absurd h
deep_bind (Bad Syntax ts) f h = absurd h
deep_bind (Bad TooDeep ts) f h = tt

-- it is read whole, or a part of it is one too many
abbrev pub Comes : {X : Type 0} → ℕ → ℕ → X → List Word → Read X → Type 0
Comes d high x rest m = (m ≡ Done x rest) ⊎ (IsDeep m × (d < high))

pub and_then : {X Y : Type 0} (d high all : ℕ) (x : X) (rest : List Word) (y : Y) (after : List Word) (m : Read X) (f : X → List Word → Read Y) →
    high ≤ all → Comes d high x rest m → Comes d all y after (f x rest) → Comes d all y after (m >>= f)
and_then d high all x rest y after m f le (inl e) g = rw e g
and_then d high all x rest y after m f le (inr h) g = inr (deep_bind m f h.0, omega (arith, h.1))

-- How the parts of one kind are written: which are in the grammar, the kinds of their first tokens, whether one may have none,
-- the kinds of tokens that may go on with one, and one of them.
pub record Form (X : Type 0) : Type 0 where
  pub mark : X → List Mark
  pub fits : X → Bool
  pub first : List ℕ
  pub is_empty : Bool
  pub goes_on : List ℕ
  pub some : X

abbrev pub spell : {X : Type 0} → Form X → X → List Word
spell F x = bare (F.mark x)

-- what the tokens of a part begin with
abbrev pub Begins : List ℕ → Bool → List Word → Type 0
Begins first empty [] = empty ≡ true
Begins first empty (w ∷ ws) = is_in first (key_of w) ≡ true

-- the token where one part too many begins
abbrev pub IsDeepAt : List ℕ → ℕ → Why → List Word → List Mark → Type 0
IsDeepAt bar d Syntax r more = Unit {0}
IsDeepAt bar d TooDeep r more = (m : Mark) × (ms : List Mark) × (v : List Word) × (more ≡ m ∷ ms) × (r ≡ m.word ∷ v) × (d < count bar m v)

pub record Found {X : Type 0} (d : ℕ) (F : Form X) (read : Reader X) (ts : List Word) (x : X) (r : List Word) : Type 0 where
  pub split : ts ≡ spell F x ++ r
  pub fits : F.fits x ≡ true
  pub low : highest (F.mark x) ≤ d
  -- it is read so whatever stands behind the token after it
  pub local : (u : List Word) (y : Word) (v w : List Word) → r ≡ u ++ y ∷ v → read (spell F x ++ (u ++ y ∷ w)) ≡ Done x (u ++ y ∷ w)

pub record Fails {X : Type 0} (bar : List ℕ) (d : ℕ) (why : Why) (F : Form X) (read : Reader X) (ts r : List Word) : Type 0 where
  pub used : List Word
  pub split : ts ≡ used ++ r
  -- it is wrong there whatever stands behind
  pub local : why ≡ Syntax → (x : Word) (v w : List Word) → r ≡ x ∷ v → read (used ++ x ∷ w) ≡ Bad Syntax (x ∷ w)
  -- what was used begins a part of the grammar
  pub tree : X
  pub fits : F.fits tree ≡ true
  pub seen : List Mark
  pub more : List Mark
  pub seen_is : bare seen ≡ used
  pub viable : seen ++ more ≡ F.mark tree
  pub shallow : IsShallow bar d seen r
  pub deep : IsDeepAt bar d why r more

abbrev pub Right : {X : Type 0} → List ℕ → ℕ → Form X → Reader X → List Word → Read X → Type 0
Right bar d F read ts (Done x r) = Found d F read ts x r
Right bar d F read ts (Bad why r) = Fails bar d why F read ts r

-- the reader reads what the form writes, where at most `d` starred parts may open, and nothing else
pub record Exact {X : Type 0} (bar : List ℕ) (d : ℕ) (F : Form X) (read : Reader X) : Type 0 where
  pub complete : (x : X) (r : List Word) → F.fits x ≡ true → starts F.goes_on r ≡ false → Comes d (highest (F.mark x)) x r (read (spell F x ++ r))
  pub sound : (ts : List Word) → Right bar d F read ts (read ts)
  pub begins : (x : X) → F.fits x ≡ true → Begins F.first F.is_empty (spell F x)
  pub some_fits : F.fits F.some ≡ true

-- ---- what follows a part

-- the kinds that may go on with one part and then another
abbrev pub goes_on_both : List ℕ → Bool → List ℕ → List ℕ
goes_on_both xs empty ys = cond empty (xs ++ ys) ys

pub goes_on_second : (xs : List ℕ) (empty : Bool) (ys : List ℕ) (r : List Word) → starts (goes_on_both xs empty ys) r ≡ false → starts ys r ≡ false
goes_on_second xs true ys r h = or_right (starts xs r) (starts ys r) (sym (starts-append xs ys r) ∙ h)
goes_on_second xs false ys r h = h

-- the first part ends where the second, or what follows an empty one, begins
pub ends_before : (xs first : List ℕ) (empty : Bool) (ys : List ℕ) (ws r : List Word) → is_apart xs first ≡ true → Begins first empty ws → starts (goes_on_both xs empty ys) r ≡ false →
    starts xs (ws ++ r) ≡ false
ends_before xs first true ys [] r a b h = or_left (starts xs r) (starts ys r) (sym (starts-append xs ys r) ∙ h)
ends_before xs first false ys [] r a b h = absurd (cc)
ends_before xs first empty ys (w ∷ ws) r a b h = apart_false xs first (key_of w) a b
