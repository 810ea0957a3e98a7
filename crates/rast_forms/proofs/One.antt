-- One token.
use Rattle.std.proofs.Common.{◌≡◌, ℕ, suc, max, ◌<◌, ◌≤◌, Bool, true, false, cond, ◌==◌, List, [], ◌∷◌, ◌++◌, Option, Some, None, ap, ap₂, sym, ◌∙◌, refl, subst, inl, arith}
use Rattle.std.proofs.lemmas.Bool.{eqb-true, eq-eqb}
use Rattle.rast_forms.specs.Words.{Word, Name, Number, Fixed, key_of, is_in, starts}
use Rattle.rast_forms.specs.Marks.{Mark, bare, highest, IsShallow, plain}
use Rattle.rast_forms.specs.Reading.{Why, Syntax, TooDeep, Read, Done, Bad, Reader, ◌>>=◌, one_read, given, get_name, get_number, get_fixed}
use Rattle.rast_forms.proofs.Forms.{Form, spell, Comes, Begins, Found, Fails, Right, Exact}

abbrev pub one : {X : Type 0} → (X → Mark) → (X → Bool) → List ℕ → X → Form X
one put fits first some = record { mark = λ x. put x ∷ []; fits = fits; first = first; is_empty = false; goes_on = []; some = some }

module _ {X : Type 0} (bar : List ℕ) (d : ℕ) (get : Word → Option X) (put : X → Mark) (fits : X → Bool) (first : List ℕ) (some : X)
    (there : (x : X) → fits x ≡ true → get (put x).word ≡ Some x) (back : (t : Word) (x : X) → get t ≡ Some x → (t ≡ (put x).word) × (fits x ≡ true))
    (level : (x : X) → (put x).open_at ≡ 0) (begin : (x : X) → fits x ≡ true → is_in first (key_of (put x).word) ≡ true) (some_fits : fits some ≡ true) where
  one_wrong : (t : Word) (ts : List Word) → get t ≡ None → Fails bar d Syntax (one put fits first some) (one_read get) (t ∷ ts) (t ∷ ts)
  one_wrong t ts e = record {
    used = [];
    split = refl;
    local = λ s y v w same. let k : t ≡ y = cc in ap (λ o. given o y w) (ap get (sym k) ∙ e);
    tree = some;
    fits = some_fits;
    seen = [];
    more = put some ∷ [];
    seen_is = refl;
    viable = refl;
    shallow = tt;
    deep = tt;
  }

  one_found : (t : Word) (ts : List Word) (x : X) → get t ≡ Some x → Found d (one put fits first some) (one_read get) (t ∷ ts) x ts
  one_found t ts x e = let b : (t ≡ (put x).word) × (fits x ≡ true) = back t x e in record {
    split = ap (λ z. z ∷ ts) b.0;
    fits = b.1;
    low = omega (arith, level x);
    local = λ u y v w same. ap (λ o. given o (put x).word (u ++ y ∷ w)) (there x b.1);
  }

  one_at : (t : Word) (ts : List Word) (o : Option X) → get t ≡ o → Right bar d (one put fits first some) (one_read get) (t ∷ ts) (given o t ts)
  one_at t ts (Some x) e = one_found t ts x e
  one_at t ts None e = one_wrong t ts e

  one_sound : (ts : List Word) → Right bar d (one put fits first some) (one_read get) ts (one_read get ts)
  one_sound [] = record {
    used = [];
    split = refl;
    local = λ s y v w e. absurd (cc);
    tree = some;
    fits = some_fits;
    seen = [];
    more = put some ∷ [];
    seen_is = refl;
    viable = refl;
    shallow = tt;
    deep = tt;
  }
  one_sound (t ∷ ts) = one_at t ts (get t) refl

  pub one_exact : Exact bar d (one put fits first some) (one_read get)
  one_exact = record {
    complete = λ x r f g. inl_done x r f;
    sound = one_sound;
    begins = begin;
    some_fits = some_fits;
  }
    where
      inl_done : (x : X) (r : List Word) → fits x ≡ true → Comes d (highest (put x ∷ [])) x r (given (get (put x).word) (put x).word r)
      inl_done x r f = inl (ap (λ o. given o (put x).word r) (there x f))

-- ---- a name, a number, a keyword or symbol

get_name_back : (t : Word) (x : List ℕ) → get_name t ≡ Some x → (t ≡ Name x) × (true ≡ true)
get_name_back (Name bytes) x e = let same : bytes ≡ x = cc in (ap Name same, refl)
get_name_back (Number value) x e = absurd (cc)
get_name_back (Fixed which) x e = absurd (cc)

get_number_back : (t : Word) (x : ℕ) → get_number t ≡ Some x → (t ≡ Number x) × (true ≡ true)
get_number_back (Name bytes) x e = absurd (cc)
get_number_back (Number value) x e = let same : value ≡ x = cc in (ap Number same, refl)
get_number_back (Fixed which) x e = absurd (cc)

fixed_there : (k : ℕ) → get_fixed k (Fixed k) ≡ Some tt
fixed_there k = rw (eq-eqb k k refl) refl

fixed_back : (k : ℕ) (t : Word) (x : Unit {0}) → get_fixed k t ≡ Some x → (t ≡ Fixed k) × (true ≡ true)
fixed_back k (Name bytes) x e = absurd (cc)
fixed_back k (Number value) x e = absurd (cc)
fixed_back k (Fixed which) x e = at (which == k) refl e
  where
    at : (b : Bool) → (which == k) ≡ b → cond b (Some tt) None ≡ Some x → (Fixed which ≡ Fixed k) × (true ≡ true)
    at true f g = (ap Fixed (eqb-true which k f), refl)
    at false f g = absurd (cc)

fixed_begins : (k : ℕ) → is_in (suc (suc k) ∷ []) (suc (suc k)) ≡ true
fixed_begins k = rw (eq-eqb (suc (suc k)) (suc (suc k)) refl) refl

abbrev pub name : Form (List ℕ)
name = one (λ x. plain (Name x)) (λ _. true) (0 ∷ []) (97 ∷ [])

-- a number, which may begin a term of a formula
abbrev pub number : Bool → Form ℕ
number b = one (λ n. record { word = Number n; open_at = 0; in_formula = b }) (λ _. true) (1 ∷ []) 1

abbrev pub fixed : ℕ → Form (Unit {0})
fixed k = one (λ _. plain (Fixed k)) (λ _. true) (suc (suc k) ∷ []) tt

pub name_exact : (bar : List ℕ) (d : ℕ) → Exact bar d name (one_read get_name)
name_exact bar d = one_exact bar d get_name (λ x. plain (Name x)) (λ _. true) (0 ∷ []) (97 ∷ []) (λ x f. refl) get_name_back (λ x. refl) (λ x f. refl) refl

pub number_exact : (bar : List ℕ) (d : ℕ) (b : Bool) → Exact bar d (number b) (one_read get_number)
number_exact bar d b = one_exact bar d get_number (λ n. record { word = Number n; open_at = 0; in_formula = b }) (λ _. true) (1 ∷ []) 1 (λ x f. refl) get_number_back (λ x. refl) (λ x f. refl) refl

pub fixed_exact : (bar : List ℕ) (d k : ℕ) → Exact bar d (fixed k) (one_read (get_fixed k))
fixed_exact bar d k = one_exact bar d (get_fixed k) (λ _. plain (Fixed k)) (λ _. true) (suc (suc k) ∷ []) tt (λ x f. fixed_there k) (fixed_back k) (λ x. refl) (λ x f. fixed_begins k) refl
