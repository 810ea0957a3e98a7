-- Parts one after another, each but the last before a symbol, and the last one of another sort.
use Rattle.std.proofs.Common.{◌≡◌, ℕ, zero, suc, max, ◌+◌, ◌<◌, ◌≤◌, Bool, true, false, ◌&&◌, ◌||◌, ◌==◌, cond, List, [], ◌∷◌, ◌++◌, map, length, ap, ap₂, sym, ◌∙◌, refl, subst, ◌⊎◌, inl, inr, arith, append_assoc, length-append, append-nil}
use Rattle.std.proofs.lemmas.Bool.{eq-eqb}
use Rattle.std.proofs.lemmas.Bool.Decides.{nat_tests}
use Rattle.rast_forms.specs.Words.{Word, Name, Number, Fixed, key_of, is_in, starts, all_true}
use Rattle.rast_forms.specs.Marks.{Mark, bare, highest, joined, plain, count, IsShallow}
use Rattle.rast_forms.specs.Reading.{Why, Syntax, TooDeep, Read, Done, Bad, Reader, ◌>>=◌, longer, after_first, chain_turn, chain_read, all_chain_read}
use Rattle.rast_forms.proofs.Sets.{and_left, and_right, and_both, or_left, or_right, starts-append, starts_same}
use Rattle.rast_forms.proofs.Marking.{bare-append, bare_split, highest-append, shallow_append}
use Rattle.rast_forms.proofs.Forms.{Form, spell, Comes, and_then, deep_bind, Begins, IsDeepAt, Found, Fails, Right, Exact}
use Rattle.rast_forms.proofs.Sequence.{deep_append}
use Rattle.rast_forms.proofs.Either.{starts_true}

-- a part and the symbol behind it
abbrev pub before : {X : Type 0} → ℕ → Form X → X → List Mark
before k F x = F.mark x ++ (plain (Fixed k) ∷ [])

abbrev pub chain_mark : {X : Type 0} → ℕ → Form X → List X × X → List Mark
chain_mark k F s = joined (map (before k F) s.0) ++ F.mark s.1

abbrev pub chain : {X : Type 0} → ℕ → (X → Bool) → (X → Bool) → Form X → X → Form (List X × X)
chain k goes ends F last = record {
  mark = chain_mark k F;
  fits = λ s. all_true (map (λ x. goes x && F.fits x) s.0) && (ends s.1 && F.fits s.1);
  first = F.first;
  is_empty = false;
  goes_on = F.goes_on ++ suc (suc k) ∷ [];
  some = ([], last);
}

pub record FailsChain {X : Type 0} (bar : List ℕ) (d k : ℕ) (why : Why) (goes ends : X → Bool) (F : Form X) (last : X) (p : Reader X) (ts r : List Word) : Type 0 where
  pub used : List Word
  pub split : ts ≡ used ++ r
  pub local : why ≡ Syntax → (x : Word) (v w : List Word) (n : ℕ) → r ≡ x ∷ v → length (used ++ x ∷ w) ≤ n → chain_read (suc (suc k) ∷ []) goes ends p n (used ++ x ∷ w) ≡ Bad Syntax (x ∷ w)
  pub tree : List X × X
  pub fits : (chain k goes ends F last).fits tree ≡ true
  pub seen : List Mark
  pub more : List Mark
  pub seen_is : bare seen ≡ used
  pub viable : seen ++ more ≡ chain_mark k F tree
  pub shallow : IsShallow bar d seen r
  pub deep : IsDeepAt bar d why r more

pub record FoundChain {X : Type 0} (d k : ℕ) (goes ends : X → Bool) (F : Form X) (last : X) (p : Reader X) (ts : List Word) (s : List X × X) (r : List Word) : Type 0 where
  pub split : ts ≡ bare (chain_mark k F s) ++ r
  pub fits : (chain k goes ends F last).fits s ≡ true
  pub low : highest (chain_mark k F s) ≤ d
  pub local : (u : List Word) (y : Word) (v w : List Word) (n : ℕ) → r ≡ u ++ y ∷ v → length (bare (chain_mark k F s) ++ (u ++ y ∷ w)) ≤ n →
      chain_read (suc (suc k) ∷ []) goes ends p n (bare (chain_mark k F s) ++ (u ++ y ∷ w)) ≡ Done s (u ++ y ∷ w)

semi_starts : (k : ℕ) (r : List Word) → starts (suc (suc k) ∷ []) (Fixed k ∷ r) ≡ true
semi_starts k r = rw (eq-eqb (suc (suc k)) (suc (suc k)) refl) refl

is_symbol : (k : ℕ) (ts : List Word) → starts (suc (suc k) ∷ []) ts ≡ true → (more : List Word) × (ts ≡ Fixed k ∷ more)
is_symbol k [] e = absurd (cc)
is_symbol k (Name bytes ∷ ts) e = absurd (low 0 (omega arith) e)
  where
    low : (a : ℕ) → a < suc (suc k) → ((a == suc (suc k)) || false) ≡ true → ⊥
    low a h f = grind (arith, nat_tests)
is_symbol k (Number value ∷ ts) e = absurd (low 1 (omega arith) e)
  where
    low : (a : ℕ) → a < suc (suc k) → ((a == suc (suc k)) || false) ≡ true → ⊥
    low a h f = grind (arith, nat_tests)
is_symbol k (Fixed which ∷ ts) e = let same : which ≡ k = one which e in (ts, ap (λ z. Fixed z ∷ ts) same)
  where
    one : (a : ℕ) → ((suc (suc a) == suc (suc k)) || false) ≡ true → a ≡ k
    one a f = grind (arith, nat_tests)

solid_begins : (first : List ℕ) (empty : Bool) (ws : List Word) → empty ≡ false → Begins first empty ws → Begins first false ws
solid_begins first empty [] e b = absurd (cc)
solid_begins first empty (w ∷ ws) e b = b

begins_longer : (first : List ℕ) (a b : List Word) → Begins first false a → Begins first false (a ++ b)
begins_longer first [] b g = absurd (cc)
begins_longer first (w ∷ a) b g = g

module _ {X : Type 0} (bar : List ℕ) (d k : ℕ) (goes ends : X → Bool) (F : Form X) (last : X) (p : Reader X) (E : Exact bar d F p) (solid : F.is_empty ≡ false)
    (apart : is_in F.goes_on (suc (suc k)) ≡ false) (some_way : (x : X) → goes x ≡ false → ends x ≡ true) (goes_if : (x : X) → ends x ≡ false → goes x ≡ true) (last_fits : (ends last && F.fits last) ≡ true) where
  -- the tokens of one part more
  one_more_words : (x : X) (xs : List X) (z : X) (r : List Word) → bare (chain_mark k F (x ∷ xs, z)) ++ r ≡ spell F x ++ (Fixed k ∷ (bare (chain_mark k F (xs, z)) ++ r))
  one_more_words x xs z r = ap (λ m. bare m ++ r) (append_assoc (before k F x) (joined (map (before k F) xs)) (F.mark z))
      ∙ bare_split (before k F x) (chain_mark k F (xs, z)) r ∙ bare_split (F.mark x) (plain (Fixed k) ∷ []) (bare (chain_mark k F (xs, z)) ++ r)

  one_more_mark : (x : X) (xs : List X) (z : X) → chain_mark k F (x ∷ xs, z) ≡ F.mark x ++ (plain (Fixed k) ∷ chain_mark k F (xs, z))
  one_more_mark x xs z = append_assoc (before k F x) (joined (map (before k F) xs)) (F.mark z) ∙ append_assoc (F.mark x) (plain (Fixed k) ∷ []) (chain_mark k F (xs, z))

  item_some : (x : X) → F.fits x ≡ true → 0 < length (spell F x)
  item_some x f = at (spell F x) (E.begins x f) F.is_empty solid
    where
      at : (ws : List Word) → Begins F.first F.is_empty ws → (b : Bool) → F.is_empty ≡ false → 0 < length ws
      at [] g b e = absurd (cc)
      at (w ∷ ws) g b e = omega arith

  high_is : (x : X) (xs : List X) (z : X) → highest (chain_mark k F (x ∷ xs, z)) ≡ max (highest (F.mark x)) (highest (chain_mark k F (xs, z)))
  high_is x xs z = ap highest (one_more_mark x xs z) ∙ highest-append (F.mark x) (plain (Fixed k) ∷ chain_mark k F (xs, z)) ∙ omega arith

  fewer : (x : X) (xs : List X) (z : X) (r : List Word) (n : ℕ) → length (bare (chain_mark k F (x ∷ xs, z)) ++ r) ≤ suc n → length (bare (chain_mark k F (xs, z)) ++ r) ≤ n
  fewer x xs z r n le = omega (arith, le, ap length (one_more_words x xs z r), length-append (spell F x) (Fixed k ∷ (bare (chain_mark k F (xs, z)) ++ r)))

  -- a turn, at a part that is read
  at_step : (n : ℕ) (ts : List Word) (x : X) (more : List Word) → p ts ≡ Done x (Fixed k ∷ more) → goes x ≡ true →
      chain_read (suc (suc k) ∷ []) goes ends p (suc n) ts ≡ longer x (chain_read (suc (suc k) ∷ []) goes ends p n more)
  at_step n ts x more e g = rw (e, semi_starts k more, g) refl

  at_last : (n : ℕ) (ts : List Word) (x : X) (more : List Word) → p ts ≡ Done x more → ends x ≡ true → starts (suc (suc k) ∷ []) more ≡ false → chain_read (suc (suc k) ∷ []) goes ends p (suc n) ts ≡ Done ([], x) more
  at_last n ts x more e g s = rw (e, s, g) refl

  last_comes : (n : ℕ) (z : X) (r : List Word) (m : Read X) → Comes d (highest (F.mark z)) z r m → ends z ≡ true → starts (suc (suc k) ∷ []) r ≡ false →
      Comes d (highest (F.mark z)) ([], z) r (m >>= λ x more. chain_turn (suc (suc k) ∷ []) goes ends (chain_read (suc (suc k) ∷ []) goes ends p n) x (starts (suc (suc k) ∷ []) more) more)
  last_comes n z r m (inl e) g s = inl (rw (e, s, g) refl)
  last_comes n z r m (inr h) g s = inr (deep_bind m _ h.0, h.1)

  longer_comes : (high all : ℕ) (x : X) (xs : List X) (z : X) (r : List Word) (m : Read (List X × X)) → high ≤ all → Comes d high (xs, z) r m → Comes d all (x ∷ xs, z) r (longer x m)
  longer_comes high all x xs z r m le (inl e) = inl (rw e refl)
  longer_comes high all x xs z r m le (inr h) = inr (deep_bind m _ h.0, omega (arith, h.1))

  step_comes : (n : ℕ) (x : X) (xs : List X) (z : X) (r : List Word) (m : Read X) → Comes d (highest (F.mark x)) x (Fixed k ∷ (bare (chain_mark k F (xs, z)) ++ r)) m → goes x ≡ true →
      Comes d (highest (chain_mark k F (xs, z))) (xs, z) r (chain_read (suc (suc k) ∷ []) goes ends p n (bare (chain_mark k F (xs, z)) ++ r)) →
      Comes d (highest (chain_mark k F (x ∷ xs, z))) (x ∷ xs, z) r (m >>= λ x more. chain_turn (suc (suc k) ∷ []) goes ends (chain_read (suc (suc k) ∷ []) goes ends p n) x (starts (suc (suc k) ∷ []) more) more)
  step_comes n x xs z r m (inl e) g c = rw (e, semi_starts k (bare (chain_mark k F (xs, z)) ++ r), g)
      (longer_comes (highest (chain_mark k F (xs, z))) (highest (chain_mark k F (x ∷ xs, z))) x xs z r _ (omega (arith, high_is x xs z)) c)
  step_comes n x xs z r m (inr h) g c = inr (deep_bind m _ h.0, omega (arith, h.1, high_is x xs z))

  chain_complete : (n : ℕ) (xs : List X) (z : X) (r : List Word) → length (bare (chain_mark k F (xs, z)) ++ r) ≤ n → all_true (map (λ x. goes x && F.fits x) xs) ≡ true → (ends z && F.fits z) ≡ true →
      starts F.goes_on r ≡ false → starts (suc (suc k) ∷ []) r ≡ false → Comes d (highest (chain_mark k F (xs, z))) (xs, z) r (chain_read (suc (suc k) ∷ []) goes ends p n (bare (chain_mark k F (xs, z)) ++ r))
  chain_complete zero [] z r le f g h s = absurd (omega (arith, le, item_some z (and_right _ _ g), length-append (spell F z) r))
  chain_complete zero (x ∷ xs) z r le f g h s = absurd (omega (arith, le, ap length (one_more_words x xs z r), length-append (spell F x) (Fixed k ∷ (bare (chain_mark k F (xs, z)) ++ r))))
  chain_complete (suc n) [] z r le f g h s = last_comes n z r (p (spell F z ++ r)) (E.complete z r (and_right _ _ g) h) (and_left _ _ g) s
  chain_complete (suc n) (x ∷ xs) z r le f g h s = rw (one_more_words x xs z r) (
      step_comes n x xs z r (p (spell F x ++ (Fixed k ∷ (bare (chain_mark k F (xs, z)) ++ r)))) (E.complete x _ (and_right _ _ (and_left _ _ f)) apart) (and_left (goes x) (F.fits x) (and_left _ _ f))
      (chain_complete n xs z r (fewer x xs z r n le) (and_right _ _ f) g h s))

  RightChain : List Word → Read (List X × X) → Type 0
  RightChain ts (Done s r) = FoundChain d k goes ends F last p ts s r
  RightChain ts (Bad why r) = FailsChain bar d k why goes ends F last p ts r

  -- the first part is wrong
  first_bad : (why : Why) (ts r : List Word) → Fails bar d why F p ts r → FailsChain bar d k why goes ends F last p ts r
  first_bad why ts r f = at (goes f.tree) refl
    where
      loc : why ≡ Syntax → (x : Word) (v w : List Word) (n : ℕ) → r ≡ x ∷ v → length (f.used ++ x ∷ w) ≤ n → chain_read (suc (suc k) ∷ []) goes ends p n (f.used ++ x ∷ w) ≡ Bad Syntax (x ∷ w)
      loc s x v w zero e le = absurd (omega (arith, le, length-append f.used (x ∷ w)))
      loc s x v w (suc n) e le = rw (f.local s x v w e) refl

      at : (b : Bool) → goes f.tree ≡ b → FailsChain bar d k why goes ends F last p ts r
      at true e = record {
        used = f.used;
        split = f.split;
        local = loc;
        tree = (f.tree ∷ [], last);
        fits = and_both _ _ (and_both _ _ (and_both _ _ e f.fits) refl) last_fits;
        seen = f.seen;
        more = f.more ++ (plain (Fixed k) ∷ F.mark last);
        seen_is = f.seen_is;
        viable = sym (append_assoc f.seen f.more (plain (Fixed k) ∷ F.mark last)) ∙ ap (λ z. z ++ (plain (Fixed k) ∷ F.mark last)) f.viable ∙ sym (one_more_mark f.tree [] last);
        shallow = f.shallow;
        deep = deep_append bar d why r f.more (plain (Fixed k) ∷ F.mark last) f.deep;
      }
      at false e = record {
        used = f.used;
        split = f.split;
        local = loc;
        tree = ([], f.tree);
        fits = and_both _ _ (some_way f.tree e) f.fits;
        seen = f.seen;
        more = f.more;
        seen_is = f.seen_is;
        viable = f.viable;
        shallow = f.shallow;
        deep = f.deep;
      }

  -- a part is read that isn't the last, and no symbol follows
  no_symbol : (ts : List Word) (x : X) (more : List Word) → Found d F p ts x more → ends x ≡ false → goes x ≡ true → starts (suc (suc k) ∷ []) more ≡ false → FailsChain bar d k Syntax goes ends F last p ts more
  no_symbol ts x more f e g s = record {
    used = spell F x;
    split = f.split;
    local = loc;
    tree = (x ∷ [], last);
    fits = and_both _ _ (and_both _ _ (and_both _ _ g f.fits) refl) last_fits;
    seen = F.mark x;
    more = plain (Fixed k) ∷ F.mark last;
    seen_is = refl;
    viable = sym (one_more_mark x [] last);
    shallow = subst (λ z. IsShallow bar d z more) (append-nil (F.mark x)) (shallow_append bar d (F.mark x) [] more f.low tt);
    deep = tt;
  }
    where
      loc : Syntax ≡ Syntax → (y : Word) (v w : List Word) (n : ℕ) → more ≡ y ∷ v → length (spell F x ++ y ∷ w) ≤ n → chain_read (suc (suc k) ∷ []) goes ends p n (spell F x ++ y ∷ w) ≡ Bad Syntax (y ∷ w)
      loc t y v w zero h le = absurd (omega (arith, le, length-append (spell F x) (y ∷ w)))
      loc t y v w (suc n) h le = rw (f.local [] y v w h, ap (starts (suc (suc k) ∷ [])) (sym h) ∙ s, e) refl

  -- the last part is read
  last_found : (ts : List Word) (x : X) (more : List Word) → Found d F p ts x more → ends x ≡ true → (starts (suc (suc k) ∷ []) more ≡ false) ⊎ (goes x ≡ false) → FoundChain d k goes ends F last p ts ([], x) more
  last_found ts x more f e s = record { split = f.split; fits = and_both _ _ e f.fits; low = f.low; local = λ u y v w n. loc s u y v w n }
    where
      turn : (b : Bool) (all : List Word) (n : ℕ) → (b ≡ false) ⊎ (goes x ≡ false) → chain_turn (suc (suc k) ∷ []) goes ends (chain_read (suc (suc k) ∷ []) goes ends p n) x b all ≡ Done ([], x) all
      turn true all n (inl t) = absurd (cc)
      turn true all n (inr t) = rw t refl
      turn false all n t = rw e refl

      loc : (starts (suc (suc k) ∷ []) more ≡ false) ⊎ (goes x ≡ false) → (u : List Word) (y : Word) (v w : List Word) (n : ℕ) → more ≡ u ++ y ∷ v → length (spell F x ++ (u ++ y ∷ w)) ≤ n →
          chain_read (suc (suc k) ∷ []) goes ends p n (spell F x ++ (u ++ y ∷ w)) ≡ Done ([], x) (u ++ y ∷ w)
      loc t u y v w zero h le = absurd (omega (arith, le, length-append (spell F x) (u ++ y ∷ w), length-append u (y ∷ w)))
      loc (inl t) u y v w (suc n) h le = rw (f.local u y v w h) (turn (starts (suc (suc k) ∷ []) (u ++ y ∷ w)) (u ++ y ∷ w) n (inl (starts_same (suc (suc k) ∷ []) u y w v ∙ ap (starts (suc (suc k) ∷ [])) (sym h) ∙ t)))
      loc (inr t) u y v w (suc n) h le = rw (f.local u y v w h) (turn (starts (suc (suc k) ∷ []) (u ++ y ∷ w)) (u ++ y ∷ w) n (inr t))

  -- a part is read, and a symbol follows, and further parts
  further : (ts : List Word) (x : X) (more : List Word) → Found d F p ts x (Fixed k ∷ more) → goes x ≡ true → (m : Read (List X × X)) → RightChain more m → RightChain ts (longer x m)
  unfolding RightChain
  further ts x more f g (Done (xs, z) r) h = record {
    split = f.split ∙ ap (λ q. spell F x ++ (Fixed k ∷ q)) h.split ∙ sym (one_more_words x xs z r);
    fits = and_both _ _ (and_both _ _ (and_both _ _ g f.fits) (and_left _ _ h.fits)) (and_right _ _ h.fits);
    low = omega (arith, f.low, h.low, high_is x xs z);
    local = loc;
  }
    where
      reads : (u : List Word) (y : Word) (v w : List Word) → r ≡ u ++ y ∷ v → p (spell F x ++ (Fixed k ∷ (bare (chain_mark k F (xs, z)) ++ (u ++ y ∷ w)))) ≡ Done x (Fixed k ∷ (bare (chain_mark k F (xs, z)) ++ (u ++ y ∷ w)))
      reads u y v w e = let a : p (spell F x ++ ((Fixed k ∷ (bare (chain_mark k F (xs, z)) ++ u)) ++ y ∷ w)) ≡ Done x ((Fixed k ∷ (bare (chain_mark k F (xs, z)) ++ u)) ++ y ∷ w)
          = f.local (Fixed k ∷ (bare (chain_mark k F (xs, z)) ++ u)) y v w (ap (λ q. Fixed k ∷ q) (h.split ∙ ap (λ q. bare (chain_mark k F (xs, z)) ++ q) e ∙ sym (append_assoc (bare (chain_mark k F (xs, z))) u (y ∷ v))))
          in rw (append_assoc (bare (chain_mark k F (xs, z))) u (y ∷ w)) at a

      loc : (u : List Word) (y : Word) (v w : List Word) (n : ℕ) → r ≡ u ++ y ∷ v → length (bare (chain_mark k F (x ∷ xs, z)) ++ (u ++ y ∷ w)) ≤ n →
          chain_read (suc (suc k) ∷ []) goes ends p n (bare (chain_mark k F (x ∷ xs, z)) ++ (u ++ y ∷ w)) ≡ Done (x ∷ xs, z) (u ++ y ∷ w)
      loc u y v w zero e le = absurd (omega (arith, le, length-append (bare (chain_mark k F (x ∷ xs, z))) (u ++ y ∷ w), length-append u (y ∷ w)))
      loc u y v w (suc n) e le = ap (chain_read (suc (suc k) ∷ []) goes ends p (suc n)) (one_more_words x xs z (u ++ y ∷ w))
          ∙ at_step n _ x (bare (chain_mark k F (xs, z)) ++ (u ++ y ∷ w)) (reads u y v w e) g ∙ ap (longer x) (h.local u y v w n e (fewer x xs z (u ++ y ∷ w) n le))
  further ts x more f g (Bad why r) h = record {
    used = spell F x ++ (Fixed k ∷ h.used);
    split = f.split ∙ ap (λ q. spell F x ++ (Fixed k ∷ q)) h.split ∙ sym (append_assoc (spell F x) (Fixed k ∷ h.used) r);
    local = loc;
    tree = (x ∷ h.tree.0, h.tree.1);
    fits = and_both _ _ (and_both _ _ (and_both _ _ g f.fits) (and_left _ _ h.fits)) (and_right _ _ h.fits);
    seen = F.mark x ++ (plain (Fixed k) ∷ h.seen);
    more = h.more;
    seen_is = bare-append (F.mark x) (plain (Fixed k) ∷ h.seen) ∙ ap (λ q. spell F x ++ (Fixed k ∷ q)) h.seen_is;
    viable = append_assoc (F.mark x) (plain (Fixed k) ∷ h.seen) h.more ∙ ap (λ q. F.mark x ++ (plain (Fixed k) ∷ q)) h.viable ∙ sym (one_more_mark x h.tree.0 h.tree.1);
    shallow = shallow_append bar d (F.mark x) (plain (Fixed k) ∷ h.seen) r f.low (omega arith, h.shallow);
    deep = h.deep;
  }
    where
      loc : why ≡ Syntax → (y : Word) (v w : List Word) (n : ℕ) → r ≡ y ∷ v → length ((spell F x ++ (Fixed k ∷ h.used)) ++ y ∷ w) ≤ n →
          chain_read (suc (suc k) ∷ []) goes ends p n ((spell F x ++ (Fixed k ∷ h.used)) ++ y ∷ w) ≡ Bad Syntax (y ∷ w)
      loc s y v w zero e le = absurd (omega (arith, le, length-append (spell F x ++ (Fixed k ∷ h.used)) (y ∷ w)))
      loc s y v w (suc n) e le = ap (chain_read (suc (suc k) ∷ []) goes ends p (suc n)) (append_assoc (spell F x) (Fixed k ∷ h.used) (y ∷ w))
          ∙ at_step n _ x (h.used ++ y ∷ w) (f.local (Fixed k ∷ h.used) y v w (ap (λ q. Fixed k ∷ q) (h.split ∙ ap (λ q. h.used ++ q) e))) g
          ∙ ap (longer x) (h.local s y v w n e (omega (arith, le, length-append (spell F x ++ (Fixed k ∷ h.used)) (y ∷ w), length-append (spell F x) (Fixed k ∷ h.used), length-append h.used (y ∷ w))))

  -- after a part is read
  at_symbol : (n : ℕ) (ts : List Word) (x : X) (more : List Word) → Found d F p ts x more → ((us : List Word) → length us ≤ n → RightChain us (chain_read (suc (suc k) ∷ []) goes ends p n us)) → length ts ≤ suc n →
      starts (suc (suc k) ∷ []) more ≡ true → (b : Bool) → goes x ≡ b → RightChain ts (cond b (longer x (chain_read (suc (suc k) ∷ []) goes ends p n (after_first more))) (Done ([], x) more))
  unfolding RightChain
  at_symbol n ts x more f IH le s true g = at (is_symbol k more s)
    where
      at : (v : List Word) × (more ≡ Fixed k ∷ v) → RightChain ts (longer x (chain_read (suc (suc k) ∷ []) goes ends p n (after_first more)))
      at (v, e) = rw e (further ts x v (subst (Found d F p ts x) e f) g (chain_read (suc (suc k) ∷ []) goes ends p n v)
          (IH v (omega (arith, le, ap length f.split, ap length e, length-append (spell F x) more))))
  at_symbol n ts x more f IH le s false g = last_found ts x more f (some_way x g) (inr g)

  after_last : (ts : List Word) (x : X) (more : List Word) → Found d F p ts x more → starts (suc (suc k) ∷ []) more ≡ false → (b : Bool) → ends x ≡ b → RightChain ts (cond b (Done ([], x) more) (Bad Syntax more))
  unfolding RightChain
  after_last ts x more f s true e = last_found ts x more f e (inl s)
  after_last ts x more f s false e = no_symbol ts x more f e (goes_if x e) s

  at_part : (n : ℕ) (ts : List Word) (x : X) (more : List Word) → Found d F p ts x more → ((us : List Word) → length us ≤ n → RightChain us (chain_read (suc (suc k) ∷ []) goes ends p n us)) → length ts ≤ suc n →
      (b : Bool) → starts (suc (suc k) ∷ []) more ≡ b → RightChain ts (chain_turn (suc (suc k) ∷ []) goes ends (chain_read (suc (suc k) ∷ []) goes ends p n) x b more)
  at_part n ts x more f IH le true s = at_symbol n ts x more f IH le s (goes x) refl
  at_part n ts x more f IH le false s = after_last ts x more f s (ends x) refl

  at_parts : (n : ℕ) (ts : List Word) → ((us : List Word) → length us ≤ n → RightChain us (chain_read (suc (suc k) ∷ []) goes ends p n us)) → length ts ≤ suc n → (m : Read X) → Right bar d F p ts m →
      RightChain ts (m >>= λ x more. chain_turn (suc (suc k) ∷ []) goes ends (chain_read (suc (suc k) ∷ []) goes ends p n) x (starts (suc (suc k) ∷ []) more) more)
  unfolding RightChain
  at_parts n ts IH le (Done x more) f = at_part n ts x more f IH le (starts (suc (suc k) ∷ []) more) refl
  at_parts n ts IH le (Bad why r) f = first_bad why ts r f

  nothing : FailsChain bar d k Syntax goes ends F last p [] []
  nothing = record {
    used = [];
    split = refl;
    local = λ s x v w n e. absurd (cc);
    tree = ([], last);
    fits = last_fits;
    seen = [];
    more = F.mark last;
    seen_is = refl;
    viable = refl;
    shallow = tt;
    deep = tt;
  }

  chain_sound : (n : ℕ) (ts : List Word) → length ts ≤ n → RightChain ts (chain_read (suc (suc k) ∷ []) goes ends p n ts)
  unfolding RightChain
  chain_sound zero [] le = nothing
  chain_sound zero (t ∷ ts) le = absurd (omega (arith, le))
  chain_sound (suc n) ts le = at_parts n ts (chain_sound n) le (p ts) (E.sound ts)

  -- with as many turns as there are tokens
  as_chain : (ts : List Word) (m : Read (List X × X)) → RightChain ts m → Right bar d (chain k goes ends F last) (all_chain_read (suc (suc k) ∷ []) goes ends p) ts m
  unfolding RightChain
  as_chain ts (Done s r) f = record { split = f.split; fits = f.fits; low = f.low; local = λ u y v w e. f.local u y v w (length (bare (chain_mark k F s) ++ (u ++ y ∷ w))) e (omega arith) }
  as_chain ts (Bad why r) f = record {
    used = f.used;
    split = f.split;
    local = λ s x v w e. f.local s x v w (length (f.used ++ x ∷ w)) e (omega arith);
    tree = f.tree;
    fits = f.fits;
    seen = f.seen;
    more = f.more;
    seen_is = f.seen_is;
    viable = f.viable;
    shallow = f.shallow;
    deep = f.deep;
  }

  chain_begins : (s : List X × X) → (chain k goes ends F last).fits s ≡ true → Begins F.first false (bare (chain_mark k F s))
  chain_begins ([], z) f = solid_begins F.first F.is_empty (spell F z) solid (E.begins z (and_right _ _ f))
  chain_begins (x ∷ xs, z) f = subst (λ (m : List Mark). Begins F.first false (bare m)) (sym (one_more_mark x xs z)) (subst (Begins F.first false) (sym (bare-append (F.mark x) (plain (Fixed k) ∷ chain_mark k F (xs, z))))
      (begins_longer F.first (spell F x) _ (solid_begins F.first F.is_empty (spell F x) solid (E.begins x (and_right (goes x) _ (and_left _ _ (and_left _ _ f)))))))

  pub chain_exact : Exact bar d (chain k goes ends F last) (all_chain_read (suc (suc k) ∷ []) goes ends p)
  chain_exact = record {
    complete = λ s r f g. chain_complete (length (bare (chain_mark k F s) ++ r)) s.0 s.1 r (omega arith) (and_left _ _ f) (and_right _ _ f)
        (or_left _ _ (sym (starts-append F.goes_on _ r) ∙ g)) (or_right (starts F.goes_on r) _ (sym (starts-append F.goes_on _ r) ∙ g));
    sound = λ ts. as_chain ts (chain_read (suc (suc k) ∷ []) goes ends p (length ts) ts) (chain_sound (length ts) ts (omega arith));
    begins = chain_begins;
    some_fits = last_fits;
  }
