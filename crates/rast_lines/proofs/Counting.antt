-- The numbers that are kept beside a list of names: what they say of a new name, and that they stay right.
use Rattle.std.proofs.Common.{arith, ◌≡◌, ◌∙◌, ℕ, ◌+◌, ◌<◌, ◌≤◌, Bool, true, false, ◌||◌, cond, if◌then◌else◌, List, [], ◌∷◌, ◌++◌, length, is_some, Option, Some, None, Result, Ok, Err, ◌⊎◌, inl, inr, refl, sym, ap, subst}
use Rattle.std.specs.Prelude.{IfSome, MatchOption, OnOk, OnErr}
use Rattle.std.specs.Option.{IsSome}
use Rattle.std.specs.Str.{bytes_eq}
use Rattle.std.specs.Map.{KeepsOthers}
use Rattle.std.specs.HashMap.{HashMap, UpdatesBy}
use Rattle.std.specs.declared.vec.Vec.{Vec}
use Rattle.std.proofs.lemmas.Bool.{cases_lt}
use Rattle.std.proofs.lemmas.List.{length-append}
use Rattle.std.proofs.lemmas.Slice.Eq.{bytes_eq-Decides}
use Rattle.rast_terms.specs.Texts.{Text}
use Rattle.rast_lines.specs.NewNames.{numbered_name, is_taken, free_from, with_new}
use Rattle.rast_lines.specs.Numbers.{found, AreUsed, IsNumbered, Puts, HaveSame}

-- ---- the first free number

-- Where the numbers from i on that are below k are taken, and k isn't, or is the last that may be tried, the first free number is k.
reached : (ts : List Text) (i k : ℕ) (taken : List Text) (name : Text) → i ≤ k → k ≤ i + length ts → ((j : ℕ) → i ≤ j → j < k → is_taken taken (numbered_name name j) ≡ true) →
    (k < i + length ts → is_taken taken (numbered_name name k) ≡ false) → free_from ts i taken name ≡ numbered_name name k
reached [] i k taken name low high used free = ap (numbered_name name) (omega arith)
reached (t ∷ ts) i k taken name low high used free = by (is_taken taken (numbered_name name i)) refl (cases_lt i k)
    (λ less. reached ts (i + 1) k taken name (omega arith) (omega arith) (λ j l h. used j (omega arith) h) (λ h. free (omega arith)))
  where
    by : (b : Bool) → is_taken taken (numbered_name name i) ≡ b → (i < k) ⊎ (k ≤ i) → (i < k → free_from ts (i + 1) taken name ≡ numbered_name name k) →
        (if b then free_from ts (i + 1) taken name else numbered_name name i) ≡ numbered_name name k
    by true e (inl less) rest = rest less
    by true e (inr least) rest =
        let same : i ≡ k = omega (arith, low, least) in
        let no : true ≡ false = sym e ∙ ap (λ n. is_taken taken (numbered_name name n)) same ∙ free (omega arith) in
        absurd (cc no)
    by false e (inl less) rest = let no : true ≡ false = sym (used i (omega arith) less) ∙ e in absurd (cc no)
    by false e (inr least) rest = ap (numbered_name name) (omega (arith, low, least))

module _ (taken : List Text) (name : Text) where
  pub free_here : (k : ℕ) → AreUsed taken name k → is_taken taken (numbered_name name k) ≡ false → numbered_name name k ≡ free_from taken 1 taken name
  free_here k used free = sym (reached taken 1 k taken name used.0 (let h = used.1 in omega arith) used.2 (λ h. free))

  pub free_last : (k : ℕ) → AreUsed taken name k → length taken < k → numbered_name name k ≡ free_from taken 1 taken name
  free_last k used least = sym (reached taken 1 k taken name used.0 (let h = used.1 in omega arith) used.2 (λ h. absurd (omega arith)))

  -- a further number is taken
  pub used_on : (k : ℕ) → AreUsed taken name k → k ≤ length taken → is_taken taken (numbered_name name k) ≡ true → AreUsed taken name (k + 1)
  used_on k used within here = (let l = used.0 in omega (arith, l), omega (arith, within), λ j low high. by j low high (cases_lt j k))
    where
      by : (j : ℕ) → 1 ≤ j → j < k + 1 → (j < k) ⊎ (k ≤ j) → is_taken taken (numbered_name name j) ≡ true
      by j low high (inl less) = used.2 j low less
      by j low high (inr least) = let same : j ≡ k = omega arith in ap (λ n. is_taken taken (numbered_name name n)) same ∙ here

-- ---- one more name

taken_more : (taken : List Text) (p q : Text) → is_taken (taken ++ p ∷ []) q ≡ (is_taken taken q || bytes_eq p q)
taken_more [] p q = last (bytes_eq p q)
  where
    last : (b : Bool) → (b || false) ≡ b
    last true = refl
    last false = refl
taken_more (t ∷ ts) p q = ap (λ b. bytes_eq t q || b) (taken_more ts p q) ∙ joined (bytes_eq t q) (is_taken ts q) (bytes_eq p q)
  where
    joined : (a b c : Bool) → (a || (b || c)) ≡ ((a || b) || c)
    joined true b c = refl
    joined false b c = refl

still_taken : (taken : List Text) (p q : Text) → is_taken taken q ≡ true → is_taken (taken ++ p ∷ []) q ≡ true
still_taken taken p q e = taken_more taken p q ∙ ap (λ b. b || bytes_eq p q) e

last_taken : (taken : List Text) (p : Text) → is_taken (taken ++ p ∷ []) p ≡ true
last_taken taken p = taken_more taken p p ∙ ap (λ b. is_taken taken p || b) ((bytes_eq-Decides p p).1 refl) ∙ last (is_taken taken p)
  where
    last : (b : Bool) → (b || true) ≡ true
    last true = refl
    last false = refl

longer : (taken : List Text) (p : Text) → length (taken ++ p ∷ []) ≡ length taken + 1
longer taken p = length-append taken (p ∷ [])

used_more : (taken : List Text) (p name : Text) (k : ℕ) → AreUsed taken name k → AreUsed (taken ++ p ∷ []) name k
used_more taken p name k used = (used.0, let h = used.1 in let l = longer taken p in omega arith, λ j low high. still_taken taken p (numbered_name name j) (used.2 j low high))

-- a name that is put behind the list with a number, and the next number
pub taken_after : (taken more : List Text) (p name : Text) → more ≡ taken ++ p ∷ [] → is_taken taken name ≡ true → is_taken more name ≡ true
taken_after taken more p name e h = ap (λ ns. is_taken ns name) e ∙ still_taken taken p name h

pub used_after : (taken more : List Text) (p name : Text) (k : ℕ) → more ≡ taken ++ p ∷ [] → p ≡ numbered_name name k → AreUsed taken name k → AreUsed more name (k + 1)
used_after taken more p name k e is used = subst (λ ns. AreUsed ns name (k + 1)) (sym e) (used_on (taken ++ p ∷ []) name k (used_more taken p name k used) (let h = used.1 in let l = longer taken p in omega arith) here)
  where
    here : is_taken (taken ++ p ∷ []) (numbered_name name k) ≡ true
    here = ap (is_taken (taken ++ p ∷ [])) (sym is) ∙ last_taken taken p

-- ---- the list with one more

pub with_free : {U E : Type 0} (r : Result U E) (taken more : List Text) (name : Text) → is_taken taken name ≡ false → OnOk r (more ≡ taken ++ name ∷ []) → OnOk r (more ≡ with_new taken name)
with_free {U} {E} (Ok u) taken more name free h = h ∙ ap (λ b. taken ++ (if b then free_from taken 1 taken name else name) ∷ []) (sym free)
with_free {U} {E} (Err e) taken more name free h = tt

-- ---- the map

turned : (n m : Text) → bytes_eq n m ≡ false → bytes_eq m n ≡ false
turned n m d = flip (bytes_eq m n) refl
  where
    flip : (b : Bool) → bytes_eq m n ≡ b → b ≡ false
    flip false f = refl
    flip true f = sym ((bytes_eq-Decides n m).1 (sym ((bytes_eq-Decides m n).0 f))) ∙ d

module _ {Y S : Type 0} (old new : HashMap (Vec ℕ Y) ℕ S) (n : Text) (w : ℕ) where
  puts : UpdatesBy (λ x y. bytes_eq x.items y.items) (λ k. bytes_eq n k.items) old new (Some w) → Puts old new n w
  unfolding KeepsOthers
  puts h m = by (bytes_eq n m) refl
    where
      by : (b : Bool) → bytes_eq n m ≡ b → found new m ≡ cond b (Some w) (found old m)
      by true e = let same : n ≡ m = (bytes_eq-Decides n m).0 e in subst (λ z. found new z ≡ Some w) same h.1
      by false e = h.3 (λ k. bytes_eq m k.items)
          (λ x y t. let same : m ≡ x.items = (bytes_eq-Decides m x.items).0 t in ap (λ z. bytes_eq z y.items) same)
          (λ k t. let same : n ≡ k.items = (bytes_eq-Decides n k.items).0 t in turned k.items m (subst (λ z. bytes_eq z m ≡ false) same e))

  -- a change at a key with these bytes
  pub puts_named : (z : Text) → n ≡ z → UpdatesBy (λ x y. bytes_eq x.items y.items) (λ k. bytes_eq n k.items) old new (Some w) → Puts old new z w
  puts_named z e h = subst (λ y. Puts old new y w) e (puts h)

-- what is known of a name: whether it is taken, and with which numbers behind it
abbrev Known : List Text → Text → Option ℕ → Type 0
Known taken name o = (is_some o ≡ is_taken taken name) × IfSome o (AreUsed taken name)

known_more : (taken : List Text) (p q : Text) (o : Option ℕ) → bytes_eq p q ≡ false → Known taken q o → Known (taken ++ p ∷ []) q o
known_more taken p q o other h = (h.0 ∙ sym (taken_more taken p q ∙ ap (λ b. is_taken taken q || b) other ∙ none (is_taken taken q)), by o h.1)
  where
    none : (b : Bool) → (b || false) ≡ b
    none true = refl
    none false = refl

    by : (o : Option ℕ) → IfSome o (AreUsed taken q) → IfSome o (AreUsed (taken ++ p ∷ []) q)
    by None u = tt
    by (Some k) u = used_more taken p q k u

module _ {Y S : Type 0} (m : HashMap (Vec ℕ Y) ℕ S) (taken : List Text) (numbered : IsNumbered m taken) where
  pub has_numbered : (r : Bool) (z n : Text) (names : List Text) → r ≡ is_some (found m z) → z ≡ n → taken ≡ names → r ≡ is_taken names n
  has_numbered r z n names h e g = h ∙ ap (λ y. is_some (found m y)) e ∙ (numbered n).0 ∙ ap (λ ns. is_taken ns n) g

  -- what is found for a name
  pub used_found : (r : Option ℕ) (n : Text) (names : List Text) → r ≡ found m n → taken ≡ names → MatchOption r (is_taken names n ≡ false) (λ k. (is_taken names n ≡ true) × AreUsed names n k)
  used_found r n names h g = subst (λ ns. MatchOption r (is_taken ns n ≡ false) (λ k. (is_taken ns n ≡ true) × AreUsed ns n k)) g (by r h)
    where
      by : (o : Option ℕ) → o ≡ found m n → MatchOption o (is_taken taken n ≡ false) (λ k. (is_taken taken n ≡ true) × AreUsed taken n k)
      by None e = sym (numbered n).0 ∙ ap is_some (sym e)
      by (Some k) e = (sym (numbered n).0 ∙ ap is_some (sym e), subst (λ o. IfSome o (AreUsed taken n)) (sym e) (numbered n).1)

  pub is_found : (n : Text) → is_taken taken n ≡ true → IsSome (found m n)
  is_found n e = by (found m n) ((numbered n).0 ∙ e)
    where
      by : (o : Option ℕ) → is_some o ≡ true → IsSome o
      by None h = cc
      by (Some k) h = refl

  -- one more name: it was taken before, or gets the number 1
  pub numbered_known : (z p : Text) (names : List Text) → is_some (found m z) ≡ true → z ≡ p → names ≡ taken ++ p ∷ [] → IsNumbered m names
  numbered_known z p names h e g = subst (IsNumbered m) (sym g) here
    where
      there : is_taken taken p ≡ true
      there = sym (numbered p).0 ∙ ap (λ y. is_some (found m y)) (sym e) ∙ h

      here : IsNumbered m (taken ++ p ∷ [])
      here q = by (bytes_eq p q) refl
        where
          more : (o : Option ℕ) → IfSome o (AreUsed taken q) → IfSome o (AreUsed (taken ++ p ∷ []) q)
          more None u = tt
          more (Some k) u = used_more taken p q k u

          by : (b : Bool) → bytes_eq p q ≡ b → (is_some (found m q) ≡ is_taken (taken ++ p ∷ []) q) × IfSome (found m q) (AreUsed (taken ++ p ∷ []) q)
          by true s =
              let same : p ≡ q = (bytes_eq-Decides p q).0 s in
              let was : is_taken taken q ≡ true = subst (λ y. is_taken taken y ≡ true) same there in
              ((numbered q).0 ∙ was ∙ sym (still_taken taken p q was), more (found m q) (numbered q).1)
          by false s = known_more taken p q (found m q) s (numbered q)

  pub known_answer : {U E : Type 0} (r : Result U E) (z p : Text) (names : List Text) → is_some (found m z) ≡ true → z ≡ p → OnOk r (names ≡ taken ++ p ∷ []) → OnErr r (names ≡ taken) → IsNumbered m names
  known_answer {U} {E} (Ok u) z p names h e ok err = numbered_known z p names h e ok
  known_answer {U} {E} (Err x) z p names h e ok err = subst (IsNumbered m) (sym err) numbered

  module _ (new : HashMap (Vec ℕ Y) ℕ S) where
    pub numbered_added : (p : Text) (names : List Text) → Puts m new p 1 → names ≡ taken ++ p ∷ [] → IsNumbered new names
    numbered_added p names puts g = subst (IsNumbered new) (sym g) here
      where
        here : IsNumbered new (taken ++ p ∷ [])
        here q = subst (Known (taken ++ p ∷ []) q) (sym (puts q)) (by (bytes_eq p q) refl)
          where
            by : (b : Bool) → bytes_eq p q ≡ b → Known (taken ++ p ∷ []) q (if b then Some 1 else found m q)
            by true s =
                let same : p ≡ q = (bytes_eq-Decides p q).0 s in
                (sym (subst (λ y. is_taken (taken ++ p ∷ []) y ≡ true) same (last_taken taken p)), (omega arith, omega arith, λ j low high. absurd (omega arith)))
            by false s = known_more taken p q (found m q) s (numbered q)

    pub numbered_same : (names : List Text) → HaveSame m new → names ≡ taken → IsNumbered new names
    numbered_same names same g = subst (IsNumbered new) (sym g) (λ q. subst (Known taken q) (sym (same q)) (numbered q))

    pub numbered_set : (p : Text) (k : ℕ) → is_taken taken p ≡ true → AreUsed taken p k → Puts m new p k → IsNumbered new taken
    numbered_set p k there used puts q = subst (Known taken q) (sym (puts q)) (by (bytes_eq p q) refl)
      where
        by : (b : Bool) → bytes_eq p q ≡ b → Known taken q (if b then Some k else found m q)
        by true s =
            let same : p ≡ q = (bytes_eq-Decides p q).0 s in
            (sym (subst (λ y. is_taken taken y ≡ true) same there), subst (λ y. AreUsed taken y k) same used)
        by false s = numbered q
