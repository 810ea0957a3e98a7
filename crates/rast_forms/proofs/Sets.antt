-- Sets of kinds, as lists.
use Rattle.std.proofs.Common.{◌≡◌, ℕ, Bool, true, false, not, ◌&&◌, ◌||◌, ◌==◌, cond, List, [], ◌∷◌, ◌++◌, ap, ap₂, sym, ◌∙◌, refl, subst, ◌⊎◌, inl, inr, arith}
use Rattle.std.proofs.lemmas.Bool.{eqb-true, eq-eqb}
use Rattle.rast_forms.specs.Words.{Word, key_of, is_in, starts, is_apart, is_within}

pub and_left : (a b : Bool) → (a && b) ≡ true → a ≡ true
and_left true b e = refl
and_left false b e = absurd (cc)

pub and_right : (a b : Bool) → (a && b) ≡ true → b ≡ true
and_right true b e = e
and_right false b e = absurd (cc)

pub and_both : (a b : Bool) → a ≡ true → b ≡ true → (a && b) ≡ true
and_both true b e f = f
and_both false b e f = absurd (cc)

pub or_left : (a b : Bool) → (a || b) ≡ false → a ≡ false
or_left true b e = absurd (cc)
or_left false b e = refl

pub or_right : (a b : Bool) → (a || b) ≡ false → b ≡ false
or_right true b e = absurd (cc)
or_right false b e = e

pub not_true : (b : Bool) → not b ≡ true → b ≡ false
not_true true e = absurd (cc)
not_true false e = refl

pub is_in-append : (xs ys : List ℕ) (k : ℕ) → is_in (xs ++ ys) k ≡ (is_in xs k || is_in ys k)
is_in-append [] ys k = refl
is_in-append (x ∷ xs) ys k = ap (λ b. (k == x) || b) (is_in-append xs ys k) ∙ regroup (k == x) (is_in xs k) (is_in ys k)
  where
    regroup : (a b c : Bool) → (a || (b || c)) ≡ ((a || b) || c)
    regroup true b c = refl
    regroup false b c = refl

pub starts-append : (xs ys : List ℕ) (ws : List Word) → starts (xs ++ ys) ws ≡ (starts xs ws || starts ys ws)
starts-append xs ys [] = refl
starts-append xs ys (w ∷ ws) = is_in-append xs ys (key_of w)

same_in : (k x : ℕ) (ys : List ℕ) → (k == x) ≡ true → is_in ys k ≡ is_in ys x
same_in k x ys e = ap (is_in ys) (eqb-true k x e)

pub apart_false : (xs ys : List ℕ) (k : ℕ) → is_apart xs ys ≡ true → is_in ys k ≡ true → is_in xs k ≡ false
apart_false [] ys k a h = refl
apart_false (x ∷ xs) ys k a h = at (k == x) refl (apart_false xs ys k (and_right _ _ a) h)
  where
    at : (b : Bool) → (k == x) ≡ b → is_in xs k ≡ false → (b || is_in xs k) ≡ false
    at true e g = absurd (let f : is_in ys x ≡ false = not_true _ (and_left _ _ a) in let i : is_in ys k ≡ is_in ys x = same_in k x ys e in cc)
    at false e g = g

pub within_true : (xs ys : List ℕ) (k : ℕ) → is_within xs ys ≡ true → is_in xs k ≡ true → is_in ys k ≡ true
within_true [] ys k a h = absurd (cc)
within_true (x ∷ xs) ys k a h = at (k == x) refl h (λ g. within_true xs ys k (and_right _ _ a) g)
  where
    at : (b : Bool) → (k == x) ≡ b → (b || is_in xs k) ≡ true → (is_in xs k ≡ true → is_in ys k ≡ true) → is_in ys k ≡ true
    at true e g f = same_in k x ys e ∙ and_left _ _ a
    at false e g f = f g

pub within_false : (xs ys : List ℕ) (k : ℕ) → is_within xs ys ≡ true → is_in ys k ≡ false → is_in xs k ≡ false
within_false xs ys k a h = at (is_in xs k) refl
  where
    at : (b : Bool) → is_in xs k ≡ b → b ≡ false
    at true e = absurd (let f : is_in ys k ≡ true = within_true xs ys k a e in cc)
    at false e = refl

pub starts_within : (xs ys : List ℕ) (ws : List Word) → is_within xs ys ≡ true → starts ys ws ≡ false → starts xs ws ≡ false
starts_within xs ys [] a h = refl
starts_within xs ys (w ∷ ws) a h = within_false xs ys (key_of w) a h

-- what a list of tokens starts with is in its first token
pub starts_same : (cs : List ℕ) (u : List Word) (x : Word) (v w : List Word) → starts cs (u ++ x ∷ v) ≡ starts cs (u ++ x ∷ w)
starts_same cs [] x v w = refl
starts_same cs (y ∷ u) x v w = refl

within_more : (xs ys : List ℕ) (y : ℕ) → is_within xs ys ≡ true → is_within xs (y ∷ ys) ≡ true
within_more [] ys y h = refl
within_more (x ∷ xs) ys y h = and_both _ _ (or_more (x == y) (is_in ys x) (and_left _ _ h)) (within_more xs ys y (and_right _ _ h))
  where
    or_more : (a b : Bool) → b ≡ true → (a || b) ≡ true
    or_more true b e = refl
    or_more false b e = e

pub within_refl : (xs : List ℕ) → is_within xs xs ≡ true
within_refl [] = refl
within_refl (x ∷ xs) = and_both _ _ (rw (eq-eqb x x refl) refl) (within_more xs xs x (within_refl xs))

-- a set is within a longer one
pub within_second : (ys xs zs : List ℕ) → is_within xs zs ≡ true → is_within xs (ys ++ zs) ≡ true
within_second [] xs zs h = h
within_second (y ∷ ys) xs zs h = within_more xs (ys ++ zs) y (within_second ys xs zs h)

pub within_append : (ys xs : List ℕ) → is_within xs (ys ++ xs) ≡ true
within_append ys xs = within_second ys xs xs (within_refl xs)
