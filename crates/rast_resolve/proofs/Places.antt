-- Places of names in lists, and what maps have for them.
use Rattle.std.proofs.Common.{◌≡◌, ℕ, suc, ◌+◌, Bool, true, false, cond, List, [], ◌∷◌, ◌++◌, length, sym, ◌∙◌, ap, ap₂, refl, Option, Some, None, add-zero, is_some, subst, zero-add, arith, ◌||◌, append_assoc, ◌<◌, ◌-◌, add-one, IfSome}
use Rattle.std.specs.Str.{bytes_eq}
use Rattle.std.specs.Map.{KeepsOthers}
use Rattle.std.specs.HashMap.{HashMap, UpdatesBy}
use Rattle.std.specs.declared.vec.Vec.{Vec}
use Rattle.std.proofs.lemmas.Slice.Eq.{bytes_eq-Decides}
use Rattle.std.proofs.lemmas.List.{same_from_push, append-nil}
use Rattle.std.specs.Option.{IsSome}
use Rattle.rast_resolve.specs.Scopes.{Text, Texts, place_from, place_of, newest_from, newest_of, is_among, walked_from, walked_name}
use Rattle.rast_resolve.specs.Maps.{found, Puts, FindsFirst, FindsNewest, hides, hides_from}

abbrev pub or_here : Option ℕ → Option ℕ → Option ℕ
or_here (Some k) o = Some k
or_here None o = o

-- the place of a name in a list with one more name
place_last : (k : ℕ) (m n : Text) (ns : Texts) → place_from k m (ns ++ n ∷ []) ≡ or_here (place_from k m ns) (cond (bytes_eq m n) (Some (k + length ns)) None)
place_last k m n [] = ap (λ j. cond (bytes_eq m n) (Some j) None) (sym (add-zero k))
place_last k m n (x ∷ ns) = split (bytes_eq m x) (place_last (suc k) m n ns ∙ ap (λ j. or_here (place_from (suc k) m ns) (cond (bytes_eq m n) (Some j) None)) (shift k (length ns)))
  where
    shift : (a b : ℕ) → suc a + b ≡ a + suc b
    shift a b = omega arith

    split : (b : Bool) → place_from (suc k) m (ns ++ n ∷ []) ≡ or_here (place_from (suc k) m ns) (cond (bytes_eq m n) (Some (k + suc (length ns))) None) → cond b (Some k) (place_from (suc k) m (ns ++ n ∷ [])) ≡ or_here (cond b (Some k) (place_from (suc k) m ns)) (cond (bytes_eq m n) (Some (k + suc (length ns))) None)
    split true h = refl
    split false h = h

pub place_more : (m n : Text) (ns : Texts) → place_of m (ns ++ n ∷ []) ≡ or_here (place_of m ns) (cond (bytes_eq m n) (Some (length ns)) None)
place_more m n ns = place_last 0 m n ns ∙ ap (λ j. or_here (place_of m ns) (cond (bytes_eq m n) (Some j) None)) (zero-add (length ns))

newest_last : (f : Option ℕ) (k : ℕ) (m n : Text) (ns : Texts) → newest_from f k m (ns ++ n ∷ []) ≡ cond (bytes_eq m n) (Some (k + length ns)) (newest_from f k m ns)
newest_last f k m n [] = ap (λ j. cond (bytes_eq m n) (Some j) f) (sym (add-zero k))
newest_last f k m n (x ∷ ns) = newest_last (cond (bytes_eq m x) (Some k) f) (suc k) m n ns ∙ ap (λ j. cond (bytes_eq m n) (Some j) (newest_from (cond (bytes_eq m x) (Some k) f) (suc k) m ns)) (shift k (length ns))
  where
    shift : (a b : ℕ) → suc a + b ≡ a + suc b
    shift a b = omega arith

pub newest_more : (m n : Text) (ns : Texts) → newest_of m (ns ++ n ∷ []) ≡ cond (bytes_eq m n) (Some (length ns)) (newest_of m ns)
newest_more m n ns = newest_last None 0 m n ns ∙ ap (λ j. cond (bytes_eq m n) (Some j) (newest_of m ns)) (zero-add (length ns))

place_is : (k : ℕ) (n : Text) (ns : Texts) → is_some (place_from k n ns) ≡ is_among n ns
place_is k n [] = refl
place_is k n (m ∷ ns) = split (bytes_eq n m) (place_is (suc k) n ns)
  where
    split : (b : Bool) → is_some (place_from (suc k) n ns) ≡ is_among n ns → is_some (cond b (Some k) (place_from (suc k) n ns)) ≡ (b || is_among n ns)
    split true h = refl
    split false h = h

-- a name is there where it has a place
pub place_there : (n : Text) (ns : Texts) → is_some (place_of n ns) ≡ is_among n ns
place_there n ns = place_is 0 n ns

newest_is : (f : Option ℕ) (k : ℕ) (n : Text) (ns : Texts) → is_some (newest_from f k n ns) ≡ (is_some f || is_among n ns)
newest_is (Some j) k n [] = refl
newest_is None k n [] = refl
newest_is f k n (m ∷ ns) = newest_is (cond (bytes_eq n m) (Some k) f) (suc k) n ns ∙ split (bytes_eq n m) f
  where
    split : (b : Bool) (g : Option ℕ) → (is_some (cond b (Some k) g) || is_among n ns) ≡ (is_some g || (b || is_among n ns))
    split true (Some j) = refl
    split true None = refl
    split false g = refl

pub newest_there : (n : Text) (ns : Texts) → is_some (newest_of n ns) ≡ is_among n ns
newest_there n ns = newest_is None 0 n ns

-- two names that differ, either way round
turned : (n m : Text) → bytes_eq n m ≡ false → bytes_eq m n ≡ false
turned n m d = flip (bytes_eq m n) refl
  where
    flip : (b : Bool) → bytes_eq m n ≡ b → b ≡ false
    flip false f = refl
    flip true f = sym ((bytes_eq-Decides n m).1 (sym ((bytes_eq-Decides m n).0 f))) ∙ d

-- what a map has for a name after a change at a key with these bytes
module _ {Y S : Type 0} (old new : HashMap (Vec ℕ Y) ℕ S) (n : Text) (w : Option ℕ) where
  test : Text → Vec ℕ Y → Bool
  test m k = bytes_eq m k.items

  pub puts : UpdatesBy (λ x y. bytes_eq x.items y.items) (λ k. bytes_eq n k.items) old new w → Puts old new n w
  unfolding KeepsOthers
  puts h m = split (bytes_eq n m) refl
    where
      split : (b : Bool) → bytes_eq n m ≡ b → found new m ≡ cond b w (found old m)
      split true e = let same : n ≡ m = (bytes_eq-Decides n m).0 e in subst (λ z. found new z ≡ w) same h.1
      split false e = h.3 (λ k. bytes_eq m k.items)
          (λ x y t. let same : m ≡ x.items = (bytes_eq-Decides m x.items).0 t in ap (λ z. bytes_eq z y.items) same)
          (λ k t. let same : n ≡ k.items = (bytes_eq-Decides n k.items).0 t in turned k.items m (subst (λ z. bytes_eq z m ≡ false) same e))

  -- the same where the key's bytes are those of a name
  pub puts_named : (z : Text) → n ≡ z → UpdatesBy (λ x y. bytes_eq x.items y.items) (λ k. bytes_eq n k.items) old new w → Puts old new z w
  puts_named z e h = subst (λ y. Puts old new y w) e (puts h)

module _ {Y S : Type 0} (m : HashMap (Vec ℕ Y) ℕ S) where
  pub has_first : (r : Bool) (z n : Text) (ns ms : Texts) → r ≡ is_some (found m z) → z ≡ n → FindsFirst m ns → ns ≡ ms → r ≡ is_among n ms
  has_first r z n ns ms h e f g = h ∙ ap (λ y. is_some (found m y)) e ∙ ap is_some (f n) ∙ place_there n ns ∙ ap (is_among n) g

  pub has_newest : (r : Bool) (z n : Text) (ns ms : Texts) → r ≡ is_some (found m z) → z ≡ n → FindsNewest m ns → ns ≡ ms → r ≡ is_among n ms
  has_newest r z n ns ms h e f g = h ∙ ap (λ y. is_some (found m y)) e ∙ ap is_some (f n) ∙ newest_there n ns ∙ ap (is_among n) g

  -- a name that is there already has its place
  pub first_known : (n z : Text) (ns ms : Texts) → is_some (found m z) ≡ true → z ≡ n → FindsFirst m ns → ms ≡ ns ++ n ∷ [] → FindsFirst m ms
  first_known n z ns ms h e f g = subst (FindsFirst m) (sym g) here
    where
      there : is_some (place_of n ns) ≡ true
      there = ap is_some (sym (f n)) ∙ ap (λ y. is_some (found m y)) (sym e) ∙ h

      here : FindsFirst m (ns ++ n ∷ [])
      here q = f q ∙ split (bytes_eq q n) refl (place_of q ns) refl ∙ sym (place_more q n ns)
        where
          split : (b : Bool) → bytes_eq q n ≡ b → (o : Option ℕ) → place_of q ns ≡ o → o ≡ or_here o (cond b (Some (length ns)) None)
          split b e (Some k) p = refl
          split false e None p = refl
          split true e None p = let same : q ≡ n = (bytes_eq-Decides q n).0 e in let bad : false ≡ true = ap is_some (sym p) ∙ ap (λ y. is_some (place_of y ns)) same ∙ there in absurd (cc bad)

  module _ (new : HashMap (Vec ℕ Y) ℕ S) (n : Text) (ns ms : Texts) where
    pub first_added : (z : Text) (k : ℕ) → is_some (found m z) ≡ false → z ≡ n → k ≡ length ns → FindsFirst m ns → Puts m new n (Some k) → ms ≡ ns ++ n ∷ [] → FindsFirst new ms
    first_added z k h e l f p g = subst (FindsFirst new) (sym g) here
      where
        gone : (o : Option ℕ) → is_some o ≡ false → o ≡ None
        gone None q = refl
        gone (Some j) q = absurd (cc q)

        nowhere : place_of n ns ≡ None
        nowhere = gone (place_of n ns) (ap is_some (sym (f n)) ∙ ap (λ y. is_some (found m y)) (sym e) ∙ h)

        here : FindsFirst new (ns ++ n ∷ [])
        here q = p q ∙ split (bytes_eq n q) refl ∙ sym (place_more q n ns)
          where
            split : (b : Bool) → bytes_eq n q ≡ b → cond b (Some k) (found m q) ≡ or_here (place_of q ns) (cond (bytes_eq q n) (Some (length ns)) None)
            split true e = let same : n ≡ q = (bytes_eq-Decides n q).0 e in
                let back : bytes_eq q n ≡ true = (bytes_eq-Decides q n).1 (sym same) in
                ap Some l ∙ sym (ap₂ (λ o b. or_here o (cond b (Some (length ns)) None)) (ap (λ y. place_of y ns) (sym same) ∙ nowhere) back)
            split false e = f q ∙ other (place_of q ns) ∙ sym (ap (λ b. or_here (place_of q ns) (cond b (Some (length ns)) None)) (turned n q e))
              where
                other : (o : Option ℕ) → o ≡ or_here o None
                other None = refl
                other (Some j) = refl

    pub newest_added : (k : ℕ) → k ≡ length ns → FindsNewest m ns → Puts m new n (Some k) → ms ≡ ns ++ n ∷ [] → FindsNewest new ms
    newest_added k l f p g = subst (FindsNewest new) (sym g) here
      where
        here : FindsNewest new (ns ++ n ∷ [])
        here q = p q ∙ split (bytes_eq n q) refl ∙ sym (newest_more q n ns)
          where
            split : (b : Bool) → bytes_eq n q ≡ b → cond b (Some k) (found m q) ≡ cond (bytes_eq q n) (Some (length ns)) (newest_of q ns)
            split true e = ap Some l ∙ sym (ap (λ b. cond b (Some (length ns)) (newest_of q ns)) ((bytes_eq-Decides q n).1 (sym ((bytes_eq-Decides n q).0 e))))
            split false e = f q ∙ sym (ap (λ b. cond b (Some (length ns)) (newest_of q ns)) (turned n q e))

    -- the newest name is freed, and what it hid is seen again
    pub newest_freed : (h : Option ℕ) → FindsNewest m (ns ++ n ∷ []) → h ≡ newest_of n ns → Puts m new n h → FindsNewest new ns
    newest_freed h f e p q = p q ∙ split (bytes_eq n q) refl
      where
        split : (b : Bool) → bytes_eq n q ≡ b → cond b h (found m q) ≡ newest_of q ns
        split true g = e ∙ ap (λ y. newest_of y ns) ((bytes_eq-Decides n q).0 g)
        split false g = f q ∙ newest_more q n ns ∙ ap (λ b. cond b (Some (length ns)) (newest_of q ns)) (turned n q g)

  pub newest_is_there : (n : Text) (ns : Texts) → FindsNewest m (ns ++ n ∷ []) → IsSome (found m n)
  newest_is_there n ns f = subst IsSome (sym (f n ∙ newest_more n n ns ∙ ap (λ b. cond b (Some (length ns)) (newest_of n ns)) ((bytes_eq-Decides n n).1 refl))) refl

hides_last : (before ns : Texts) (n : Text) → hides_from before (ns ++ n ∷ []) ≡ hides_from before ns ++ newest_of n (before ++ ns) ∷ []
hides_last before [] n = ap (λ z. newest_of n z ∷ []) (sym (append-nil before))
hides_last before (m ∷ ns) n = ap (λ z. newest_of m before ∷ z) (hides_last (before ++ m ∷ []) ns n ∙ ap (λ z. hides_from (before ++ m ∷ []) ns ++ newest_of n z ∷ []) (append_assoc before (m ∷ []) ns))

pub hides_more : (ns : Texts) (n : Text) → hides (ns ++ n ∷ []) ≡ hides ns ++ newest_of n ns ∷ []
hides_more ns n = hides_last [] ns n

pub hides_freed : (hs : List (Option ℕ)) (h : Option ℕ) (ns : Texts) (n : Text) → hs ++ h ∷ [] ≡ hides (ns ++ n ∷ []) → (hs ≡ hides ns) × (h ≡ newest_of n ns)
hides_freed hs h ns n e = same_from_push hs (hides ns) h (newest_of n ns) (e ∙ hides_more ns n)

pub hides_some : (ns : Texts) (n : Text) → [] ≡ hides (ns ++ n ∷ []) → ⊥
hides_some ns n e = never (hides ns) (newest_of n ns) (e ∙ hides_more ns n)
  where
    never : (xs : List (Option ℕ)) (x : Option ℕ) → [] ≡ xs ++ x ∷ [] → ⊥
    never [] x e = cc e
    never (y ∷ ys) x e = cc e

place_below : (k : ℕ) (n : Text) (ns : Texts) → IfSome (place_from k n ns) (λ j. j < k + length ns)
place_below k n [] = tt
place_below k n (m ∷ ns) = split (bytes_eq n m) (place_below (suc k) n ns)
  where
    later : (o : Option ℕ) → IfSome o (λ j. j < suc k + length ns) → IfSome o (λ j. j < k + suc (length ns))
    later None h = tt
    later (Some j) h = omega (arith, h)

    split : (b : Bool) → IfSome (place_from (suc k) n ns) (λ j. j < suc k + length ns) → IfSome (cond b (Some k) (place_from (suc k) n ns)) (λ j. j < k + suc (length ns))
    split true h = omega arith
    split false h = later (place_from (suc k) n ns) h

-- a place is below the length
pub place_within : (n : Text) (ns ms : Texts) (r : Option ℕ) → r ≡ place_of n ns → ns ≡ ms → IfSome r (λ j. j < length ms)
place_within n ns ms r e g = subst (λ o. IfSome o (λ j. j < length ms)) (sym e) (subst (λ z. IfSome (place_of n ns) (λ j. j < length z)) g (here (place_of n ns) (place_below 0 n ns)))
  where
    here : (o : Option ℕ) → IfSome o (λ j. j < 0 + length ns) → IfSome o (λ j. j < length ns)
    here None h = tt
    here (Some j) h = omega (arith, h)

-- a variable that a walk adds has another name
pub walked_on : (i : ℕ) (n : Text) → i < 16 → bytes_eq n (walked_name i) ≡ false → walked_from (16 - (i + 1)) (i + 1) n ≡ walked_from (16 - i) i n
walked_on i n h other =
    let e : 16 - i ≡ suc (16 - (i + 1)) = omega arith in
    let a : walked_from (suc (16 - (i + 1))) i n ≡ walked_from (16 - (i + 1)) (i + 1) n = rw (other, add-one) refl in
    sym a ∙ ap (λ m. walked_from m i n) (sym e)
