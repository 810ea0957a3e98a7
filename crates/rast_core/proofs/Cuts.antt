-- Where a list is cut, by places.
use Rattle.std.proofs.Common.{◌≡◌, ℕ, zero, suc, Bool, true, false, ◌+◌, ◌<◌, List, [], ◌∷◌, ◌++◌, Option, Some, None, arith, refl, ap, ◌∙◌, subst, length, take, drop, slice_get, get_or, if◌then◌else◌}
use Rattle.std.proofs.lemmas.Option.{slice_get_read}
use Rattle.rast_core.specs.Words.{Item}
use Rattle.rast_items.specs.Step.{Cut, cut, cut_more}
use Rattle.rast_core.specs.Edits.{IsCutAt}

more_none : (i : Item) (o : Option Cut) → cut_more i o ≡ None → o ≡ None
more_none i None h = refl
more_none i (Some c) h = cc

none_rest : (test : Item → Bool) (x : Item) (xs : List Item) (b : Bool) → test x ≡ b → (if b then Some (record { before = []; item = x; after = xs }) else cut_more x (cut test xs)) ≡ None → (test x ≡ false) × (cut test xs ≡ None)
none_rest test x xs true e h = cc
none_rest test x xs false e h = (e, more_none x (cut test xs) h)

pub cut_on : (test : Item → Bool) (x : Item) (xs : List Item) (b : Bool) → test x ≡ b → cut test (x ∷ xs) ≡ (if b then Some (record { before = []; item = x; after = xs }) else cut_more x (cut test xs))
cut_on test x xs b e = ap (λ c. if c then Some (record { before = []; item = x; after = xs }) else cut_more x (cut test xs)) e

at_place : (test : Item → Bool) (xs : List Item) (i : ℕ) (x : Item) → cut test (take i xs) ≡ None → slice_get xs i ≡ Some x → test x ≡ true → cut test xs ≡ Some (record { before = take i xs; item = x; after = drop (suc i) xs })
at_place test [] zero x h g t = cc
at_place test [] (suc i) x h g t = cc
at_place test (y ∷ xs) zero x h g t = let e : y ≡ x = cc in cut_on test y xs true (ap test e ∙ t) ∙ ap (λ (z : Item). Some (let c : Cut = record { before = []; item = z; after = xs } in c)) e
at_place test (y ∷ xs) (suc i) x h g t =
    let r = none_rest test y (take i xs) (test y) refl h in
    cut_on test y xs false r.0 ∙ ap (cut_more y) (at_place test xs i x r.1 g t)

pub cut_at : (test : Item → Bool) (xs : List Item) (i : ℕ) (x : Item) → cut test (take i xs) ≡ None → slice_get xs i ≡ Some x → test x ≡ true → IsCutAt test xs i
cut_at test xs i x h g t =
    let s : suc i ≡ i + 1 = omega arith in
    record { item = x; get = g; is = at_place test xs i x h g t ∙ ap (λ (k : ℕ). Some (let c : Cut = record { before = take i xs; item = x; after = drop k xs } in c)) s }

none_suc : (test : Item → Bool) (xs : List Item) (i : ℕ) (x : Item) → cut test (take i xs) ≡ None → slice_get xs i ≡ Some x → test x ≡ false → cut test (take (suc i) xs) ≡ None
none_suc test [] i x h g t = refl
none_suc test (y ∷ xs) zero x h g t = let e : y ≡ x = cc in cut_on test y [] false (ap test e ∙ t)
none_suc test (y ∷ xs) (suc i) x h g t =
    let r = none_rest test y (take i xs) (test y) refl h in
    cut_on test y (take (suc i) xs) false r.0 ∙ ap (cut_more y) (none_suc test xs i x r.1 g t)

pub none_more : (test : Item → Bool) (xs : List Item) (i : ℕ) (x : Item) → cut test (take i xs) ≡ None → slice_get xs i ≡ Some x → test x ≡ false → cut test (take (i + 1) xs) ≡ None
none_more test xs i x h g t = let s : i + 1 ≡ suc i = omega arith in ap (λ (k : ℕ). cut test (take k xs)) s ∙ none_suc test xs i x h g t

-- what is read at a place within the list
pub read_at : (xs : List Item) (i : ℕ) (x : Item) → i < length xs → x ≡ get_or xs i x → slice_get xs i ≡ Some x
read_at xs i x l g = slice_get_read xs (length xs) i x refl l g

-- ---- what a cut says

pub record IsCut (test : Item → Bool) (xs : List Item) (c : Cut) : Type 0 where
  pub passes : test c.item ≡ true
  pub list : xs ≡ c.before ++ (c.item ∷ c.after)
  pub free : cut test c.before ≡ None

cut_more_is : (test : Item → Bool) (x : Item) (xs : List Item) (o : Option Cut) (c : Cut) → test x ≡ false → cut_more x o ≡ Some c → ((d : Cut) → o ≡ Some d → IsCut test xs d) → IsCut test (x ∷ xs) c
cut_more_is test x xs None c t h f = cc
cut_more_is test x xs (Some d) c t h f =
    let e : record d { before = x ∷ d.before } ≡ c = cc in
    let r = f d refl in
    subst (IsCut test (x ∷ xs)) e (record { passes = r.passes; list = ap (λ (ys : List Item). x ∷ ys) r.list; free = cut_on test x d.before false t ∙ ap (cut_more x) r.free })

cut_by : (test : Item → Bool) (x : Item) (xs : List Item) (b : Bool) (c : Cut) → test x ≡ b → (if b then Some (record { before = []; item = x; after = xs }) else cut_more x (cut test xs)) ≡ Some c → ((d : Cut) → cut test xs ≡ Some d → IsCut test xs d) → IsCut test (x ∷ xs) c
cut_by test x xs true c t h f =
    let d : Cut = record { before = []; item = x; after = xs } in
    let e : d ≡ c = cc in
    subst (IsCut test (x ∷ xs)) e (record { passes = t; list = refl; free = refl })
cut_by test x xs false c t h f = cut_more_is test x xs (cut test xs) c t h f

pub cut_is : (test : Item → Bool) (xs : List Item) (c : Cut) → cut test xs ≡ Some c → IsCut test xs c
cut_is test [] c h = cc
cut_is test (x ∷ xs) c h = cut_by test x xs (test x) c refl h (cut_is test xs)

-- the item at the place of a cut passes the test, and none before it does
pub passes_at : (test : Item → Bool) (xs : List Item) (i : ℕ) (k : IsCutAt test xs i) → test k.item ≡ true
passes_at test xs i k = (cut_is test xs _ k.is).passes

pub free_before : (test : Item → Bool) (xs : List Item) (i : ℕ) → IsCutAt test xs i → cut test (take i xs) ≡ None
free_before test xs i k = (cut_is test xs _ k.is).free
