-- Items that lie at handles.
use Rattle.std.proofs.Common.{◌≡◌, ℕ, zero, suc, Bool, true, false, ◌+◌, ◌<◌, List, [], ◌∷◌, Option, Some, None, refl, sym, ap, ◌∙◌, arith, length, drop, get_or, if◌then◌else◌, ltb-true, ltb-false, subst}
use Rattle.std.specs.Prelude.{slice_get, nat_lt, IfSome}
use Rattle.std.proofs.lemmas.List.{drop_more, drop_all}
use Rattle.std.proofs.lemmas.Option.{slice_get_within, get_or_from_slice_get}
use Rattle.rast_core.specs.Words.{Item}
use Rattle.rast_core.specs.Shown.{Shown}
use Rattle.rast_core.specs.Places.{handle_at, within}
use Rattle.rast_core.specs.Handles.{Lies, rest, rest_of}
use Rattle.rast_core.specs.declared.handle.Handle.{Handle}

-- an item stands at each place
item_there : (xs : List Item) (i : ℕ) → i < length xs → (x : Item) × (slice_get xs i ≡ Some x)
item_there [] i h = absurd (omega (arith, h))
item_there (x ∷ xs) zero h = (x, refl)
item_there (x ∷ xs) (suc i) h = item_there xs i (omega (arith, h))

from_place : (xs : List Item) (i : ℕ) (x : Item) → slice_get xs i ≡ Some x → drop i xs ≡ x ∷ drop (i + 1) xs
from_place xs i x h = drop_more xs i x (slice_get_within xs i x h) ∙ ap (λ (y : Item). y ∷ drop (i + 1) xs) (get_or_from_slice_get xs i x x h)

drop_suc : (xs : List Item) (i : ℕ) → drop (suc i) xs ≡ drop 1 (drop i xs)
drop_suc [] zero = refl
drop_suc [] (suc i) = refl
drop_suc (x ∷ xs) zero = refl
drop_suc (x ∷ xs) (suc i) = drop_suc xs i

drop_one : (xs : List Item) (i : ℕ) → drop (i + 1) xs ≡ drop 1 (drop i xs)
drop_one xs i = let e : i + 1 ≡ suc i = omega arith in ap (λ (k : ℕ). drop k xs) e ∙ drop_suc xs i

few_left : (xs : List Item) (i : ℕ) (x : Item) (ys : List Item) → drop i xs ≡ x ∷ ys → i < length xs
few_left [] zero x ys e = cc
few_left [] (suc i) x ys e = cc
few_left (y ∷ xs) zero x ys e = omega arith
few_left (y ∷ xs) (suc i) x ys e = let h : i < length xs = few_left xs i x ys e in omega (arith, h)

-- where an item lies there is a place
pub place_of : (v : Shown) (h : Handle) → Lies v h → h.place < length v.items
place_of v h l = few_left v.items h.place l.item l.after l.is

pub rest_within : (v : Shown) (i : ℕ) → rest_of v (within i (length v.items)) ≡ drop i v.items
rest_within v i = by (nat_lt i (length v.items)) refl
  where
    by : (b : Bool) → nat_lt i (length v.items) ≡ b → rest_of v (if b then Some (handle_at i) else None) ≡ drop i v.items
    by true e = refl
    by false e = sym (drop_all i v.items (ltb-false i (length v.items) e))

pub lies_within : (v : Shown) (i : ℕ) → IfSome (within i (length v.items)) (λ h. Lies v h)
lies_within v i = by (nat_lt i (length v.items)) refl
  where
    by : (b : Bool) → nat_lt i (length v.items) ≡ b → IfSome (if b then Some (handle_at i) else None) (λ h. Lies v h)
    by true e = let t = item_there v.items i (ltb-true i (length v.items) e) in record { item = t.0; after = drop (i + 1) v.items; is = from_place v.items i t.0 t.1 }
    by false e = tt

pub rest_after : (v : Shown) (h : Handle) → rest_of v (within (h.place + 1) (length v.items)) ≡ drop 1 (rest v h)
rest_after v h = rest_within v (h.place + 1) ∙ drop_one v.items h.place

got : (xs : List Item) (i : ℕ) (d x : Item) (ys : List Item) → drop i xs ≡ x ∷ ys → get_or xs i d ≡ x
got [] zero d x ys e = cc
got [] (suc i) d x ys e = cc
got (y ∷ xs) zero d x ys e = cc
got (y ∷ xs) (suc i) d x ys e = got xs i d x ys e

-- what is read there is the first item of the rest
pub rest_read : (v : Shown) (h : Handle) (x : Item) → Lies v h → x ≡ get_or v.items h.place x → rest v h ≡ x ∷ drop 1 (rest v h)
rest_read v h x l e =
    let k : x ≡ l.item = e ∙ got v.items h.place x l.item l.after l.is in
    l.is ∙ (ap (λ (y : Item). y ∷ l.after) (sym k) ∙ ap (λ (ys : List Item). x ∷ drop 1 ys) (sym l.is))

read_by : (xs : List Item) (i : ℕ) (x : Item) (ys : List Item) → drop i xs ≡ x ∷ ys → slice_get xs i ≡ Some x
read_by [] zero x ys e = cc
read_by [] (suc i) x ys e = cc
read_by (y ∷ xs) zero x ys e = cc
read_by (y ∷ xs) (suc i) x ys e = read_by xs i x ys e

-- and stands at its place
pub stands_there : (v : Shown) (h : Handle) (x : Item) (xs : List Item) → rest v h ≡ x ∷ xs → slice_get v.items h.place ≡ Some x
stands_there v h x xs e = read_by v.items h.place x xs e

-- fewer items are left behind an item
less_by : (xs : List Item) (i : Item) (is : List Item) → xs ≡ i ∷ is → length (drop 1 xs) < length xs
less_by xs i is e = subst (λ (ys : List Item). length (drop 1 ys) < length ys) (sym e) (omega arith)

pub rest_less : (v : Shown) (at next : Option Handle) (h : Handle) → at ≡ Some h → Lies v h → rest_of v next ≡ drop 1 (rest v h) → length (rest_of v next) < length (rest_of v at)
rest_less v at next h e l n =
    let a : length (rest_of v next) ≡ length (drop 1 (rest v h)) = ap length n in
    let b : length (rest_of v at) ≡ length (rest v h) = ap (λ (o : Option Handle). length (rest_of v o)) e in
    let c : length (drop 1 (rest v h)) < length (rest v h) = less_by (rest v h) l.item l.after l.is in
    omega (arith, a, b, c)

-- the handle that is there has an item
pub lies_there : (v : Shown) (at : Option Handle) (h : Handle) → at ≡ Some h → IfSome at (λ k. Lies v k) → Lies v h
lies_there v at h e l = let k : IfSome (Some h) (λ q. Lies v q) = subst (λ (o : Option Handle). IfSome o (λ q. Lies v q)) e l in k

pub first_there : (v : Shown) (h : Handle) (x y : Item) → rest v h ≡ x ∷ drop 1 (rest v h) → x ≡ y → slice_get (rest v h) 0 ≡ Some y
first_there v h x y e s = ap (λ (xs : List Item). slice_get xs 0) e ∙ ap Some s
