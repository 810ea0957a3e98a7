-- Facts on each message of a list of items.
use Rattle.std.proofs.Common.{◌≡◌, ℕ, zero, suc, ◌≤◌, ◌+◌, List, [], ◌∷◌, ◌++◌, Some, arith, refl, slice_get, length}
use Rattle.rast_items.specs.Items.{provides, uses, hit, times, provided, used}
use Rattle.rast_order.proofs.Words.{Link, Item, P, M, Msg}
use Rattle.rast_order.proofs.Counts.{on}

abbrev pub Each : (Msg → Type 0) → List Item → Type 0
Each Q [] = Unit {0}
Each Q (P p ∷ is) = Each Q is
Each Q (M m ∷ is) = Q m × Each Q is

pub each_left : (Q : Msg → Type 0) (xs ys : List Item) → Each Q (xs ++ ys) → Each Q xs
each_left Q [] ys h = tt
each_left Q (P p ∷ xs) ys h = each_left Q xs ys h
each_left Q (M m ∷ xs) ys h = (h.0, each_left Q xs ys h.1)

pub each_right : (Q : Msg → Type 0) (xs ys : List Item) → Each Q (xs ++ ys) → Each Q ys
each_right Q [] ys h = h
each_right Q (P p ∷ xs) ys h = each_right Q xs ys h
each_right Q (M m ∷ xs) ys h = each_right Q xs ys h.1

pub each_append : (Q : Msg → Type 0) (xs ys : List Item) → Each Q xs → Each Q ys → Each Q (xs ++ ys)
each_append Q [] ys h k = k
each_append Q (P p ∷ xs) ys h k = each_append Q xs ys h k
each_append Q (M m ∷ xs) ys h k = (h.0, each_append Q xs ys h.1 k)

pub each_map : (Q R : Msg → Type 0) → ((m : Msg) → Q m → R m) → (xs : List Item) → Each Q xs → Each R xs
each_map Q R f [] h = tt
each_map Q R f (P p ∷ xs) h = each_map Q R f xs h
each_map Q R f (M m ∷ xs) h = (f m h.0, each_map Q R f xs h.1)

pub each_both : (Q R : Msg → Type 0) (xs : List Item) → Each Q xs → Each R xs → Each (λ m. Q m × R m) xs
each_both Q R [] h k = tt
each_both Q R (P p ∷ xs) h k = each_both Q R xs h k
each_both Q R (M m ∷ xs) h k = ((h.0, k.0), each_both Q R xs h.1 k.1)

pub each_off : (l : Link) (xs : List Item) → on l xs ≡ 0 → Each (λ m. hit l m.link ≡ 0) xs
each_off l [] h = tt
each_off l (P p ∷ xs) h = each_off l xs (omega (arith, h))
each_off l (M m ∷ xs) h = ((omega (arith, h)), each_off l xs (omega (arith, h)))

-- if each message on l touches k, then k is touched as often as l is on
pub on_le : (l k : Link) (xs : List Item) → Each (λ m. hit l m.link ≤ times k (uses (M m)) + hit k (provides (M m))) xs → on l xs ≤ used k xs + provided k xs
on_le l k [] h = omega arith
on_le l k (P p ∷ xs) h = omega (arith, on_le l k xs h)
on_le l k (M m ∷ xs) h = omega (arith, h.0, on_le l k xs h.1)

-- ---- places in lists

pub no_get : {A : Type 0} (i : ℕ) (x : A) → slice_get [] i ≡ Some x → ⊥
no_get zero x h = cc
no_get (suc i) x h = cc

pub get_left : {A : Type 0} (xs ys : List A) (i : ℕ) (x : A) → slice_get xs i ≡ Some x → slice_get (xs ++ ys) i ≡ Some x
get_left [] ys i x h = absurd (no_get i x h)
get_left (y ∷ xs) ys zero x h = h
get_left (y ∷ xs) ys (suc i) x h = get_left xs ys i x h

pub get_last : {A : Type 0} (xs : List A) (x : A) → slice_get (xs ++ x ∷ []) (length xs) ≡ Some x
get_last [] x = refl
get_last (y ∷ xs) x = get_last xs x

pub get_seam : {A : Type 0} (xs : List A) (x : A) (ys : List A) → slice_get (xs ++ ys) (length xs) ≡ slice_get ys 0
get_seam [] x ys = refl
get_seam (y ∷ xs) x ys = get_seam xs x ys
