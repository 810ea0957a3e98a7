-- What holds of each element of a list, by recursion on the list.
use Rattle.std.proofs.Common.{arith, ◌≡◌, ℕ, zero, suc, List, [], ◌∷◌, ◌++◌, map, length, refl, Some, flat_map, zip, slice_get}
use Rattle.std.specs.List.{AllByRecursion}
use Rattle.rast_equal.proofs.Every.{every_left, every_right}

pub every_to : {X : Type 0} (P Q : X → Type 0) → ((x : X) → P x → Q x) → (xs : List X) → AllByRecursion P xs → AllByRecursion Q xs
every_to {X} P Q f [] h = tt
every_to {X} P Q f (x ∷ xs) h = (f x h.0, every_to P Q f xs h.1)

pub every_append : {X : Type 0} (P : X → Type 0) (xs ys : List X) → AllByRecursion P xs → AllByRecursion P ys → AllByRecursion P (xs ++ ys)
every_append {X} P [] ys h k = k
every_append {X} P (x ∷ xs) ys h k = (h.0, every_append P xs ys h.1 k)

pub every_map : {X Y : Type 0} (P : Y → Type 0) (f : X → Y) (xs : List X) → AllByRecursion (λ x. P (f x)) xs → AllByRecursion P (map f xs)
every_map {X} {Y} P f [] h = tt
every_map {X} {Y} P f (x ∷ xs) h = (h.0, every_map P f xs h.1)

pub every_mapped : {X Y : Type 0} (P : Y → Type 0) (f : X → Y) (xs : List X) → AllByRecursion P (map f xs) → AllByRecursion (λ x. P (f x)) xs
every_mapped {X} {Y} P f [] h = tt
every_mapped {X} {Y} P f (x ∷ xs) h = (h.0, every_mapped P f xs h.1)

pub every_flat : {X Y : Type 0} (P : Y → Type 0) (f : X → List Y) (xs : List X) → AllByRecursion (λ x. AllByRecursion P (f x)) xs → AllByRecursion P (flat_map f xs)
every_flat {X} {Y} P f [] h = tt
every_flat {X} {Y} P f (x ∷ xs) h = every_append P (f x) (flat_map f xs) h.0 (every_flat P f xs h.1)

pub every_flattened : {X Y : Type 0} (P : Y → Type 0) (f : X → List Y) (xs : List X) → AllByRecursion P (flat_map f xs) → AllByRecursion (λ x. AllByRecursion P (f x)) xs
every_flattened {X} {Y} P f [] h = tt
every_flattened {X} {Y} P f (x ∷ xs) h = (every_left P (f x) (flat_map f xs) h, every_flattened P f xs (every_right P (f x) (flat_map f xs) h))

-- two lists, place by place
pub zip_every : {X Y : Type 0} (P : (X × Y) → Type 0) (xs : List X) (ys : List Y) → ((i : ℕ) (x : X) (y : Y) → slice_get xs i ≡ Some x → slice_get ys i ≡ Some y → P (x, y)) → AllByRecursion P (zip xs ys)
zip_every {X} {Y} P [] ys f = tt
zip_every {X} {Y} P (x ∷ xs) [] f = tt
zip_every {X} {Y} P (x ∷ xs) (y ∷ ys) f = (f 0 x y refl refl, zip_every P xs ys (λ i a b d e. f (suc i) a b d e))

pub zip_at : {X Y : Type 0} (xs : List X) (ys : List Y) (i : ℕ) (x : X) (y : Y) → slice_get xs i ≡ Some x → slice_get ys i ≡ Some y → let z : X × Y = (x, y) in slice_get (zip xs ys) i ≡ Some z
zip_at {X} {Y} [] ys i x y d e = absurd (cc)
zip_at {X} {Y} (a ∷ xs) [] i x y d e = absurd (cc)
zip_at {X} {Y} (a ∷ xs) (b ∷ ys) zero x y d e = pair a b x y d e
  where
    pair : {X Y : Type 0} (a : X) (b : Y) (x : X) (y : Y) → Some a ≡ Some x → Some b ≡ Some y → let c : X × Y = (a, b) in let z : X × Y = (x, y) in Some c ≡ Some z
    pair {X} {Y} a b x y d e = cc
zip_at {X} {Y} (a ∷ xs) (b ∷ ys) (suc i) x y d e = zip_at xs ys i x y d e

-- the second of two lists of the same length is met in pairs
pub zip_second : {X Y : Type 0} (P : (X × Y) → Type 0) (Q : X → Type 0) (R : Y → Type 0) (xs : List X) (ys : List Y) → length ys ≡ length xs → ((x : X) (y : Y) → Q x → P (x, y) → R y) → AllByRecursion Q xs → AllByRecursion P (zip xs ys) → AllByRecursion R ys
zip_second {X} {Y} P Q R xs [] e f q h = tt
zip_second {X} {Y} P Q R [] (y ∷ ys) e f q h = absurd (let k : suc (length ys) ≡ zero = e in omega arith)
zip_second {X} {Y} P Q R (x ∷ xs) (y ∷ ys) e f q h = (f x y q.0 h.0, zip_second P Q R xs ys (let k : suc (length ys) ≡ suc (length xs) = e in omega arith) f q.1 h.1)
