-- Lists of parts.
use Rattle.std.proofs.Common.{◌≡◌, Bool, true, false, ◌&&◌, List, [], ◌∷◌, map, ap, refl}
use Rattle.rast_forms.specs.Words.{all_true}

pub map-map : {A B C : Type 0} (f : B → C) (g : A → B) (xs : List A) → map f (map g xs) ≡ map (λ x. f (g x)) xs
map-map f g [] = refl
map-map f g (x ∷ xs) = ap (λ z. f (g x) ∷ z) (map-map f g xs)

pub all_true_of : {A : Type 0} (f : A → Bool) → ((x : A) → f x ≡ true) → (xs : List A) → all_true (map f xs) ≡ true
all_true_of f h [] = refl
all_true_of f h (x ∷ xs) = rw (h x) (all_true_of f h xs)

pub and_true : (b : Bool) → b ≡ (b && true)
and_true true = refl
and_true false = refl
