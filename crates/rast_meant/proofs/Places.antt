-- Lists by their places.
use Rattle.std.proofs.Common.{is_some, ◌≡◌, ℕ, zero, suc, ◌+◌, ◌<◌, false, cond, List, [], ◌∷◌, ◌++◌, map, length, refl, sym, ap, ap₂, ◌∙◌, subst, arith, Option, Some, None, slice_get, set, replicate, ◌⊎◌, inl, inr}
use Rattle.std.specs.List.{AllByRecursion}
use Rattle.std.specs.Str.{bytes_eq}
use Rattle.std.proofs.lemmas.Option.{slice_get_within, same_Some}
use Rattle.std.proofs.lemmas.List.{length-set}
use Rattle.rast_resolve.specs.Scopes.{Text, Texts, is_among, place_of, at_place, or_else}
use Rattle.rast_resolve.specs.Names.{put_at, starts_from}
use Rattle.rast_resolve.proofs.Places.{place_more, place_there, or_here}
use Rattle.rast_meant.proofs.Numbers.{itself}

pub map_append : {X Y : Type 0} (f : X → Y) (xs ys : List X) → map f (xs ++ ys) ≡ map f xs ++ map f ys
map_append {X} {Y} f [] ys = refl
map_append {X} {Y} f (x ∷ xs) ys = ap (λ r. f x ∷ r) (map_append f xs ys)

pub length_map : {X Y : Type 0} (f : X → Y) (xs : List X) → length (map f xs) ≡ length xs
length_map {X} {Y} f [] = refl
length_map {X} {Y} f (x ∷ xs) = ap suc (length_map f xs)

pub map_repeated : {X Y : Type 0} (f : X → Y) (n : ℕ) (x : X) → map f (replicate n x) ≡ replicate n (f x)
map_repeated {X} {Y} f zero x = refl
map_repeated {X} {Y} f (suc n) x = ap (λ r. f x ∷ r) (map_repeated f n x)

-- ---- what holds of each

pub each : {X : Type 0} (P Q : X → Type 0) → ((x : X) → P x → Q x) → (xs : List X) → AllByRecursion P xs → AllByRecursion Q xs
each {X} P Q f [] h = tt
each {X} P Q f (x ∷ xs) h = (f x h.0, each P Q f xs h.1)

pub each_append : {X : Type 0} (P : X → Type 0) (xs ys : List X) → AllByRecursion P xs → AllByRecursion P ys → AllByRecursion P (xs ++ ys)
each_append {X} P [] ys h k = k
each_append {X} P (x ∷ xs) ys h k = (h.0, each_append P xs ys h.1 k)

pub each_get : {X : Type 0} (P : X → Type 0) (xs : List X) (i : ℕ) (x : X) → AllByRecursion P xs → slice_get xs i ≡ Some x → P x
each_get {X} P [] i x h e = absurd (cc e)
each_get {X} P (y ∷ ys) zero x h e = subst P (same_Some y x e) h.0
each_get {X} P (y ∷ ys) (suc i) x h e = each_get P ys i x h.1 e

pub each_of_map : {X Y : Type 0} (f : X → Y) (P : Y → Type 0) (xs : List X) → AllByRecursion P (map f xs) → AllByRecursion (λ x. P (f x)) xs
each_of_map {X} {Y} f P [] h = tt
each_of_map {X} {Y} f P (x ∷ xs) h = (h.0, each_of_map f P xs h.1)

-- with the place of each
pub each_at : {X : Type 0} (P Q : X → Type 0) (xs : List X) → AllByRecursion P xs → ((k : ℕ) (x : X) → slice_get xs k ≡ Some x → P x → Q x) → AllByRecursion Q xs
each_at {X} P Q [] h f = tt
each_at {X} P Q (x ∷ xs) h f = (f 0 x refl h.0, each_at P Q xs h.1 (λ k y e p. f (suc k) y e p))

pub of_each : {X : Type 0} (P : X → Type 0) → ((x : X) → P x) → (xs : List X) → AllByRecursion P xs
of_each {X} P f [] = tt
of_each {X} P f (x ∷ xs) = (f x, of_each P f xs)

-- ---- places

pub there : {X : Type 0} (xs : List X) (k : ℕ) → k < length xs → (x : X) × (slice_get xs k ≡ Some x)
there {X} [] k h = absurd (omega (arith, h))
there {X} (x ∷ xs) zero h = (x, refl)
there {X} (x ∷ xs) (suc k) h = there xs k (omega (arith, h))

pub get_left : {X : Type 0} (xs ys : List X) (i : ℕ) (x : X) → slice_get xs i ≡ Some x → slice_get (xs ++ ys) i ≡ Some x
get_left {X} [] ys i x e = absurd (cc e)
get_left {X} (y ∷ xs) ys zero x e = e
get_left {X} (y ∷ xs) ys (suc i) x e = get_left xs ys i x e

pub get_right : {X : Type 0} (xs ys : List X) (i : ℕ) (x : X) → slice_get ys i ≡ Some x → slice_get (xs ++ ys) (length xs + i) ≡ Some x
get_right {X} [] ys i x e = ap (slice_get ys) (let z : 0 + i ≡ i = omega arith in z) ∙ e
get_right {X} (y ∷ xs) ys i x e = ap (slice_get (y ∷ (xs ++ ys))) (let z : suc (length xs) + i ≡ suc (length xs + i) = omega arith in z) ∙ get_right xs ys i x e

-- the last is the one that was added
pub get_last : {X : Type 0} (xs : List X) (y : X) (i : ℕ) (x : X) → slice_get (xs ++ y ∷ []) i ≡ Some x → (slice_get xs i ≡ Some x) ⊎ ((i ≡ length xs) × (x ≡ y))
get_last {X} [] y zero x e = inr (refl, sym (same_Some y x e))
get_last {X} [] y (suc i) x e = absurd (cc e)
get_last {X} (z ∷ xs) y zero x e = inl e
get_last {X} (z ∷ xs) y (suc i) x e = by (get_last xs y i x e)
  where
    by : (slice_get xs i ≡ Some x) ⊎ ((i ≡ length xs) × (x ≡ y)) → (slice_get xs i ≡ Some x) ⊎ ((suc i ≡ suc (length xs)) × (x ≡ y))
    by (inl h) = inl h
    by (inr h) = inr (ap suc h.0, h.1)

pub set_same : {X : Type 0} (xs : List X) (j : ℕ) (y b : X) → slice_get (set xs j y) j ≡ Some b → y ≡ b
set_same {X} [] j y b e = absurd (cc e)
set_same {X} (x ∷ xs) zero y b e = same_Some y b e
set_same {X} (x ∷ xs) (suc j) y b e = set_same xs j y b e

pub set_other : {X : Type 0} (xs : List X) (i j : ℕ) (y : X) → (i ≡ j → ⊥) → slice_get (set xs j y) i ≡ slice_get xs i
set_other {X} [] i j y n = refl
set_other {X} (x ∷ xs) zero zero y n = absurd (n refl)
set_other {X} (x ∷ xs) zero (suc j) y n = refl
set_other {X} (x ∷ xs) (suc i) zero y n = refl
set_other {X} (x ∷ xs) (suc i) (suc j) y n = set_other xs i j y (λ e. n (ap suc e))

map_set : {X Y : Type 0} (f : X → Y) (xs : List X) (j : ℕ) (y : X) → map f (set xs j y) ≡ set (map f xs) j (f y)
map_set {X} {Y} f [] j y = refl
map_set {X} {Y} f (x ∷ xs) zero y = refl
map_set {X} {Y} f (x ∷ xs) (suc j) y = ap (λ r. f x ∷ r) (map_set f xs j y)

pub map_put : {X Y : Type 0} (f : X → Y) (xs : List X) (o : Option ℕ) (y : X) → map f (put_at xs o y) ≡ put_at (map f xs) o (f y)
map_put {X} {Y} f xs None y = refl
map_put {X} {Y} f xs (Some j) y = map_set f xs j y

pub length_put : {X : Type 0} (xs : List X) (o : Option ℕ) (y : X) → length (put_at xs o y) ≡ length xs
length_put {X} xs None y = refl
length_put {X} xs (Some j) y = length-set xs j y

pub length_starts : (n : ℕ) (ns : List ℕ) → length (starts_from n ns) ≡ length ns
length_starts n [] = refl
length_starts n (m ∷ ns) = ap suc (length_starts (n + m) ns)

-- lists with the same at each place are the same
pub same_list : {X : Type 0} (xs ys : List X) → length xs ≡ length ys → ((i : ℕ) (x : X) → slice_get xs i ≡ Some x → slice_get ys i ≡ Some x) → xs ≡ ys
same_list {X} [] [] e h = refl
same_list {X} [] (y ∷ ys) e h = absurd (omega (arith, e))
same_list {X} (x ∷ xs) [] e h = absurd (omega (arith, e))
same_list {X} (x ∷ xs) (y ∷ ys) e h = ap₂ (λ a as'. a ∷ as') (sym (same_Some y x (h 0 x refl))) (same_list xs ys (omega (arith, e)) (λ i z g. h (suc i) z g))

pub at_map : {X Y : Type 0} (f : X → Y) (xs : List X) (i : ℕ) (y : Y) → slice_get (map f xs) i ≡ Some y → (x : X) × (slice_get xs i ≡ Some x) × (f x ≡ y)
at_map {X} {Y} f [] i y e = absurd (cc e)
at_map {X} {Y} f (x ∷ xs) zero y e = (x, refl, same_Some (f x) y e)
at_map {X} {Y} f (x ∷ xs) (suc i) y e = at_map f xs i y e

-- ---- different names

-- each name stands first at its place
abbrev pub ArePlaces : Texts → Type 0
ArePlaces ns = (i : ℕ) (f : Text) → slice_get ns i ≡ Some f → place_of f ns ≡ Some i

pub none_places : ArePlaces []
none_places i f e = absurd (cc e)

pub more_places : (ns : Texts) (n : Text) → is_among n ns ≡ false → ArePlaces ns → ArePlaces (ns ++ n ∷ [])
more_places ns n new h i f e = by (get_last ns n i f e)
  where
    nowhere : (o : Option ℕ) → place_of n ns ≡ o → o ≡ None
    nowhere None e = refl
    nowhere (Some k) e = absurd (cc (sym new ∙ sym (place_there n ns) ∙ ap (λ z. is_some z) e))

    by : (slice_get ns i ≡ Some f) ⊎ ((i ≡ length ns) × (f ≡ n)) → place_of f (ns ++ n ∷ []) ≡ Some i
    by (inl g) = place_more f n ns ∙ ap (λ o. or_here o (cond (bytes_eq f n) (Some (length ns)) None)) (h i f g)
    by (inr g) = ap (λ z. place_of z (ns ++ n ∷ [])) g.1 ∙ place_more n n ns ∙ ap₂ (λ o b. or_here o (cond b (Some (length ns)) None)) (nowhere (place_of n ns) refl) (itself n) ∙ ap Some (sym g.0)

-- what stands at the places of different names is the list
pub at_places : (ns : Texts) (xs : List ℕ) → ArePlaces ns → length ns ≡ length xs → map (λ f. or_else 0 (at_place xs (place_of f ns))) ns ≡ xs
at_places ns xs h e = same_list (map (λ f. or_else 0 (at_place xs (place_of f ns))) ns) xs (length_map (λ f. or_else 0 (at_place xs (place_of f ns))) ns ∙ e) one
  where
    one : (i : ℕ) (x : ℕ) → slice_get (map (λ f. or_else 0 (at_place xs (place_of f ns))) ns) i ≡ Some x → slice_get xs i ≡ Some x
    one i x g =
        let f = at_map (λ f. or_else 0 (at_place xs (place_of f ns))) ns i x g in
        let lt = slice_get_within ns i f.0 f.1 in
        let y = there xs i (omega (arith, e, lt)) in
        y.1 ∙ ap Some (sym (ap (or_else 0) (ap (at_place xs) (h i f.0 f.1) ∙ y.1)) ∙ f.2)
