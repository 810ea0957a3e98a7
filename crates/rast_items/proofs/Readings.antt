-- The values of terms at a process, and of lists of them.
use Rattle.std.proofs.Common.{◌≡◌, ℕ, zero, suc, ◌+◌, ◌-◌, ◌<◌, ◌≤◌, List, [], ◌∷◌, ◌++◌, length, take, drop, get_or, replicate, map, refl, sym, ap, ◌∙◌, arith, ℤ, pos, negsuc, ◌+ℤ◌, ◌*ℤ◌, ◌^◌, true, ltb-true, Option, Some, None, append_assoc, if◌then◌else◌}
use Rattle.std.proofs.lemmas.List.{take-append-drop, drop_more, drop_all, append-nil}
use Rattle.std.proofs.lemmas.Bool.{le-leb, lt-leb}
use Rattle.rast_items.specs.Deeds.{large_in, naturals, more_natural}
use Rattle.std.proofs.lemmas.Int.{ints}
use lib.Signed.{lt_z}
use Rattle.rast_index.specs.Linear.{Linear, weighted, value, whole}

no_weight : (cs : List ℤ) (n : ℕ) → weighted cs (whole (replicate n 0)) ≡ pos 0
no_weight [] n = refl
no_weight (c ∷ cs) zero = refl
no_weight (c ∷ cs) (suc n) = let h = no_weight cs n in omega (arith, ints, h)

zeros : (cs : List ℤ) (xs : List ℕ) (n : ℕ) → weighted cs (whole (xs ++ replicate n 0)) ≡ weighted cs (whole xs)
zeros [] xs n = refl
zeros (c ∷ cs) [] n = no_weight (c ∷ cs) n
zeros (c ∷ cs) (x ∷ xs) n = ap (λ (z : ℤ). (c *ℤ pos x) +ℤ z) (zeros cs xs n)

-- the values past the last variable are 0, and count nothing
pub value_within : (l : Linear) (n m : ℕ) (xs : List ℕ) → drop n xs ≡ replicate m 0 → value l (whole xs) ≡ value l (whole (take n xs))
value_within l n m xs d =
    ap (λ (ys : List ℕ). value l (whole ys)) (sym (take-append-drop n xs) ∙ ap (λ (ys : List ℕ). take n xs ++ ys) d) ∙ ap (λ (z : ℤ). l.constant +ℤ z) (zeros l.coefficients (take n xs) m)

pub is_negative : (z : ℤ) → lt_z z (pos 0) ≡ true → (n : ℕ) × (z ≡ negsuc n)
is_negative (pos n) h = absurd (let k : n < 0 = ltb-true n 0 h in omega (arith, k))
is_negative (negsuc n) h = (n, refl)

-- naturals that were read before others
abbrev pub after_naturals : List ℕ → Option (List ℕ) → Option (List ℕ)
after_naturals ns None = None
after_naturals ns (Some ms) = Some (ns ++ ms)

after_none : (o : Option (List ℕ)) → o ≡ after_naturals [] o
after_none None = refl
after_none (Some ns) = refl

pub none_before : (ns : List ℕ) (o : Option (List ℕ)) → ns ≡ [] → o ≡ after_naturals ns o
none_before ns o e = after_none o ∙ ap (λ (ms : List ℕ). after_naturals ms o) (sym e)

after_push : (ns : List ℕ) (n : ℕ) (o : Option (List ℕ)) → after_naturals ns (more_natural n o) ≡ after_naturals (ns ++ n ∷ []) o
after_push ns n None = refl
after_push ns n (Some ms) = ap Some (sym (append_assoc ns (n ∷ []) ms))

-- one more value of a list of arguments
pub values_more : {A : Type 0} (F : List ℤ → A) (f : Linear → ℤ) (es : List Linear) (i : ℕ) (e : Linear) → i < length es → e ≡ get_or es i e → F (map f (drop i es)) ≡ F (f e ∷ map f (drop (i + 1) es))
values_more {A} F f es i e l h = ap (λ (xs : List Linear). F (map f xs)) (drop_more es i e l) ∙ ap (λ (x : Linear). F (f x ∷ map f (drop (i + 1) es))) (sym h)

pub values_all : {A : Type 0} (F : List ℤ → A) (f : Linear → ℤ) (es : List Linear) (i : ℕ) → length es ≤ i → F (map f (drop i es)) ≡ F []
values_all F f es i h = ap (λ (xs : List Linear). F (map f xs)) (drop_all i es h)

-- the first of a list of values
pub large_first : (z : ℤ) (zs : List ℤ) (v : ℕ) → z ≡ pos v → 2 ^ 64 ≤ v → large_in (z ∷ zs) ≡ Some v
large_first z zs v e h = ap (λ (y : ℤ). large_in (y ∷ zs)) e ∙ ap (λ b. if b then Some v else large_in zs) (le-leb (2 ^ 64) v h)

pub large_later : (z : ℤ) (zs : List ℤ) (n : ℕ) → z ≡ pos n → n < 2 ^ 64 → large_in (z ∷ zs) ≡ large_in zs
large_later z zs n e h = ap (λ (y : ℤ). large_in (y ∷ zs)) e ∙ ap (λ b. if b then Some n else large_in zs) (lt-leb (2 ^ 64) n h)

pub large_negative : (z : ℤ) (zs : List ℤ) (n : ℕ) → z ≡ negsuc n → large_in (z ∷ zs) ≡ large_in zs
large_negative z zs n e = ap (λ (y : ℤ). large_in (y ∷ zs)) e

pub naturals_first : (ns : List ℕ) (z : ℤ) (zs : List ℤ) (n : ℕ) → z ≡ pos n → after_naturals ns (naturals (z ∷ zs)) ≡ after_naturals (ns ++ n ∷ []) (naturals zs)
naturals_first ns z zs n e = ap (λ (y : ℤ). after_naturals ns (naturals (y ∷ zs))) e ∙ after_push ns n (naturals zs)

pub naturals_fail : (ns : List ℕ) (z : ℤ) (zs : List ℤ) (n : ℕ) → z ≡ negsuc n → after_naturals ns (naturals (z ∷ zs)) ≡ None
naturals_fail ns z zs n e = ap (λ (y : ℤ). after_naturals ns (naturals (y ∷ zs))) e

pub naturals_end : (ns : List ℕ) → after_naturals ns (naturals []) ≡ Some ns
naturals_end ns = ap Some (append-nil ns)
