-- Formulas whose truth doesn't depend on values behind those of the variables in scope.
use Rattle.std.proofs.Common.{◌≡◌, ℕ, ◌+◌, ◌≤◌, Bool, true, false, ◌&&◌, List, [], ◌∷◌, ◌++◌, length, take, drop, refl, sym, ap, ◌∙◌, arith, append_assoc, length-append, length-drop, take-append-drop, length-take-le}
use Rattle.std.specs.List.{list_all}
use Rattle.rast_index.specs.Linear.{whole}
use Rattle.rast_index.specs.Truth.{truth, is_closed_formula}
use Rattle.rast_index.proofs.Scope.{truth_closed}
use Rattle.rast_index.specs.declared.formula.Formula.{Formula}
use Rattle.rast_equal.proofs.Substitution.{whole-append, whole-length}

-- more values than of n variables don't matter
abbrev pub IsSteady : ℕ → Formula → Type 0
IsSteady n f = (vs ws : List ℕ) → n ≤ length vs → length vs + length ws ≤ 16 → truth f (whole (vs ++ ws)) ≡ truth f (whole vs)

abbrev pub AreSteady : ℕ → List Formula → Type 0
AreSteady n [] = Unit {0}
AreSteady n (f ∷ fs) = IsSteady n f × AreSteady n fs

steady_at : (f : Formula) (vs ws : List ℕ) → is_closed_formula (length vs) f ≡ true → length ws ≤ 16 → truth f (whole (vs ++ ws)) ≡ truth f (whole vs)
steady_at f vs ws c few =
    ap (truth f) (whole-append vs ws) ∙ truth_closed (whole vs) (whole ws) (omega (arith, few, whole-length ws)) f (ap (λ n. is_closed_formula n f) (whole-length vs) ∙ c)

pub steady_closed : (n : ℕ) (f : Formula) → is_closed_formula n f ≡ true → IsSteady n f
steady_closed n f c vs ws h few =
    let a : List ℕ = take n vs in
    let b : List ℕ = drop n vs in
    let s : a ++ b ≡ vs = take-append-drop n vs in
    let l : length a ≡ n = length-take-le n vs h in
    let k : is_closed_formula (length a) f ≡ true = ap (λ m. is_closed_formula m f) l ∙ c in
    let long : length (b ++ ws) ≤ 16 = omega (arith, length-append b ws, length-drop n vs, few) in
    let x : truth f (whole (a ++ (b ++ ws))) ≡ truth f (whole a) = steady_at f a (b ++ ws) k long in
    let y : truth f (whole (a ++ b)) ≡ truth f (whole a) = steady_at f a b k (omega (arith, length-drop n vs, few)) in
    ap (λ z. truth f (whole z)) (ap (λ z. z ++ ws) (sym s) ∙ append_assoc a b ws) ∙ (x ∙ (sym y ∙ ap (λ z. truth f (whole z)) s))

pub steady_more : (n : ℕ) (fs : List Formula) → AreSteady n fs → AreSteady (n + 1) fs
steady_more n [] h = tt
steady_more n (f ∷ fs) h = ((λ vs ws a b. h.0 vs ws (omega (arith, a)) b), steady_more n fs h.1)

pub steady_append : (n : ℕ) (fs gs : List Formula) → AreSteady n fs → AreSteady n gs → AreSteady n (fs ++ gs)
steady_append n [] gs h k = k
steady_append n (f ∷ fs) gs h k = (h.0, steady_append n fs gs h.1 k)

-- so they stay true when one more value is known
pub true_still : (n : ℕ) (fs : List Formula) (vs ws : List ℕ) → AreSteady n fs → n ≤ length vs → length vs + length ws ≤ 16 → list_all (λ f. truth f (whole vs)) fs ≡ true → list_all (λ f. truth f (whole (vs ++ ws))) fs ≡ true
true_still n [] vs ws h a b t = refl
true_still n (f ∷ fs) vs ws h a b t = same (truth f (whole (vs ++ ws))) (truth f (whole vs)) (list_all (λ g. truth g (whole (vs ++ ws))) fs) (list_all (λ g. truth g (whole vs)) fs) (h.0 vs ws a b) (λ r. true_still n fs vs ws h.1 a b r) t
  where
    same : (x y p q : Bool) → x ≡ y → (q ≡ true → p ≡ true) → y && q ≡ true → x && p ≡ true
    same x true p q e k t = ap (λ (z : Bool). z && p) e ∙ k t
    same x false p q e k t = cc
