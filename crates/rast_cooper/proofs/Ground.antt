-- Loops over the variables of a literal.
use Rattle.std.proofs.Common.{◌≡◌, ℕ, suc, ◌+◌, ◌-◌, ◌<◌, ◌≤◌, Bool, true, false, not, ◌&&◌, sym, ◌∙◌, ap, refl, arith, cond, eqb, unsigned_abs, Some, None, add-one, List, [], ◌∷◌, ◌++◌, ◌||◌}
use Rattle.std.specs.List.{list_any}
use Rattle.rast_cooper.specs.declared.literal.Literal.{Literal}
use Rattle.rast_cooper.specs.Arithmetic.{Linear, coefficient}
use Rattle.rast_cooper.specs.Eliminate.{has}
use Rattle.rast_cooper.specs.Search.{free, ground, unit_from, unit, lowest_from, lowest}

free_step : (i : ℕ) (lit : Literal) → i < 16 → free i (16 - i) lit ≡ (not (has i lit) && free (i + 1) (16 - (i + 1)) lit)
free_step i lit h =
    let e : 16 - i ≡ suc (16 - (i + 1)) = omega arith in
    ap (λ n. free i n lit) e ∙ ap (λ j. not (has i lit) && free j (16 - (i + 1)) lit) (sym (add-one i))

pub ground_first : (lit : Literal) → ground lit ≡ free 0 (16 - 0) lit
unfolding ground
ground_first lit = refl

pub ground_more : (i : ℕ) (lit : Literal) → i < 16 → ground lit ≡ free i (16 - i) lit → has i lit ≡ false → ground lit ≡ free (i + 1) (16 - (i + 1)) lit
ground_more i lit h e f = e ∙ free_step i lit h ∙ ap (λ b. not b && free (i + 1) (16 - (i + 1)) lit) f

pub ground_ends : (i : ℕ) (lit : Literal) → i < 16 → ground lit ≡ free i (16 - i) lit → has i lit ≡ true → false ≡ ground lit
ground_ends i lit h e f = sym (e ∙ free_step i lit h ∙ ap (λ b. not b && free (i + 1) (16 - (i + 1)) lit) f)

pub ground_all : (i : ℕ) (lit : Literal) → 16 ≤ i → ground lit ≡ free i (16 - i) lit → true ≡ ground lit
ground_all i lit h e = let z : 16 - i ≡ 0 = omega arith in sym (e ∙ ap (λ n. free i n lit) z)

-- ---- the lowest unit
abbrev is_unit : ℕ → Linear → Bool
is_unit x l = eqb (unsigned_abs (coefficient l x)) 1

unit_step : (i : ℕ) (l : Linear) → i < 16 → unit_from i (16 - i) l ≡ cond (eqb (unsigned_abs (coefficient l i)) 1) (Some i) (unit_from (i + 1) (16 - (i + 1)) l)
unit_step i l h =
    let e : 16 - i ≡ suc (16 - (i + 1)) = omega arith in
    ap (λ n. unit_from i n l) e ∙ ap (λ j. cond (eqb (unsigned_abs (coefficient l i)) 1) (Some i) (unit_from j (16 - (i + 1)) l)) (sym (add-one i))

pub unit_first : (l : Linear) → unit l ≡ unit_from 0 (16 - 0) l
unfolding unit
unit_first l = refl

pub unit_more : (i : ℕ) (l : Linear) → i < 16 → unit l ≡ unit_from i (16 - i) l → eqb (unsigned_abs (coefficient l i)) 1 ≡ false → unit l ≡ unit_from (i + 1) (16 - (i + 1)) l
unit_more i l h e f = e ∙ unit_step i l h ∙ ap (λ b. cond b (Some i) (unit_from (i + 1) (16 - (i + 1)) l)) f

pub unit_found : (i : ℕ) (l : Linear) → i < 16 → unit l ≡ unit_from i (16 - i) l → eqb (unsigned_abs (coefficient l i)) 1 ≡ true → Some i ≡ unit l
unit_found i l h e f = sym (e ∙ unit_step i l h ∙ ap (λ b. cond b (Some i) (unit_from (i + 1) (16 - (i + 1)) l)) f)

pub unit_none : (i : ℕ) (l : Linear) → 16 ≤ i → unit l ≡ unit_from i (16 - i) l → None ≡ unit l
unit_none i l h e = let z : 16 - i ≡ 0 = omega arith in sym (e ∙ ap (λ n. unit_from i n l) z)

-- ---- the lowest variable
lowest_step : (i : ℕ) (ls : List Literal) → i < 16 → lowest_from i (16 - i) ls ≡ cond (list_any (has i) ls) (Some i) (lowest_from (i + 1) (16 - (i + 1)) ls)
lowest_step i ls h =
    let e : 16 - i ≡ suc (16 - (i + 1)) = omega arith in
    ap (λ n. lowest_from i n ls) e ∙ ap (λ j. cond (list_any (has i) ls) (Some i) (lowest_from j (16 - (i + 1)) ls)) (sym (add-one i))

pub lowest_first : (ls : List Literal) → lowest ls ≡ lowest_from 0 (16 - 0) ls
unfolding lowest
lowest_first ls = refl

pub lowest_more : (i : ℕ) (ls : List Literal) → i < 16 → lowest ls ≡ lowest_from i (16 - i) ls → list_any (has i) ls ≡ false → lowest ls ≡ lowest_from (i + 1) (16 - (i + 1)) ls
lowest_more i ls h e f = e ∙ lowest_step i ls h ∙ ap (λ b. cond b (Some i) (lowest_from (i + 1) (16 - (i + 1)) ls)) f

pub lowest_found : (i : ℕ) (ls : List Literal) → i < 16 → lowest ls ≡ lowest_from i (16 - i) ls → list_any (has i) ls ≡ true → Some i ≡ lowest ls
lowest_found i ls h e f = sym (e ∙ lowest_step i ls h ∙ ap (λ b. cond b (Some i) (lowest_from (i + 1) (16 - (i + 1)) ls)) f)

pub lowest_none : (i : ℕ) (ls : List Literal) → 16 ≤ i → lowest ls ≡ lowest_from i (16 - i) ls → None ≡ lowest ls
lowest_none i ls h e = let z : 16 - i ≡ 0 = omega arith in sym (e ∙ ap (λ n. lowest_from i n ls) z)

pub any_append : (p : Literal → Bool) (ls ms : List Literal) → list_any p (ls ++ ms) ≡ (list_any p ls || list_any p ms)
any_append p [] ms = refl
any_append p (l ∷ ls) ms = ap (λ b. p l || b) (any_append p ls ms) ∙ assoc (p l) (list_any p ls) (list_any p ms)
  where
    assoc : (a b c : Bool) → (a || (b || c)) ≡ ((a || b) || c)
    assoc true b c = refl
    assoc false b c = refl
