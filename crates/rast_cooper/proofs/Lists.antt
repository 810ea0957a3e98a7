-- Lists of literals that loops make.
use Rattle.std.proofs.Common.{◌≡◌, ℕ, zero, suc, ◌+◌, ◌<◌, Bool, true, false, not, ◌&&◌, List, [], ◌∷◌, ◌++◌, length, get_or, take, map, sym, ◌∙◌, ap, ap₂, refl, arith, cond, append_assoc, append-nil, add-one}
use Rattle.std.proofs.Math.Seq.{take-suc}
use Rattle.rast_cooper.specs.declared.literal.Literal.{Literal}
use Rattle.rast_cooper.specs.Arithmetic.{at_most}
use Rattle.rast_cooper.specs.Eliminate.{halves, parts, without_equations}
use Rattle.rast_cooper.specs.Search.{in_bounds, all_in_bounds, varied, ground}
use Rattle.rast_cooper.proofs.Terms.{and_true, negated_bounded}

-- ---- all within the bounds
pub all_at : (ls : List Literal) (i : ℕ) (lit : Literal) → i < length ls → lit ≡ get_or ls i lit → all_in_bounds ls ≡ true → in_bounds lit ≡ true
all_at [] i lit h e a = absurd (omega arith)
all_at (l ∷ ls) zero lit h e a = ap in_bounds e ∙ (and_true _ _ a).0
all_at (l ∷ ls) (suc i) lit h e a = all_at ls i lit (omega arith) e (and_true _ _ a).1

pub map_fails : (f : Literal → Literal) (ls : List Literal) (i : ℕ) (lit : Literal) → i < length ls → lit ≡ get_or ls i lit → in_bounds (f lit) ≡ false → all_in_bounds (map f ls) ≡ false
map_fails f [] i lit h e n = absurd (omega arith)
map_fails f (l ∷ ls) zero lit h e n = ap (λ b. b && all_in_bounds (map f ls)) (sym (ap (λ m. in_bounds (f m)) e) ∙ n)
map_fails f (l ∷ ls) (suc i) lit h e n = two (in_bounds (f l)) _ (map_fails f ls i lit (omega arith) e n)
  where
    two : (a b : Bool) → b ≡ false → (a && b) ≡ false
    two true b e = e
    two false b e = refl

pub all_append : (ls ms : List Literal) → all_in_bounds (ls ++ ms) ≡ (all_in_bounds ls && all_in_bounds ms)
all_append [] ms = refl
all_append (l ∷ ls) ms = ap (λ b. in_bounds l && b) (all_append ls ms) ∙ assoc (in_bounds l) (all_in_bounds ls) (all_in_bounds ms)
  where
    assoc : (a b c : Bool) → (a && (b && c)) ≡ ((a && b) && c)
    assoc true b c = refl
    assoc false b c = refl

-- ---- an equation as two bounds
pub halves_bounded : (lit : Literal) → in_bounds lit ≡ true → all_in_bounds (halves lit) ≡ true
halves_bounded lit h =
    let g = and_true (at_most lit.divisor) _ h in
    ap₂ (λ a b. a && (b && true)) g.1 (negated_bounded lit.term g.1)

without_append : (x : ℕ) (ls ms : List Literal) → without_equations x (ls ++ ms) ≡ without_equations x ls ++ without_equations x ms
without_append x [] ms = refl
without_append x (l ∷ ls) ms = ap (λ t. parts x l ++ t) (without_append x ls ms) ∙ sym (append_assoc (parts x l) (without_equations x ls) (without_equations x ms))

pub without_more : (x : ℕ) (ls : List Literal) (i : ℕ) (lit : Literal) → i < length ls → lit ≡ get_or ls i lit → without_equations x (take (i + 1) ls) ≡ without_equations x (take i ls) ++ parts x lit
without_more x ls i lit h e =
    let step : take (i + 1) ls ≡ take i ls ++ lit ∷ [] = ap (λ n. take n ls) (add-one i) ∙ take-suc ls i lit h ∙ ap (λ (m : Literal). take i ls ++ m ∷ []) (sym e) in
    ap (without_equations x) step ∙ without_append x (take i ls) (lit ∷ []) ∙ ap (λ t. without_equations x (take i ls) ++ t) (append-nil (parts x lit))

-- ---- literals with variables
varied_push : (ls : List Literal) (lit : Literal) → varied (ls ++ lit ∷ []) ≡ varied ls ++ varied (lit ∷ [])
varied_push [] lit = refl
varied_push (l ∷ ls) lit = by (not (ground l)) (varied_push ls lit)
  where
    by : (b : Bool) → varied (ls ++ lit ∷ []) ≡ varied ls ++ varied (lit ∷ []) → cond b (l ∷ varied (ls ++ lit ∷ [])) (varied (ls ++ lit ∷ [])) ≡ cond b (l ∷ varied ls) (varied ls) ++ varied (lit ∷ [])
    by true e = ap (λ t. l ∷ t) e
    by false e = e

varied_step : (ls : List Literal) (i : ℕ) (lit : Literal) → i < length ls → lit ≡ get_or ls i lit → varied (take (i + 1) ls) ≡ varied (take i ls) ++ varied (lit ∷ [])
varied_step ls i lit h e =
    let step : take (i + 1) ls ≡ take i ls ++ lit ∷ [] = ap (λ n. take n ls) (add-one i) ∙ take-suc ls i lit h ∙ ap (λ (m : Literal). take i ls ++ m ∷ []) (sym e) in
    ap varied step ∙ varied_push (take i ls) lit

pub varied_more : (ls : List Literal) (i : ℕ) (lit : Literal) → i < length ls → lit ≡ get_or ls i lit → ground lit ≡ false → varied (take (i + 1) ls) ≡ varied (take i ls) ++ lit ∷ []
varied_more ls i lit h e g = varied_step ls i lit h e ∙ ap (λ b. varied (take i ls) ++ cond (not b) (lit ∷ []) []) g

pub varied_same : (ls : List Literal) (i : ℕ) (lit : Literal) → i < length ls → lit ≡ get_or ls i lit → ground lit ≡ true → varied (take (i + 1) ls) ≡ varied (take i ls)
varied_same ls i lit h e g = varied_step ls i lit h e ∙ ap (λ b. varied (take i ls) ++ cond (not b) (lit ∷ []) []) g ∙ append-nil (varied (take i ls))

pub bounded_varied : (ls : List Literal) → all_in_bounds ls ≡ true → all_in_bounds (varied ls) ≡ true
bounded_varied [] h = refl
bounded_varied (l ∷ ls) h = let g = and_true (in_bounds l) _ h in by (not (ground l)) g.0 (bounded_varied ls g.1)
  where
    by : (b : Bool) → in_bounds l ≡ true → all_in_bounds (varied ls) ≡ true → all_in_bounds (cond b (l ∷ varied ls) (varied ls)) ≡ true
    by true e r = ap₂ (λ p q. p && q) e r
    by false e r = r
