-- Formulas: their truth, whether one follows from others, and formulas with their variables replaced.
use Rattle.std.specs.Prelude.{◌≡◌, length, ℕ, ℤ, ◌%◌, Bool, true, false, not, ◌&&◌, ◌||◌, eqb, List, int_lt}
use Rattle.std.specs.List.{list_all, list_any}
use Rattle.rast_index.specs.Linear.{Linear, value, magnitude, replaced, is_small, int_eq, whole, is_closed}
use Rattle.rast_index.specs.declared.formula.Rel.{Rel}
use Rattle.rast_index.specs.declared.formula.Rel.TheVariants as rel
use Rattle.rast_index.specs.declared.formula.Formula.{Formula}
use Rattle.rast_index.specs.declared.formula.Formula.TheOpen.{Formula-F, True, False, Rel as Related, Div, Not, And, Or, Imp}
use Rattle.rast_index.specs.declared.formula.Formula.TheVariants as form
use Rattle.rast_index.specs.declared.formula.Formula.TheFolds.{fold-Formula}

abbrev pub related : Rel → ℤ → ℤ → Bool
related rel.Eq a b = int_eq a b
related rel.Ne a b = not (int_eq a b)
related rel.Lt a b = int_lt a b
related rel.Le a b = not (int_lt b a)
related rel.Gt a b = int_lt b a
related rel.Ge a b = not (int_lt a b)

-- a multiple of the divisor
abbrev pub divides : ℕ → ℤ → Bool
divides d z = eqb (magnitude z % d) 0

-- The truth of one layer, from what its parts say.
abbrev pub truth_step : Formula-F (List ℤ → Bool) → List ℤ → Bool
truth_step True vs = true
truth_step False vs = false
truth_step (Related a r b) vs = related r (value a vs) (value b vs)
truth_step (Div d l) vs = divides d (value l vs)
truth_step (Not f) vs = not (f vs)
truth_step (And fs) vs = list_all (λ f. f vs) fs
truth_step (Or fs) vs = list_any (λ f. f vs) fs
truth_step (Imp f g) vs = not (f vs) || g vs

-- the truth of a formula under a valuation
abbrev pub truth : Formula → List ℤ → Bool
truth = fold-Formula (List ℤ → Bool) truth_step

-- Whether each number in one layer is small, from whether those of its parts are.
abbrev pub small_step : Formula-F Bool → Bool
small_step True = true
small_step False = true
small_step (Related a r b) = is_small a && is_small b
small_step (Div d l) = is_small l
small_step (Not f) = f
small_step (And fs) = list_all (λ f. f) fs
small_step (Or fs) = list_all (λ f. f) fs
small_step (Imp f g) = f && g

abbrev pub all_small : Formula → Bool
all_small = fold-Formula Bool small_step

-- One layer with the arguments in the place of the variables.
abbrev pub put_step : List Linear → Formula-F Formula → Formula
put_step args True = form.True
put_step args False = form.False
put_step args (Related a r b) = form.Rel (replaced args a) r (replaced args b)
put_step args (Div d l) = form.Div d (replaced args l)
put_step args (Not f) = form.Not f
put_step args (And fs) = form.And fs
put_step args (Or fs) = form.Or fs
put_step args (Imp f g) = form.Imp f g

abbrev pub put : List Linear → Formula → Formula
put args = fold-Formula Formula (put_step args)

-- The goal is true under every valuation under which all premises are.
abbrev pub Follows : ℕ → List Formula → Formula → Type 0
Follows n premises goal = (vs : List ℕ) → length vs ≡ n → list_all (λ f. truth f (whole vs)) premises ≡ true → truth goal (whole vs) ≡ true

-- relations between linear terms
abbrev pub is_equal : Linear → Linear → Formula
is_equal a b = form.Rel a rel.Eq b

abbrev pub is_at_least : Linear → Linear → Formula
is_at_least a b = form.Rel a rel.Ge b

-- whether only variables below n occur
abbrev pub closed_step : ℕ → Formula-F Bool → Bool
closed_step n True = true
closed_step n False = true
closed_step n (Related a r b) = is_closed n a && is_closed n b
closed_step n (Div d l) = is_closed n l
closed_step n (Not f) = f
closed_step n (And fs) = list_all (λ f. f) fs
closed_step n (Or fs) = list_all (λ f. f) fs
closed_step n (Imp f g) = f && g

abbrev pub is_closed_formula : ℕ → Formula → Bool
is_closed_formula n = fold-Formula Bool (closed_step n)
