-- The search for numbers that make formulas true.
use Rattle.std.specs.Prelude.{ℕ, zero, suc, ℤ, pos, neg_ℤ, unsigned_abs, int_le, Bool, true, false, not, ◌&&◌, eqb, if◌then◌else◌, List, [], ◌∷◌, ◌++◌, map, filter, Option, Some, None}
use Rattle.std.specs.List.{list_all, list_any, range_with_len}
use Rattle.rast_index.specs.Truth.{divides}
use Rattle.rast_index.specs.declared.formula.Formula.{Formula}
use Rattle.rast_cooper.specs.declared.literal.Sort.{Sort}
use Rattle.rast_cooper.specs.declared.literal.Sort.TheVariants.{AtLeast, Equals, Multiple, NotMultiple}
use Rattle.rast_cooper.specs.declared.literal.Literal.{Literal}
use Rattle.rast_cooper.specs.declared.rewrite.Prepared.{Prepared}
use Rattle.rast_cooper.specs.declared.solution.Solution.{Solution}
use Rattle.rast_cooper.specs.Arithmetic.{Linear, coefficient, put, times, variable, at_most, is_bounded}
use Rattle.rast_cooper.specs.Meaning.{literal}
use Rattle.rast_cooper.specs.Eliminate.{is_zero, is_equation, has, substituted, scaled, without_equations, common, period, bounds, prepared_by, at_point}
use Rattle.rast_cooper.specs.Claims.{Claim, Whole, Node, Always, Never, Atom, Every, Some_of, node_of}

-- a state of the search; the rows give each variable's value, as a term over a divisor
pub record State : Type 0 where
  pub pending : List Claim
  pub literals : List Literal
  pub rows : List Literal

abbrev pub state : List Claim → List Literal → List Literal → State
state cs ls rows = record { pending = cs; literals = ls; rows = rows }

pub data Step : Type 0 where
  Ended : Step
  Beyond : Step
  Solved : Step
  Next : (states : List State) → Step

-- the states that a step makes
abbrev pub step_states : Step → List State
step_states Ended = []
step_states Beyond = []
step_states Solved = []
step_states (Next cs) = cs

-- ---- 1: claims are taken apart
abbrev pub apart : Node → List Claim → List Literal → List Literal → Step
apart Always cs ls rows = Next (state cs ls rows ∷ [])
apart Never cs ls rows = Ended
apart (Atom lit) cs ls rows = Next (state cs (ls ++ lit ∷ []) rows ∷ [])
apart (Every ds) cs ls rows = Next (state (ds ++ cs) ls rows ∷ [])
apart (Some_of ds) cs ls rows = Next (map (λ d. state (d ∷ cs) ls rows) ds)

-- ---- 2: literals without variables
abbrev pub free : ℕ → ℕ → Literal → Bool
free x zero lit = true
free x (suc n) lit = not (has x lit) && free (suc x) n lit

unfoldable pub ground : Literal → Bool
ground lit = free 0 16 lit

abbrev pub says : Sort → ℕ → ℤ → Bool
says AtLeast d z = int_le (pos 0) z
says Equals d z = is_zero z
says Multiple d z = divides d z
says NotMultiple d z = not (divides d z)

abbrev pub fails : Literal → Bool
fails lit = ground lit && not (says lit.sort lit.divisor lit.term.constant)

abbrev pub varied : List Literal → List Literal
varied ls = filter (λ lit. not (ground lit)) ls

-- ---- 3: an equation is solved
abbrev pub unit_from : ℕ → ℕ → Linear → Option ℕ
unit_from x zero l = None
unit_from x (suc n) l = if eqb (unsigned_abs (coefficient l x)) 1 then Some x else unit_from (suc x) n l

unfoldable pub unit : Linear → Option ℕ
unit l = unit_from 0 16 l

abbrev pub solution : Linear → ℕ → Solution
solution l x = record { variable = x; term = times (neg_ℤ (coefficient l x)) (put x (pos 0) l) }

abbrev pub solved_one : Option ℕ → Linear → Option Solution → Option Solution
solved_one None l more = more
solved_one (Some x) l more = Some (solution l x)

abbrev pub first_solved : List Literal → Option Solution
first_solved [] = None
first_solved (lit ∷ ls) = if is_equation lit.sort then solved_one (unit lit.term) lit.term (first_solved ls) else first_solved ls

-- ---- 4: the lowest variable that is left
abbrev pub lowest_from : ℕ → ℕ → List Literal → Option ℕ
lowest_from x zero ls = None
lowest_from x (suc n) ls = if list_any (has x) ls then Some x else lowest_from (suc x) n ls

unfoldable pub lowest : List Literal → Option ℕ
lowest ls = lowest_from 0 16 ls

-- ---- numbers
abbrev pub in_bounds : Literal → Bool
in_bounds lit = at_most lit.divisor && is_bounded lit.term

abbrev pub all_in_bounds : List Literal → Bool
all_in_bounds = list_all in_bounds

-- ---- 5: a variable is tested
abbrev pub point_states : ℕ → Linear → ℕ → ℕ → List Literal → List Literal → List State
point_states x b j zero ls rows = []
point_states x b j (suc n) ls rows = state [] (at_point x b j ls) (at_point x b j rows) ∷ point_states x b (suc j) n ls rows

abbrev pub bound_states : ℕ → List Linear → ℕ → List Literal → List Literal → List State
bound_states x [] n ls rows = []
bound_states x (b ∷ bs) n ls rows = point_states x b 0 n ls rows ++ bound_states x bs n ls rows

abbrev pub test_by : ℕ → ℕ → List Literal → List Literal → Prepared
test_by x l ls rows = record { common = l; period = period x (prepared_by x l ls); literals = prepared_by x l ls; rows = map (scaled x l) rows }

unfoldable pub test : ℕ → List Literal → List Literal → Prepared
test x ls rows = let split = without_equations x ls in test_by x (common x (split ++ rows)) split rows

abbrev pub fit : Prepared → Bool
fit t = at_most t.common && (at_most t.period && (all_in_bounds t.literals && all_in_bounds t.rows))

abbrev pub tested : ℕ → Prepared → Step
tested x t = if fit t then Next (bound_states x (bounds x t.literals) t.period t.literals t.rows) else Beyond

abbrev pub left : Option ℕ → List Literal → List Literal → Step
left None ls rows = Solved
left (Some x) ls rows = tested x (test x ls rows)

abbrev pub settled : Option Solution → List Literal → List Literal → Step
settled (Some s) ls rows = Next (state [] (map (substituted s.variable s.term) ls) (map (substituted s.variable s.term) rows) ∷ [])
settled None ls rows = left (lowest (ls ++ rows)) ls rows

abbrev pub bare : List Literal → List Literal → Step
bare ls rows = if list_any fails ls then Ended else settled (first_solved (varied ls)) (varied ls) rows

abbrev pub step_from : List Claim → List Literal → List Literal → Step
step_from [] ls rows = bare ls rows
step_from (c ∷ cs) ls rows = apart (node_of c) cs ls rows

unfoldable pub step : State → Step
step s = step_from s.pending s.literals s.rows

-- ---- the search
pub data Outcome : Type 0 where
  Exhausted : Outcome
  Found : (rows : List Literal) → Outcome
  TooMany : Outcome
  TooGreat : Outcome

abbrev pub after : (List State → Outcome) → Step → State → List State → Outcome
after more Ended s ss = more ss
after more Beyond s ss = TooGreat
after more Solved s ss = Found s.rows
after more (Next cs) s ss = more (cs ++ ss)

-- the outcome of a stack of states, of which at most n are visited
unfoldable pub run : ℕ → List State → Outcome
run zero [] = Exhausted
run zero (s ∷ ss) = TooMany
run (suc n) [] = Exhausted
run (suc n) (s ∷ ss) = if all_in_bounds s.literals && all_in_bounds s.rows then after (run n) (step s) s ss else TooGreat

-- ---- the first state
abbrev pub own : ℕ → Literal
own x = literal AtLeast 0 (variable x)

abbrev pub row : ℕ → Literal
row x = literal Multiple 1 (variable x)

abbrev pub first : ℕ → List Formula → Formula → State
first n premises goal = state (map (λ f. Whole f true) premises ++ Whole goal false ∷ []) (map own (range_with_len 0 n)) (map row (range_with_len 0 n))
