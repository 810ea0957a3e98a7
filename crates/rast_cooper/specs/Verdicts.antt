-- The verdict on an obligation, and what it says of the obligation.
use Rattle.std.specs.Prelude.{◌≡◌, ℕ, ◌-◌, Bool, true, false, ◌&&◌, List, [], ◌∷◌, length, take, drop, replicate}
use Rattle.std.specs.List.{list_all}
use Rattle.rast_index.specs.Linear.{whole}
use Rattle.rast_index.specs.Truth.{truth, Follows, is_closed_formula}
use Rattle.rast_cooper.specs.Divisors.{divisors_above_zero}
use Rattle.rast_index.specs.declared.formula.Formula.{Formula}
use Rattle.rast_cooper.specs.declared.verdict.Verdict.{Verdict}
use Rattle.rast_cooper.specs.declared.verdict.Verdict.TheVariants.{Holds, Fails, NodeLimit, NumberLimit}
use Rattle.rast_cooper.specs.Rows.{numbers}
use Rattle.rast_cooper.specs.Search.{Outcome, Exhausted, Found, TooMany, TooGreat, run, first}

-- how many states may be visited
abbrev pub most_states : ℕ
most_states = 1048576

-- whether only the first n variables occur, and each divisor is at least 1
abbrev pub is_within : ℕ → Formula → Bool
is_within n f = is_closed_formula n f && divisors_above_zero f

abbrev pub verdict_of : Outcome → Verdict
verdict_of Exhausted = Holds
verdict_of (Found rows) = Fails (numbers rows)
verdict_of TooMany = NodeLimit
verdict_of TooGreat = NumberLimit

-- the verdict on n variables, premises and a goal, where at most this many states are visited
unfoldable pub verdict : ℕ → ℕ → List Formula → Formula → Verdict
verdict most n premises goal = verdict_of (run most (first n premises goal ∷ []))

-- at the first n of these numbers the premises are true and the goal is false
pub record Refutes (n : ℕ) (premises : List Formula) (goal : Formula) (values : List ℕ) : Type 0 where
  pub sized : length values ≡ 16
  pub premises_true : list_all (λ f. truth f (whole (take n values))) premises ≡ true
  pub goal_false : truth goal (whole (take n values)) ≡ false
  pub others : drop n values ≡ replicate (16 - n) 0

-- what a verdict says
abbrev pub Tells : ℕ → List Formula → Formula → Verdict → Type 0
Tells n premises goal Holds = Follows n premises goal
Tells n premises goal (Fails values) = Refutes n premises goal values
Tells n premises goal NodeLimit = Unit {0}
Tells n premises goal NumberLimit = Unit {0}
