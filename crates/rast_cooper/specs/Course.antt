-- What came of a part of the search.
use Rattle.std.specs.Prelude.{◌≡◌, ℕ, zero, suc, ◌<◌, ◌≤◌, List, ◌++◌}
use Rattle.rast_cooper.specs.declared.explore.Course.{Course}
use Rattle.rast_cooper.specs.declared.explore.Course.TheVariants as course
use Rattle.rast_cooper.specs.Search.{State, Step, Outcome, Found, TooMany, TooGreat, run, after}

-- the outcome, where these states follow
abbrev pub continued : Course → List State → Outcome
continued (course.Done m) ss = run m ss
continued (course.Found rows) ss = Found rows
continued course.TooMany ss = TooMany
continued course.TooGreat ss = TooGreat

-- this came of these states, of which with all that follow n may be visited
pub record Explores (n : ℕ) (cs : List State) (c : Course) : Type 0 where
  pub goes : (ss : List State) → run n (cs ++ ss) ≡ continued c ss

-- this came of a step that finds no solution
pub record Advances (n : ℕ) (t : Step) (c : Course) : Type 0 where
  pub goes : (s : State) (ss : List State) → after (run n) t s ss ≡ continued c ss

-- fewer, or no more, states may be visited
abbrev pub IsBelow : ℕ → Course → Type 0
IsBelow n (course.Done m) = m < n
IsBelow n (course.Found rows) = Unit {0}
IsBelow n course.TooMany = Unit {0}
IsBelow n course.TooGreat = Unit {0}

abbrev pub IsAtMost : ℕ → Course → Type 0
IsAtMost n (course.Done m) = m ≤ n
IsAtMost n (course.Found rows) = Unit {0}
IsAtMost n course.TooMany = Unit {0}
IsAtMost n course.TooGreat = Unit {0}

-- what comes of a state with numbers beyond 2 ^ 120
abbrev pub broken : ℕ → Course
broken zero = course.TooMany
broken (suc n) = course.TooGreat
