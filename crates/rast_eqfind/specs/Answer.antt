-- What a call of the search answers.
use Rattle.std.specs.Prelude.{◌≡◌, ◌≤◌, ◌<◌, ◌+◌, ◌^◌, List, ◌++◌, length, Bool, true, false, Option, Some, None, Result, Ok, Err, IfOk, All}
use Rattle.rast_index.specs.Linear.{Linear, is_small}
use Rattle.rast_types.specs.declared.equation.Equation.{Equation}
use Rattle.rast_equal.specs.declared.answer.SameErr.{SameErr}
use Rattle.rast_equal.specs.Fault.{Answers}
use Rattle.rast_equal.specs.Fit.{IsFit, IsFitEquation, IsFitMet}
use Rattle.rast_equal.specs.declared.met.Met.{Met}
use Rattle.rast_equal.specs.Walk.{left}
use Rattle.rast_eqfind.specs.Read.{Seen}
use Rattle.rast_eqfind.specs.Search.{Search, Test, most_made, tested}
use Rattle.rast_types.specs.Closed.{Layer}
use Rattle.rast_types.specs.declared.stop.Stop.{Stop}
use Rattle.rast_types.specs.declared.ty.Ty.TheOpen.{Named, Next}
use Rattle.rast_equal.specs.declared.walk.Shown.{Shown}
use Rattle.rast_eqfind.specs.declared.finding.Finding.{Finding}
use Rattle.rast_eqfind.specs.declared.finding.Finding.TheVariants as finding
use Rattle.rast_eqfind.specs.declared.finding.Halt.{Halt}
use Rattle.rast_eqfind.specs.declared.finding.Halt.TheVariants.{Ends, Memory}

-- the new equations may be walked
abbrev pub IsFitFinding : Finding → Type 0
IsFitFinding (finding.Found added refs) = All IsFitEquation added
IsFitFinding f = Unit {0}

-- what the search comes to, or how it ends early; want of memory may always come
abbrev pub Comes : Result Finding Finding → Result Finding Halt → Type 0
Comes o (Ok x) = (o ≡ Ok x) × IsFitFinding x
Comes o (Err (Ends f)) = (o ≡ Err f) × IsFitFinding f
Comes o (Err Memory) = Unit {0}

-- these were read after what was there, and whether there was no difference
abbrev pub Reads : List (Linear × Linear) → Seen → List (Linear × Linear) → Bool → Type 0
Reads before r after alike = (after ≡ before ++ r.terms) × (alike ≡ r.alike)

-- whether it is neither a name nor a next
abbrev pub is_head : Layer → Bool
is_head (Named k xs) = false
is_head (Next l a) = false
is_head layer = true

abbrev pub is_small_some : Option Linear → Bool
is_small_some None = true
is_small_some (Some l) = is_small l

-- what an answer of the walk says of a reference; want of memory may always come
abbrev pub Tests : {E : Type 0} → Result (Unit {0}) SameErr → Result Test E → Type 0
Tests {E} answer result = (o : Option SameErr) → Answers o answer → IfOk result (λ t. t ≡ tested o)

-- equations that may be walked, and at most as many as may be made
pub record IsFitSearch (s : Search) : Type 0 where
  pub few : length s.made ≤ most_made
  pub fit : All IsFitEquation s.made

-- equations that are known, and so few that those which may be made have numbers too
pub record AreKnown (known : List Equation) : Type 0 where
  pub few : length known + most_made + 1 < 2 ^ 32
  pub fit : All IsFitEquation known

-- what comes of it, and the search as it is then, which may go on; or how it ends. Want of memory may always come.
abbrev pub Goes : Result Search Finding → Search → Result (Unit {0}) Halt → Type 0
Goes o now (Ok u) = (o ≡ Ok now) × IsFitSearch now
Goes o now (Err (Ends f)) = (o ≡ Err f) × IsFitFinding f
Goes o now (Err Memory) = Unit {0}

-- what is met at the heads of an equation, and then at the pairs of their parts
pub record Opened (ms : List Met) (s : Shown) : Type 0 where
  pub met : ms ≡ s.own ++ left s.parts
  pub own_fit : All IsFitMet s.own
  pub parts_fit : All IsFit s.parts

-- what was opened, or the bound that was reached
abbrev pub Opens : Result (List Met) Stop → Result Shown Halt → Type 0
Opens o (Ok s) = (ms : List Met) × (o ≡ Ok ms) × Opened ms s
Opens o (Err (Ends f)) = (x : Stop) × (o ≡ Err x) × (f ≡ finding.Stopped x)
Opens o (Err Memory) = Unit {0}
