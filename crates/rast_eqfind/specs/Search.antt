-- The search for equations by which two types are the same.
use Rattle.std.specs.Prelude.{ℕ, zero, suc, ◌+◌, Bool, true, false, if◌then◌else◌, nat_lt, List, [], ◌∷◌, ◌++◌, length, slice_get, slice_set, Option, Some, None, Result, Ok, Err}
use Rattle.std.specs.List.{list_all}
use Rattle.rast_index.specs.Linear.{Linear, is_small, variables}
use Rattle.rast_index.specs.Truth.{is_equal}
use Rattle.rast_index.specs.declared.formula.Formula.{Formula}
use Rattle.rast_index.specs.declared.formula.Formula.TheVariants as form
use Rattle.rast_cooper.specs.Verdicts.{verdict, most_states}
use Rattle.rast_cooper.specs.declared.verdict.Verdict.{Verdict}
use Rattle.rast_cooper.specs.declared.verdict.Verdict.TheVariants.{Holds, Fails, NodeLimit, NumberLimit}
use Rattle.rast_types.specs.Closed.{Table}
use Rattle.rast_types.specs.Symbolic.{Timed, exposed_type, within}
use Rattle.rast_types.specs.declared.equation.Equation.{Equation}
use Rattle.rast_types.specs.declared.equation.Ref.{Ref}
use Rattle.rast_types.specs.declared.equation.Ref.TheVariants.{Refl, Eq}
use Rattle.rast_types.specs.declared.stop.Stop.{Stop}
use Rattle.rast_types.specs.declared.stop.Stop.TheVariants as stop
use Rattle.rast_types.specs.declared.ty.Ty.{Ty}
use Rattle.rast_equal.specs.Equated.{is_deep_either, are_small_both}
use Rattle.rast_equal.specs.Fault.{first_fault}
use Rattle.rast_equal.specs.Walk.{all_of, by_equation, by_name, head_layers, meets, top}
use Rattle.rast_equal.specs.declared.met.Met.{Met}
use Rattle.rast_equal.specs.declared.place.Place.{Place}
use Rattle.rast_equal.specs.declared.answer.Part.{Part}
use Rattle.rast_equal.specs.declared.answer.SameErr.{SameErr}
use Rattle.rast_equal.specs.declared.answer.SameErr.TheVariants as err
use Rattle.rast_equal.specs.declared.met.Met.TheVariants.{Wants, Names, Differs, Shuffled, Over}
use Rattle.rast_eqfind.specs.Read.{arguments}
use Rattle.rast_eqfind.specs.declared.finding.Finding.{Finding}
use Rattle.rast_eqfind.specs.declared.finding.Finding.TheVariants as finding
pub use Rattle.rast_eqfind.specs.declared.choice.Choice.{Choice}
use Rattle.rast_eqfind.specs.declared.choice.Choice.TheVariants.{Takes, Makes, Halts}
pub use Rattle.rast_eqfind.specs.declared.choice.Test.{Test}
use Rattle.rast_eqfind.specs.declared.choice.Test.TheVariants.{Serves, Refuses, Reaches}
pub use Rattle.rast_eqfind.specs.declared.search.Search.{Search}

-- how many equations a search may make
abbrev pub most_made : ℕ
most_made = 256

-- what the test of a reference says
abbrev pub tested : Option SameErr → Test
tested None = Serves
tested (Some (err.Bound s)) = Reaches s
tested (Some e) = Refuses

-- this reference, where its test serves
abbrev pub tried : Ref → Test → Choice
tried r Serves = Takes r
tried r Refuses = Makes
tried r (Reaches s) = Halts s

abbrev pub is_making : Choice → Bool
is_making Makes = true
is_making c = false

-- the first choice that isn't to make a new equation
abbrev pub or_next : Choice → Choice → Choice
or_next Makes other = other
or_next c other = c

-- whether the types are an instance of an equation at these arguments; a coefficient of 2^32 or more is a passed limit
abbrev pub instance_test : Equation → List Linear → Place → Ty → Ty → Test
instance_test e args p a b = tested (first_fault (by_equation (Some e) args p a b))

abbrev pub instance : Equation → List Linear → Place → Ty → Ty → Test
instance e args p a b =
    if list_all is_small args then instance_test e args p a b else Reaches stop.Coefficient

-- the equation with the number k, where the types are an instance of it
abbrev pub by_listed : ℕ → Equation → Place → Ty → Ty → Choice
by_listed k e p a b = let args = arguments e p a b in tried (Eq k args) (instance e args p a b)

-- the first of the equations of which the types are an instance, where the first has the number k
abbrev pub listed : ℕ → List Equation → Place → Ty → Ty → Choice
listed k [] p a b = Makes
listed k (e ∷ es) p a b = or_next (by_listed k e p a b) (listed (suc k) es p a b)

-- what serves two types of which one is a name
abbrev pub chosen : List Equation → Place → Ty → Ty → Choice
chosen es p a b = or_next (tried Refl (tested (first_fault (by_name p a b)))) (listed 1 es p a b)

-- what is presumed, as one formula
abbrev pub joined : List Formula → Formula
joined [] = form.True
joined (f ∷ []) = f
joined (f ∷ g ∷ fs) = form.And (f ∷ g ∷ fs)

abbrev pub new_equation : Place → Ty → Ty → Equation
new_equation p a b = record { vars = p.vars; premise = joined p.premises; left = a; right = b; refs = [] }

abbrev pub referred : Ref → Search → Search
referred r s = record s { refs = s.refs ++ r ∷ [] }

abbrev pub with_new : Equation → Place → Search → Search
with_new e p s = record s { made = s.made ++ e ∷ []; paths = s.paths ++ (s.base ++ p.path) ∷ [] }

-- A new equation is made where the test of its reference reaches no bound. Nothing is wrong with it, so that the test serves.
abbrev pub made_by : Equation → Ref → Place → Search → Test → Result Search Finding
made_by e r p s Serves = Ok (referred r (with_new e p s))
made_by e r p s Refuses = Err (finding.Stopped stop.NodeLimit)
made_by e r p s (Reaches x) = Err (finding.Stopped x)

-- the reference to the next equation that is made, with its own variables
abbrev pub new_ref : List Equation → Search → Place → Ref
new_ref known s p = Eq (suc (length known + length s.made)) (variables p.vars)

-- the test of this reference
abbrev pub new_test : Place → Ty → Ty → Test
new_test p a b = instance_test (new_equation p a b) (variables p.vars) p a b

abbrev pub make : List Equation → Search → Place → Ty → Ty → Result Search Finding
make known s p a b =
    if nat_lt (length s.made) most_made
    then made_by (new_equation p a b) (new_ref known s p) p s (new_test p a b)
    else Err (finding.EqBound s.made)

abbrev pub served_by : List Equation → Search → Place → Ty → Ty → Choice → Result Search Finding
served_by known s p a b (Takes r) = Ok (referred r s)
served_by known s p a b Makes = make known s p a b
served_by known s p a b (Halts x) = Err (finding.Stopped x)

abbrev pub by_verdict : Search → Place → Verdict → Result Search Finding
by_verdict s p Holds = Ok s
by_verdict s p (Fails values) = Err (finding.Different (s.base ++ p.path) p.vars values)
by_verdict s p NodeLimit = Err (finding.Stopped stop.NodeLimit)
by_verdict s p NumberLimit = Err (finding.Stopped stop.NumberLimit)

abbrev pub asked : Search → Place → Formula → Result Search Finding
asked s p goal = by_verdict s p (verdict most_states p.vars p.premises goal)

-- what comes of one thing met
abbrev pub meet : List Equation → Search → Met → Result Search Finding
meet known s (Wants p goal) = asked s p goal
meet known s (Names p a b) = served_by known s p a b (chosen (known ++ s.made) p a b)
meet known s (Differs p) = asked s p form.False
meet known s (Shuffled p) = Ok s
meet known s Over = Err (finding.Stopped stop.Variables)

abbrev pub onward : {A B E : Type 0} → Result A E → (A → Result B E) → Result B E
onward {A} {B} {E} (Ok a) f = f a
onward {A} {B} {E} (Err e) f = Err e

-- what comes of what is met, in order
abbrev pub meet_all : List Equation → Search → List Met → Result Search Finding
meet_all known s [] = Ok s
meet_all known s (m ∷ ms) = onward (meet known s m) (λ now. meet_all known now ms)

abbrev pub opened_at : Place → Timed → Timed → Result (List Met) Stop
opened_at p a b = within (is_deep_either p.vars a b) (are_small_both a b) (Wants p (is_equal a.ticks b.ticks) ∷ all_of (head_layers a b p))

-- what is met at the heads of an equation, and at their parts
abbrev pub opened_mets : Table → Equation → Result (List Met) Stop
opened_mets t e = opened_at (top e.vars (e.premise ∷ [])) (exposed_type t e.vars e.left) (exposed_type t e.vars e.right)

abbrev pub meet_opened : List Equation → Search → Result (List Met) Stop → Result Search Finding
meet_opened known s (Ok ms) = meet_all known s ms
meet_opened known s (Err x) = Err (finding.Stopped x)

-- the walk of an equation is done: what was chosen are its references
abbrev pub closed_some : ℕ → Search → Option Equation → Search
closed_some i s None = s
closed_some i s (Some e) = record s { made = slice_set s.made i (record e { refs = s.refs }); refs = [] }

abbrev pub closed_at : ℕ → Search → Search
closed_at i s = closed_some i s (slice_get s.made i)

abbrev pub opened_some : Table → Option Equation → Result (List Met) Stop
opened_some t None = Ok []
opened_some t (Some e) = opened_mets t e

abbrev pub or_top : Option (List Part) → List Part
or_top None = []
or_top (Some path) = path

-- paths are from where the equation at this place was made
abbrev pub based : ℕ → Search → Search
based i s = record s { base = or_top (slice_get s.paths i) }

-- the equation at place i is opened, and walked
abbrev pub walk_one : Table → List Equation → ℕ → Search → Result Search Finding
walk_one t known i s = onward (meet_opened known (based i s) (opened_some t (slice_get s.made i))) (λ now. Ok (closed_at i now))

-- The equations that were made are walked in order, from place i on; so many may still be walked.
abbrev pub walk_made : Table → List Equation → ℕ → ℕ → Search → Result Search Finding
walk_made t known zero i s = Ok s
walk_made t known (suc n) i s = if nat_lt i (length s.made) then onward (walk_one t known i s) (walk_made t known n (suc i)) else Ok s

abbrev pub begun : Search
begun = record { made = []; paths = []; refs = []; base = [] }

abbrev pub ended : Result Finding Finding → Finding
ended (Ok f) = f
ended (Err f) = f

-- the walk of the two types; where it has chosen its references, that of the equations
abbrev pub after_top : Table → List Equation → Search → Result Finding Finding
after_top t known s = onward (walk_made t known most_made 0 (record s { refs = [] })) (λ now. Ok (finding.Found now.made s.refs))

abbrev pub searched : Table → List Equation → List Met → Result Finding Finding
searched t known ms = onward (meet_all known begun ms) (after_top t known)

-- what the search comes to
abbrev pub found : Table → List Equation → ℕ → List Formula → Ty → Ty → Finding
found t known n ps a b = ended (searched t known (meets a b (top n ps)))
