-- The decision of an obligation, of whatever scope.
use Rattle.std.specs.Prelude.{ℕ, Bool, ◌&&◌, if◌then◌else◌, nat_le, List}
use Rattle.std.specs.List.{list_all}
use Rattle.rast_index.specs.declared.formula.Formula.{Formula}
use Rattle.rast_types.specs.declared.stop.Stop.TheVariants as stop
use Rattle.rast_cooper.specs.Verdicts.{is_within, verdict, most_states}
use Rattle.rast_cooper.specs.declared.verdict.Verdict.TheVariants as verdicts
use Rattle.rast_cooper.specs.declared.verdict.Verdict as cooper
use Rattle.rast_check.specs.Questions.{Decision, Verdict, Holds, Fails, Limits}

-- at most 16 variables, and no others occur
abbrev pub is_in_scope : ℕ → List Formula → Formula → Bool
is_in_scope n premises goal = nat_le n 16 && (list_all (is_within n) premises && is_within n goal)

abbrev pub as_verdict : cooper.Verdict → Verdict
as_verdict verdicts.Holds = Holds
as_verdict (verdicts.Fails values) = Fails values
as_verdict verdicts.NodeLimit = Limits stop.NodeLimit
as_verdict verdicts.NumberLimit = Limits stop.NumberLimit

-- That of the search. Where a variable occurs that isn't in scope, as in no well made program, it stops.
abbrev pub decided : Decision
decided n premises goal = if is_in_scope n premises goal then as_verdict (verdict most_states n premises goal) else Limits stop.Variables

-- that of the search alone, which says something where no other variables occur
abbrev pub searched : Decision
searched n premises goal = as_verdict (verdict most_states n premises goal)
