-- Obligations, and the verdicts on them.
use Rattle.std.specs.Prelude.{ℕ, Bool, ◌&&◌, nat_le, List}
use Rattle.std.specs.List.{list_all}
use Rattle.rast_index.specs.declared.formula.Formula.{Formula}
use Rattle.rast_cooper.specs.declared.verdict.Verdict.{Verdict}
use Rattle.rast_cooper.specs.Verdicts.{is_within, most_states, verdict}
use Rattle.rast_memo.specs.declared.obligation.Obligation.{Obligation}

abbrev pub asked : ℕ → List Formula → Formula → Obligation
asked n premises goal = record { vars = n; premises = premises; goal = goal }

-- at most 16 variables, and no others occur
abbrev pub is_fit : Obligation → Bool
is_fit o = nat_le o.vars 16 && (list_all (is_within o.vars) o.premises && is_within o.vars o.goal)

-- that of the search
abbrev pub verdict_on : Obligation → Verdict
verdict_on o = verdict most_states o.vars o.premises o.goal
