use Rattle.std.proofs.Common.{◌≡◌, ◌++◌, map, drop, Ok}
use Rattle.rast_resolve.specs.Answers.{◌>>=◌}
use Rattle.rast_resolve.specs.Bodies.{branches_of, branch_of}
use Rattle.rast_resolve.proofs.Weights.{end_weight, term_weight, proc_weight, branches_weight, cases_weight, case_weight}
use Rattle.rast_resolve.proofs.terms.+term.Given as goal

abbrev pub decreases-nodes_of : goal.decreases-nodes_of
decreases-nodes_of l = proc_weight l.written.now

abbrev pub decreases-term_of : goal.decreases-term_of
decreases-term_of l = term_weight l.last.now

abbrev pub decreases-end : goal.decreases-end
decreases-end l = end_weight l.written.now

abbrev pub decreases-case_of : goal.decreases-case_of
decreases-case_of l = case_weight l.first.now l.rest.now

abbrev pub decreases-cases : goal.decreases-cases
decreases-cases l = cases_weight l.first.now l.rest.now

abbrev pub decreases-branches : goal.decreases-branches
decreases-branches l = branches_weight l.rest.now

abbrev pub invariant-branches-loop-branch : goal.invariant-branches-loop-branch
invariant-branches-loop-branch l = record {
  chain : (branches_of l.known.names l.seen (map (branch_of l.known l.item) (drop l.branch-index l.rest)) l.place l.here >>= λ r. Ok (l.heads ++ r.0, l.nodes ++ r.1)) ≡ branches_of l.known.names l.initial.seen (map (branch_of l.known l.item) l.rest) l.place l.at;
  kept : l.place ≡ l.initial.place;
}
