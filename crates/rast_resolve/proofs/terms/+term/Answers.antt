use Rattle.std.proofs.Common.{rules, arith}
use Rattle.std.proofs.lemmas.Result.{err_from_is_err_and}
use Rattle.rast_resolve.proofs.TermLayers.{proc_gives, case_gives, term_made, term_stops}
use Rattle.rast_resolve.proofs.Scoped.{place_back}
use Rattle.rast_resolve.proofs.Weights.{term_below, end_below, case_below, cases_below, first_below, rest_below, item_below}
use Rattle.rast_resolve.proofs.terms.+term.Goals as goal

pub nodes_of-returns-clause-gives : goal.nodes_of-returns-clause-gives
nodes_of-returns-clause-gives t c = proc_gives c.args.known.now c.args.item.now c.args.place.now c.args.at c.args.written.now c.as_slice.result.now c.get.result.now c.term_of.result c.as_slice.ensures c.get.ensures c.term_of.ensures.gives

pub nodes_of-term_of-requires : goal.nodes_of-term_of-requires
nodes_of-term_of-requires t c = let d = c.decreases in let h = term_below c.args.written.now c.get.result.now c.get.ensures in (omega (arith, d, h), tt)

pub term_of-end-requires : goal.term_of-end-requires
term_of-end-requires t c = let d = c.decreases in let h = end_below c.args.last.now in (omega (arith, d, h), tt)

pub end-case_of-requires : goal.end-case_of-requires
end-case_of-requires t c =
    let d = c.decreases in
    let h = case_below c.args.written.now c.in-Case.channel c.in-Case.first c.in-Case.rest c.as_slice-in-Case.result.now c.in-Case.is c.as_slice-in-Case.ensures in (omega (arith, d, h), tt)

pub case_of-cases-requires : goal.case_of-cases-requires
case_of-cases-requires t c = let d = c.decreases in let h = cases_below c.args.first.now c.args.rest.now in (omega (arith, d, h), tt)

pub cases-nodes_of-requires : goal.cases-nodes_of-requires
cases-nodes_of-requires t c = let d = c.decreases in let h = first_below c.args.first.now c.args.rest.now in (omega (arith, d, h), tt)

pub cases-branches-requires : goal.cases-branches-requires
cases-branches-requires t c = let d = c.decreases in let h = rest_below c.args.first.now c.args.rest.now in (omega (arith, d, h), tt)

pub branches-nodes_of-requires : goal.branches-nodes_of-requires
branches-nodes_of-requires t c = let d = c.decreases in let h = item_below c.args.rest.now c.loop-branch.branch-index c.branch-item.result c.branch-item.is c.loop-branch-test.true in (omega (arith, d, h), tt)

pub end-returns-in-Case-clause-gives : goal.end-returns-in-Case-clause-gives
end-returns-in-Case-clause-gives t c =
    case_gives c.args.known.now c.args.item.now c.args.place.now c.args.at c.args.written.now c.in-Case.channel c.in-Case.first c.in-Case.rest c.as_slice-in-Case.result.now _
    c.in-Case.is c.as_slice-in-Case.ensures c.case_of.ensures.gives

pub term_of-returns-in_err-below-clause-gives : goal.term_of-returns-in_err-below-clause-gives
term_of-returns-in_err-below-clause-gives t c =
    let p = err_from_is_err_and c.from_residual-in_err-below.result c.from_residual-in_err-below.ensures.1 in
    rw (p.1, p.2) (term_stops c.args.known.now c.args.item.now c.args.place.now c.args.at c.args.steps.now c.args.last.now c.in_ok-nodes.nodes c.steps_of.new.place _ _ c.in_ok-nodes.ensures c.in_ok-after.ensures (search rules) _ c.in_err-below.ensures.gives)

pub term_of-returns-clause-gives : goal.term_of-returns-clause-gives
term_of-returns-clause-gives t c =
    term_made c.args.known.now c.args.item.now c.args.place.now c.args.at c.args.steps.now c.args.last.now c.in_ok-nodes.nodes c.steps_of.new.place _ _ c.in_ok-nodes.ensures c.in_ok-after.ensures (search rules) c.in_ok-below.below _ c.in_ok-below.ensures.gives c.in_ok-append.ensures

pub term_of-returns-clause-kept : goal.term_of-returns-clause-kept
term_of-returns-clause-kept t c =
    place_back c.args.known.now c.args.item.now c.args.place.now c.steps_of.new.place c.end.new.place c.args.at c.len-vars.result c.len-channels.result c.args.steps.now c.in_ok-nodes.nodes c.truncate.new.self c.truncate-2.new.self
    c.in_ok-nodes.ensures c.in_ok-below.ensures.kept c.len-vars.ensures c.len-channels.ensures c.truncate.ensures c.truncate-2.ensures
