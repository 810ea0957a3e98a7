use Rattle.std.proofs.Common.{arith, ap, sym, ◌∙◌, subst, List, [], length}
use Rattle.rast_cooper.specs.declared.literal.Literal.{Literal}
use Rattle.rast_cooper.specs.declared.explore.Course.{Course}
use Rattle.rast_cooper.specs.declared.verdict.Verdict.TheVariants.{Fails}
use Rattle.rast_cooper.specs.Course.{continued}
use Rattle.rast_cooper.specs.Eliminate.{AllAbove}
use Rattle.rast_cooper.specs.Rows.{numbers}
use Rattle.rast_cooper.specs.Search.{Exhausted, Found, TooMany, TooGreat}
use Rattle.rast_cooper.specs.Verdicts.{Refutes}
use Rattle.rast_cooper.proofs.Courses.{run_none}
use Rattle.rast_cooper.proofs.Obligation.{follows, refutes, found_rows, verdict_is}
use Rattle.rast_cooper.proofs.decision.decide_within.Goals as goal

pub numbers-requires-clause-few : goal.numbers-requires-clause-few
numbers-requires-clause-few c =
    let e = c.in_ok-search.ensures ∙ ap (λ (r : Course). continued r []) c.in-Found.is in
    let f = found_rows c.args.vars c.args.premises.now c.args.goal.now c.requires.few c.requires.premises c.requires.goal c.args.most c.in-Found.rows e in
    let g = ap (λ (ls : List Literal). length ls) c.as_slice.ensures ∙ f.0 in
    omega (arith, g, c.requires.few)

pub numbers-requires-clause-above : goal.numbers-requires-clause-above
numbers-requires-clause-above c =
    let e = c.in_ok-search.ensures ∙ ap (λ (r : Course). continued r []) c.in-Found.is in
    let f = found_rows c.args.vars c.args.premises.now c.args.goal.now c.requires.few c.requires.premises c.requires.goal c.args.most c.in-Found.rows e in
    subst AllAbove (sym c.as_slice.ensures) f.1

pub returns-in-Done-clause-exact : goal.returns-in-Done-clause-exact
returns-in-Done-clause-exact c =
    let e = c.in_ok-search.ensures ∙ ap (λ (r : Course). continued r []) c.in-Done.is ∙ run_none c.in-Done.field-0 in
    verdict_is c.args.vars c.args.premises.now c.args.goal.now c.requires.few c.requires.premises c.requires.goal c.args.most Exhausted e

pub returns-in-Done-clause-tells : goal.returns-in-Done-clause-tells
returns-in-Done-clause-tells c =
    let e = c.in_ok-search.ensures ∙ ap (λ (r : Course). continued r []) c.in-Done.is ∙ run_none c.in-Done.field-0 in
    follows c.args.vars c.args.premises.now c.args.goal.now c.requires.few c.requires.premises c.requires.goal c.args.most e

pub returns-in-Found-clause-exact : goal.returns-in-Found-clause-exact
returns-in-Found-clause-exact c =
    let e = c.in_ok-search.ensures ∙ ap (λ (r : Course). continued r []) c.in-Found.is in
    ap Fails (c.numbers.ensures ∙ ap numbers c.as_slice.ensures)
    ∙ verdict_is c.args.vars c.args.premises.now c.args.goal.now c.requires.few c.requires.premises c.requires.goal c.args.most (Found c.in-Found.rows) e

pub returns-in-Found-clause-tells : goal.returns-in-Found-clause-tells
returns-in-Found-clause-tells c =
    let e = c.in_ok-search.ensures ∙ ap (λ (r : Course). continued r []) c.in-Found.is in
    subst (Refutes c.args.vars c.args.premises.now c.args.goal.now) (sym (c.numbers.ensures ∙ ap numbers c.as_slice.ensures))
    (refutes c.args.vars c.args.premises.now c.args.goal.now c.requires.few c.requires.premises c.requires.goal c.args.most c.in-Found.rows e)

pub returns-in-TooMany-clause-exact : goal.returns-in-TooMany-clause-exact
returns-in-TooMany-clause-exact c =
    verdict_is c.args.vars c.args.premises.now c.args.goal.now c.requires.few c.requires.premises c.requires.goal c.args.most TooMany
    (c.in_ok-search.ensures ∙ ap (λ (r : Course). continued r []) c.in-TooMany.is)

pub returns-in-TooGreat-clause-exact : goal.returns-in-TooGreat-clause-exact
returns-in-TooGreat-clause-exact c =
    verdict_is c.args.vars c.args.premises.now c.args.goal.now c.requires.few c.requires.premises c.requires.goal c.args.most TooGreat
    (c.in_ok-search.ensures ∙ ap (λ (r : Course). continued r []) c.in-TooGreat.is)
