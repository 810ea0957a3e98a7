use Rattle.rast_eqfind.specs.Answer.{is_small_some}
use Rattle.rast_eqfind.specs.Read.{first_read}
use Rattle.rast_eqfind.proofs.Reading.{fits_not, found_great, found_small, none_read}
use Rattle.rast_eqfind.proofs.arguments.first_read.Goals as goal

pub returns-in_err-sub : goal.returns-in_err-sub
returns-in_err-sub c =
    let i = c.args.number in
    let xs = c.args.terms.now in
    fits_not is_small_some (first_read i xs) c.in_err-sub.field-0.0 c.from_residual.result c.from_residual.ensures.1
    (found_great i xs c.loop-term.term-index c.loop-term-item.result c.in-Some.rest c.loop-term-test.true c.loop-term-item.is c.loop-term.invariant c.in-Some.ensures c.in_err-sub.ensures.difference)

pub returns-in-Some : goal.returns-in-Some
returns-in-Some c =
    let i = c.args.number in
    let xs = c.args.terms.now in
    found_small i xs c.loop-term.term-index c.loop-term-item.result c.in-Some.rest c.in_ok-sub.field-0 c.loop-term-test.true c.loop-term-item.is c.loop-term.invariant c.in-Some.ensures c.in_ok-sub.ensures.difference

pub loop-term-preserved : goal.loop-term-preserved
loop-term-preserved c =
    let i = c.args.number in
    let xs = c.args.terms.now in
    none_read i xs c.loop-term.term-index c.loop-term-item.result c.constant_beside.result c.loop-term-test.true c.loop-term-item.is c.loop-term.invariant c.in_default.is c.constant_beside.ensures
