use Rattle.std.proofs.Common.{◌^◌, length, sym, subst}
use Rattle.rast_equal.specs.Equated.{equations_fault}
use Rattle.rast_equal.specs.Fit.{IsFitEquation}
use Rattle.rast_equal.proofs.Sound.{table_means}
use Rattle.rast_equal.proofs.Tables.{answers_from, next_below, rests_false, rests_first, rests_next, rests_none}
use Rattle.rast_equal.proofs.equations.check_equations.Goals as goal

pub number_of-requires : goal.number_of-requires
number_of-requires c = next_below c.loop-i.i (length c.args.equations.now) (2 ^ 32) c.loop-i-test.true c.requires.few

pub check_numbered-requires-clause-fit : goal.check_numbered-requires-clause-fit
check_numbered-requires-clause-fit c = subst IsFitEquation (sym c.index-equations-i.is) (c.requires.equations c.loop-i.i c.index-equations-i.result c.loop-i-test.true)

pub loop-i-init : goal.loop-i-init
loop-i-init c = rests_first c.args.table.now.defs c.args.equations.now

pub returns-in_err-check_numbered-clause-first : goal.returns-in_err-check_numbered-clause-first
returns-in_err-check_numbered-clause-first c =
    let t = c.args.table.now.defs in
    let es = c.args.equations.now in
    answers_from (equations_fault t es 1 es) c.in_err-check_numbered.field-0.0 c.from_residual.result c.from_residual.ensures.1
    (rests_false t es c.loop-i.i c.number_of.result c.index-equations-i.result c.in_err-check_numbered.field-0.0 c.number_of.ensures c.loop-i-test.true c.index-equations-i.is c.loop-i.invariant c.in_err-check_numbered.ensures)

pub loop-i-preserved : goal.loop-i-preserved
loop-i-preserved c =
    rests_next c.args.table.now.defs c.args.equations.now c.loop-i.i c.index-equations-i.result c.loop-i-test.true c.index-equations-i.is c.loop-i.invariant c.in_ok-check_numbered.ensures

pub returns-clause-first : goal.returns-clause-first
returns-clause-first c = (rests_none c.args.table.now.defs c.args.equations.now c.loop-i.i c.loop-i-test.false c.loop-i.invariant).0

pub returns-clause-holds : goal.returns-clause-holds
returns-clause-holds c = (rests_none c.args.table.now.defs c.args.equations.now c.loop-i.i c.loop-i-test.false c.loop-i.invariant).1

pub returns-clause-equal : goal.returns-clause-equal
returns-clause-equal c =
    table_means c.args.table.now.defs c.args.equations.now (rests_none c.args.table.now.defs c.args.equations.now c.loop-i.i c.loop-i-test.false c.loop-i.invariant).1
