use Rattle.rast_equal.proofs.Exposes.{premise_within, side_false, side_true}
use Rattle.rast_equal.proofs.equations.check_side.Goals as goal

pub check_type-requires-clause-premises : goal.check_type-requires-clause-premises
check_type-requires-clause-premises c = premise_within c.args.equation.now.vars c.args.equation.now.premise c.in_ok-presumed.field-0 c.in_ok-presumed.ensures c.requires.fit.premise

pub returns-in-Ok : goal.returns-in-Ok
returns-in-Ok c =
    side_true c.args.table.now.defs c.args.equation.now.vars c.args.equation.now.premise c.in_ok-presumed.field-0 c.args.side.now c.in_ok-presumed.ensures c.in-Ok.ensures

pub returns : goal.returns
returns c =
    side_false c.args.table.now.defs c.args.equation.now.vars c.args.equation.now.premise c.in_ok-presumed.field-0 c.args.side.now c.in_ok-presumed.ensures
    c.in-Err.refusal c.side_refused.result c.side_refused.ensures c.in-Err.ensures
