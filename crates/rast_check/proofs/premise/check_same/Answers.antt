use Rattle.rast_check.proofs.Deciding.{compared_ok, compared_err}
use Rattle.rast_check.proofs.premise.check_same.Goals as goal

pub returns-in-Ok : goal.returns-in-Ok
returns-in-Ok c =
    compared_ok c.args.program.now c.args.at.now c.args.types.0.now c.args.types.1.now c.args.refs.now c.as_slice.result.now c.as_slice-2.result.now c.are_compared.result
    c.requires (c.are_compared.ensures.more c.if-not-are_compared.false) c.as_slice.ensures c.as_slice-2.ensures c.are_compared.ensures.is c.if-not-are_compared.false c.in-Ok.ensures.first c.in-Ok.ensures.holds

pub returns-in-Err : goal.returns-in-Err
returns-in-Err c =
    compared_err c.args.program.now c.args.at.now c.args.types.0.now c.args.types.1.now c.args.refs.now c.as_slice.result.now c.as_slice-2.result.now c.are_compared.result c.in-Err.why c.unlike.result
    c.requires (c.are_compared.ensures.more c.if-not-are_compared.false) c.as_slice.ensures c.as_slice-2.ensures c.are_compared.ensures.is c.if-not-are_compared.false c.in-Err.ensures.first c.unlike.ensures
