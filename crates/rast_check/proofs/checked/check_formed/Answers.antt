use Rattle.rast_check.proofs.Answering.{ends_bodies, stops_decls, stops_equations, stops_types}
use Rattle.rast_check.proofs.checked.check_formed.Goals as goal

pub returns-in_err-check_types : goal.returns-in_err-check_types
returns-in_err-check_types c = stops_types c.args.program.now c.in_err-check_types.field-0.0 c.from_residual.result c.from_residual.ensures.1 c.in_err-check_types.ensures

pub returns-in_err-check_decls : goal.returns-in_err-check_decls
returns-in_err-check_decls c =
    stops_decls c.args.program.now c.in_err-check_decls.field-0.0 c.from_residual-in_err-check_decls.result c.in_ok-check_types.ensures c.from_residual-in_err-check_decls.ensures.1 c.in_err-check_decls.ensures

pub returns-in_err-check_equations : goal.returns-in_err-check_equations
returns-in_err-check_equations c =
    stops_equations c.args.program.now c.in_err-check_equations.field-0.0 c.from_residual-in_err-check_equations.result c.in_ok-check_types.ensures c.in_ok-check_decls.ensures c.from_residual-in_err-check_equations.ensures.1 c.in_err-check_equations.ensures

pub returns : goal.returns
returns c = ends_bodies c.args.program.now c.check_bodies.result c.in_ok-check_types.ensures c.in_ok-check_decls.ensures c.in_ok-check_equations.ensures c.check_bodies.ensures
