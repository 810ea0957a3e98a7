use Rattle.std.proofs.lemmas.Result.{err_from_is_err_and}
use Rattle.rast_resolve.proofs.Made.{resolved_made, resolved_stops}
use Rattle.rast_resolve.proofs.program.resolve.Goals as goal

pub returns-in_err-program : goal.returns-in_err-program
returns-in_err-program c =
    let p = err_from_is_err_and c.from_residual-in_err-program.result c.from_residual-in_err-program.ensures.1 in
    rw (p.1, p.2) (resolved_stops c.args.file.now _ _ _ _ c.as_slice.ensures c.as_slice-2.ensures c.in_ok-known.ensures c.in_err-program.ensures)

pub returns : goal.returns
returns c = resolved_made c.args.file.now _ _ _ _ c.as_slice.ensures c.as_slice-2.ensures c.in_ok-known.ensures c.in_ok-program.ensures
