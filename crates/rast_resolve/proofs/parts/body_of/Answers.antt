use Rattle.std.proofs.Common.{rules, refl}
use Rattle.std.proofs.lemmas.Result.{err_from_is_err_and}
use Rattle.rast_resolve.proofs.Made.{body_stops}
use Rattle.rast_resolve.proofs.parts.body_of.Goals as goal

pub returns-in_err-nodes-in-Ok : goal.returns-in_err-nodes-in-Ok
returns-in_err-nodes-in-Ok c =
    let p = err_from_is_err_and c.from_residual-in_err-nodes-in-Ok.result c.from_residual-in_err-nodes-in-Ok.ensures.1 in
    rw (p.1, p.2) (body_stops c.args.known.now c.args.provided.now c.args.name.now c.args.params.now c.args.used.now c.args.written.now _ _ _ _ _ _ c.in_ok-if_counted.ensures (search rules) (search rules) c.in_ok-vars.ensures.gives c.in-Ok.ensures refl _ c.in_err-nodes-in-Ok.ensures)
