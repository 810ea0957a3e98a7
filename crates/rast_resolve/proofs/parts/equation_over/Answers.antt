use Rattle.rast_resolve.proofs.Made.{over_made, over_stops}
use Rattle.rast_resolve.proofs.parts.equation_over.Goals as goal

pub returns-in-Ok : goal.returns-in-Ok
returns-in-Ok c = over_made c.args.known.now c.args.item.now c.args.vars.now c.args.count c.args.premise.now c.args.left.now c.args.right.now c.args.by.now c.in_ok-premise.premise c.in_ok-premise.ensures (c.in-Ok.left, c.in-Ok.right, c.in-Ok.refs) c.in-Ok.ensures

pub returns-in-Err : goal.returns-in-Err
returns-in-Err c = over_stops c.args.known.now c.args.item.now c.args.vars.now c.args.count c.args.premise.now c.args.left.now c.args.right.now c.args.by.now c.in_ok-premise.premise c.in_ok-premise.ensures _ c.in-Err.ensures
