use Rattle.std.proofs.Common.{ap, sym}
use Rattle.rast_equal.specs.Walk.{meets, top}
use Rattle.rast_eqfind.specs.Search.{ended, searched}
use Rattle.rast_eqfind.proofs.Founds.{tells_found}
use Rattle.rast_eqfind.proofs.Meeting.{comes_ended}
use Rattle.rast_eqfind.proofs.seek.find.Goals as goal

pub returns-in-Ok-clause-found : goal.returns-in-Ok-clause-found
returns-in-Ok-clause-found c =
    tells_found c.args.table.now.defs c.args.known.now c.args.ctx.now.vars c.args.ctx.now.premises c.args.a.now c.args.b.now c.in-Ok.finding (sym (ap ended c.in-Ok.ensures.0))

pub returns-in-Err-Ends-clause-found : goal.returns-in-Err-Ends-clause-found
returns-in-Err-Ends-clause-found c =
    let t = c.args.table.now.defs in
    let known = c.args.known.now in
    let n = c.args.ctx.now.vars in
    let ps = c.args.ctx.now.premises in
    let a = c.args.a.now in
    let b = c.args.b.now in
    tells_found t known n ps a b c.in-Err-Ends.finding
    (comes_ended (searched t known (meets a b (top n ps))) c.in-Err-Ends.finding c.in-Err-Ends.field-0 c.in-Err-Ends.field-0-is c.in-Err-Ends.ensures)
