use Rattle.std.proofs.Common.{rules, ◌≡◌, length}
use Rattle.rast_resolve.proofs.Made.{decl_made, decl_stops}
use Rattle.rast_resolve.proofs.parts.decl_of.Goals as goal

pub returns-in-Ok : goal.returns-in-Ok
returns-in-Ok c =
    let many : c.len-many.result ≡ length c.in_ok-vars.vars = search rules in
    decl_made c.args.known.now c.args.name.now c.args.params.now c.in_ok-vars.vars c.in_ok-vars.ensures.gives _ many c.args.used.now c.args.potential.now c.args.provided.now _ _ _ c.new-seen.result
    c.in_ok-number.ensures c.in_ok-said.ensures c.in_ok-channels.ensures c.new-seen.ensures c.in-Ok.decl c.in-Ok.ensures

pub returns-in-Err : goal.returns-in-Err
returns-in-Err c =
    let many : c.len-many.result ≡ length c.in_ok-vars.vars = search rules in
    decl_stops c.args.known.now c.args.name.now c.args.params.now c.in_ok-vars.vars c.in_ok-vars.ensures.gives _ many c.args.used.now c.args.potential.now c.args.provided.now _ _ _ c.new-seen.result
    c.in_ok-number.ensures c.in_ok-said.ensures c.in_ok-channels.ensures c.new-seen.ensures _ c.in-Err.ensures
