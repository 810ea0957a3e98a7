use Rattle.std.proofs.Common.{rules, ◌≡◌, length}
use Rattle.rast_resolve.proofs.Made.{def_made}
use Rattle.rast_resolve.proofs.parts.def_of.Goals as goal

pub returns-in-Ok : goal.returns-in-Ok
returns-in-Ok c =
    let many : c.len-many.result ≡ length c.in_ok-vars.vars = search rules in
    def_made c.args.known.now c.args.name.now c.args.params.now c.in_ok-vars.vars c.in_ok-vars.ensures.gives _ many c.args.written.now _ _ _ c.in-Ok.ensures.gives c.in_ok-number.ensures c.in_ok-said.ensures
