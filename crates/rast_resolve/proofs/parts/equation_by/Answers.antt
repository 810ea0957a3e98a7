use Rattle.std.proofs.Common.{rules}
use Rattle.rast_resolve.proofs.Made.{equation_made}
use Rattle.rast_resolve.proofs.parts.equation_by.Goals as goal

pub returns : goal.returns
returns c =
    equation_made c.args.known.now c.args.item.now c.args.params.now c.in_ok-vars.vars _ c.args.premise.now c.args.left.now c.args.right.now c.args.by.now c.equation_over-made.result
    c.in_ok-vars.ensures.gives (search rules) c.equation_over-made.ensures
