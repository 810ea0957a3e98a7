use Rattle.std.proofs.Common.{rules}
use Rattle.rast_resolve.proofs.Made.{equation_named}
use Rattle.rast_resolve.proofs.parts.equation_of.Goals as goal

pub returns : goal.returns
returns c =
    equation_named c.args.known.now _ c.in_ok-item.item c.args.params.now c.args.premise.now c.args.left.now c.args.right.now c.args.by.now c.equation_by-made.result
    (search rules) c.equation_by-made.ensures
