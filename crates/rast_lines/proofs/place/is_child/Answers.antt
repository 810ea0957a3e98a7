use Rattle.std.proofs.Common.{◌==◌}
use Rattle.std.specs.List.{list_any}
use Rattle.rast_terms.specs.Nodes.{kids}
use Rattle.rast_lines.proofs.Children.{is_here, is_later, other, same}
use Rattle.rast_lines.proofs.place.is_child.Goals as goal

pub returns-then-kid-node : goal.returns-then-kid-node
returns-then-kid-node c =
    let n = c.args.node in
    let ks = kids c.args.parent.now in
    is_here n ks c.loop-index.index c.kid.result c.kid.ensures (list_any (λ m. m == n) ks) (same c.kid.result n c.if-kid-node.true) c.loop-index.invariant

pub loop-index-preserved : goal.loop-index-preserved
loop-index-preserved c =
    let n = c.args.node in
    let ks = kids c.args.parent.now in
    is_later n ks c.loop-index.index c.kid.result c.kid.ensures (list_any (λ m. m == n) ks) (other c.kid.result n c.if-kid-node.false) c.loop-index.invariant
