use Rattle.std.proofs.Common.{◌≡◌, ◌==◌, drop}
use Rattle.std.specs.List.{list_any}
use Rattle.rast_terms.specs.Nodes.{kids}
use Rattle.rast_lines.proofs.place.is_child.Given as goal

abbrev pub invariant-loop-index : goal.invariant-loop-index
invariant-loop-index l = list_any (λ m. m == l.node) (drop l.index (kids l.parent)) ≡ list_any (λ m. m == l.node) (kids l.parent)
