use Rattle.std.proofs.Common.{◌≡◌, drop, length, replicate}
use Rattle.std.specs.List.{flat_map}
use Rattle.rast_resolve.specs.Names.{all_put, body_sizes}
use Rattle.rast_resolve.proofs.sizes.body_sizes.Given as goal

abbrev pub invariant-loop-item : goal.invariant-loop-item
invariant-loop-item l = record {
  chain : all_put l.sizes (flat_map (body_sizes l.decls) (drop l.item-index l.items)) ≡ all_put (replicate (length l.decls) 0) (flat_map (body_sizes l.decls) l.items);
  sized : length l.sizes ≡ length l.decls;
}
