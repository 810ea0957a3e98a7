use Rattle.std.proofs.Common.{◌≡◌, map, take, true}
use Rattle.rast_cooper.specs.Eliminate.{scaled}
use Rattle.rast_cooper.specs.Search.{all_in_bounds}
use Rattle.rast_cooper.proofs.rewrite.scaled_all.Given as goal

abbrev pub invariant-loop-lit : goal.invariant-loop-lit
invariant-loop-lit l = record {
  made : l.out.items ≡ map (scaled l.fn.x l.fn.l) (take l.lit-index l.ls);
  fits : all_in_bounds l.out.items ≡ true;
}
