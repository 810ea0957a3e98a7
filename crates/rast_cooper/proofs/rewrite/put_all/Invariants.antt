use Rattle.std.proofs.Common.{◌≡◌, map, take, true}
use Rattle.rast_cooper.specs.Arithmetic.{shifted}
use Rattle.rast_cooper.specs.Eliminate.{substituted}
use Rattle.rast_cooper.specs.Search.{all_in_bounds}
use Rattle.rast_cooper.proofs.rewrite.put_all.Given as goal

abbrev pub invariant-loop-lit : goal.invariant-loop-lit
invariant-loop-lit l = record {
  made : l.out.items ≡ map (substituted l.fn.x (shifted l.fn.more l.t)) (take l.lit-index l.ls);
  fits : all_in_bounds l.out.items ≡ true;
}
