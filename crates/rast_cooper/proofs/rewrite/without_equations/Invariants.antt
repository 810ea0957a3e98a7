use Rattle.std.proofs.Common.{◌≡◌, take, true}
use Rattle.rast_cooper.specs.Eliminate.{without_equations}
use Rattle.rast_cooper.specs.Search.{all_in_bounds}
use Rattle.rast_cooper.proofs.rewrite.without_equations.Given as goal

abbrev pub invariant-loop-lit : goal.invariant-loop-lit
invariant-loop-lit l = record {
  made : l.out ≡ without_equations l.fn.x (take l.lit-index l.ls);
  fits : all_in_bounds l.out ≡ true;
}
