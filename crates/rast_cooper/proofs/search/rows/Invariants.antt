use Rattle.std.proofs.Common.{◌≡◌, map, true}
use Rattle.std.specs.List.{range_with_len}
use Rattle.rast_cooper.specs.Search.{all_in_bounds, row}
use Rattle.rast_cooper.proofs.search.rows.Given as goal

abbrev pub invariant-loop-x : goal.invariant-loop-x
invariant-loop-x l = record {
  made : l.out.items ≡ map row (range_with_len 0 l.x);
  bounded : all_in_bounds l.out.items ≡ true;
}
