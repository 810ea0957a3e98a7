use Rattle.std.proofs.Common.{◌≡◌, ◌++◌, drop, map, true}
use Rattle.std.specs.List.{list_all}
use Rattle.rast_index.specs.Truth.{put, all_small}
use Rattle.rast_index.proofs.substitution.+replaced.Given as goal

abbrev pub invariant-each_replaced-loop-f : goal.invariant-each_replaced-loop-f
invariant-each_replaced-loop-f l = record {
  is : (l.out ++ map (put l.args) (drop l.f-index l.fs)) ≡ map (put l.args) l.fs;
  fits : list_all all_small l.out ≡ true;
}
