use Rattle.std.proofs.Common.{◌≡◌, true, map, ◌++◌, drop}
use Rattle.std.specs.List.{list_all}
use Rattle.rast_index.specs.Truth.{put, all_small}
use Rattle.rast_types.proofs.put.+put_formula.Given as goal

abbrev pub invariant-put_formulas-loop-f : goal.invariant-put_formulas-loop-f
invariant-put_formulas-loop-f l = record {
  done : (l.out ++ map (put l.args) (drop l.f-index l.fs)) ≡ map (put l.args) l.fs;
  small : list_all all_small l.out ≡ true;
}
