use Rattle.std.proofs.Common.{◌≡◌, true, map, ◌++◌, drop}
use Rattle.std.specs.List.{list_all}
use Rattle.rast_index.specs.Linear.{is_small, replaced}
use Rattle.rast_types.proofs.put.put_terms.Given as goal

abbrev pub invariant-loop-l : goal.invariant-loop-l
invariant-loop-l l = record {
  done : (l.out ++ map (replaced l.args) (drop l.l-index l.terms)) ≡ map (replaced l.args) l.terms;
  small : list_all is_small l.out ≡ true;
}
