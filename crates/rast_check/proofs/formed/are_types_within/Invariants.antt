use Rattle.std.proofs.Common.{◌≡◌, All, drop, take}
use Rattle.std.specs.List.{list_all}
use Rattle.rast_equal.specs.Fit.{is_within_type}
use Rattle.rast_equal.specs.Fit.{IsWithinType}
use Rattle.rast_check.proofs.formed.are_types_within.Given as goal

abbrev pub invariant-loop-a : goal.invariant-loop-a
invariant-loop-a l = record {
  is : list_all (is_within_type l.vars) (drop l.a-index l.types) ≡ list_all (is_within_type l.vars) l.types;
  more : All (IsWithinType l.vars) (take l.a-index l.types);
}
