use Rattle.std.proofs.Common.{◌≡◌, drop, take}
use Rattle.std.specs.List.{list_all}
use Rattle.rast_cooper.specs.Verdicts.{is_within}
use Rattle.rast_equal.specs.Fit.{AreWithin}
use Rattle.rast_check.proofs.scope.are_within.Given as goal

abbrev pub invariant-loop-formula : goal.invariant-loop-formula
invariant-loop-formula l = record {
  is : list_all (is_within l.vars) (drop l.formula-index l.formulas) ≡ list_all (is_within l.vars) l.formulas;
  more : AreWithin l.vars (take l.formula-index l.formulas);
}
