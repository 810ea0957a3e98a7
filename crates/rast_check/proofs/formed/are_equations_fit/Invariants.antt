use Rattle.std.proofs.Common.{◌≡◌, All, drop, take}
use Rattle.std.specs.List.{list_all}
use Rattle.rast_check.specs.Formed.{is_fit_equation}
use Rattle.rast_equal.specs.Fit.{IsFitEquation}
use Rattle.rast_check.proofs.formed.are_equations_fit.Given as goal

abbrev pub invariant-loop-equation : goal.invariant-loop-equation
invariant-loop-equation l = record {
  is : list_all is_fit_equation (drop l.equation-index l.equations) ≡ list_all is_fit_equation l.equations;
  more : All IsFitEquation (take l.equation-index l.equations);
}
