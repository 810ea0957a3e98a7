use Rattle.std.proofs.Common.{◌≡◌, All, drop, take}
use Rattle.std.specs.List.{list_all}
use Rattle.rast_check.specs.Formed.{is_fit_def}
use Rattle.rast_equal.specs.Fit.{IsFitTypeDef}
use Rattle.rast_check.proofs.formed.are_defs_fit.Given as goal

abbrev pub invariant-loop-def : goal.invariant-loop-def
invariant-loop-def l = record {
  is : list_all is_fit_def (drop l.def-index l.defs) ≡ list_all is_fit_def l.defs;
  more : All IsFitTypeDef (take l.def-index l.defs);
}
