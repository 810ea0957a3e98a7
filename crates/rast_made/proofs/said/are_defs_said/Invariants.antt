use Rattle.std.proofs.Common.{◌≡◌, drop}
use Rattle.rast_made.specs.Made.{are_said}
use Rattle.rast_made.specs.WellMade.{names_of_def}
use Rattle.rast_made.proofs.said.are_defs_said.Given as goal

abbrev pub invariant-loop-i : goal.invariant-loop-i
invariant-loop-i l = are_said l.program names_of_def (drop l.i l.defs) (drop l.i l.said) ≡ are_said l.program names_of_def l.defs l.said
