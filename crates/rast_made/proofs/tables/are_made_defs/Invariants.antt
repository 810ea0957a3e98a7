use Rattle.std.proofs.Common.{◌≡◌, drop}
use Rattle.std.specs.List.{list_all}
use Rattle.rast_made.specs.Made.{is_made_def}
use Rattle.rast_made.proofs.tables.are_made_defs.Given as goal

abbrev pub invariant-loop-def : goal.invariant-loop-def
invariant-loop-def l = list_all (is_made_def l.program) (drop l.def-index l.defs) ≡ list_all (is_made_def l.program) l.defs
