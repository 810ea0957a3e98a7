use Rattle.std.proofs.Common.{◌≡◌, drop}
use Rattle.rast_made.specs.Made.{are_said}
use Rattle.rast_made.specs.WellMade.{names_of_channels}
use Rattle.rast_made.proofs.said.are_channels_said.Given as goal

abbrev pub invariant-loop-i : goal.invariant-loop-i
invariant-loop-i l = are_said l.program names_of_channels (drop l.i l.decls) (drop l.i l.said) ≡ are_said l.program names_of_channels l.decls l.said
