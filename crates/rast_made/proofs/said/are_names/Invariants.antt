use Rattle.std.proofs.Common.{◌≡◌, drop}
use Rattle.std.specs.List.{list_all}
use Rattle.rast_made.specs.Made.{is_name}
use Rattle.rast_made.proofs.said.are_names.Given as goal

abbrev pub invariant-loop-name : goal.invariant-loop-name
invariant-loop-name l = list_all (is_name l.program) (drop l.name-index l.said) ≡ list_all (is_name l.program) l.said
