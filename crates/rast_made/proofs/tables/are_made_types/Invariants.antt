use Rattle.std.proofs.Common.{◌≡◌, drop}
use Rattle.std.specs.List.{list_all}
use Rattle.rast_made.specs.Made.{is_made_type}
use Rattle.rast_made.proofs.tables.are_made_types.Given as goal

abbrev pub invariant-loop-a : goal.invariant-loop-a
invariant-loop-a l = list_all (is_made_type l.program l.vars) (drop l.a-index l.types) ≡ list_all (is_made_type l.program l.vars) l.types
