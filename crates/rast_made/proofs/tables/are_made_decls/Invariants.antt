use Rattle.std.proofs.Common.{◌≡◌, drop}
use Rattle.std.specs.List.{list_all}
use Rattle.rast_made.specs.Made.{is_made_decl}
use Rattle.rast_made.proofs.tables.are_made_decls.Given as goal

abbrev pub invariant-loop-decl : goal.invariant-loop-decl
invariant-loop-decl l = list_all (is_made_decl l.program) (drop l.decl-index l.decls) ≡ list_all (is_made_decl l.program) l.decls
