use Rattle.std.proofs.Common.{◌≡◌, drop}
use Rattle.rast_lines.specs.Places.{decl_from}
use Rattle.rast_lines.proofs.place.first_with.Given as goal

abbrev pub invariant-loop-number : goal.invariant-loop-number
invariant-loop-number l = decl_from l.number (drop l.number l.decls) l.body ≡ decl_from 0 l.decls l.body
