-- A program that a text says is well made.
use Rattle.std.proofs.Common.{◌≡◌, ℕ, true, List, Ok, sym, subst}
use Rattle.rast_ast.specs.declared.file.File.{File}
use Rattle.rast_ast.specs.Files.{file_fits}
use Rattle.rast_terms.specs.declared.program.Program.{Program}
use Rattle.rast_made.specs.WellMade.{IsWellMade}
use Rattle.rast_resolve.specs.declared.program.Resolved.{Resolved}
use Rattle.rast_resolve.specs.Programs.{resolved}
use Rattle.rast_accept.specs.Loading.{Says}

-- the program of a file that the grammar has is well made
abbrev pub IsMeant : Type 0
IsMeant = (f : File) (r : Resolved) → file_fits f ≡ true → resolved f ≡ Ok r → IsWellMade r.program

pub says_made : IsMeant → (text : List ℕ) (program : Program) → Says text program → IsWellMade program
says_made law text program s = subst IsWellMade (sym s.program_is) (law s.file s.resolved_to s.is.0.read.in_grammar s.resolved_is)
