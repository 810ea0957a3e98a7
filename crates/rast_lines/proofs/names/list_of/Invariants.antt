use Rattle.std.proofs.Common.{◌≡◌, ◌++◌, map, drop}
use Rattle.rast_terms.specs.Texts.{name_text}
use Rattle.rast_lines.proofs.names.list_of.Given as goal

abbrev pub invariant-loop-number : goal.invariant-loop-number
invariant-loop-number l = l.names ++ map (name_text l.program) (drop l.number-index l.numbers) ≡ map (name_text l.program) l.numbers
