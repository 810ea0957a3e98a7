use Rattle.std.proofs.Common.{◌≡◌, map, drop}
use Rattle.rast_forms.specs.Words.{starts}
use Rattle.rast_ast.specs.Kinds.{code}
use Rattle.rast_parse.specs.Cursors.{seen}
use Rattle.rast_parse.proofs.cursor.Cursor.at_any.Given as goal

abbrev pub invariant-loop-kind : goal.invariant-loop-kind
invariant-loop-kind l = starts (map code (drop l.kind-index l.kinds)) (seen l.self) ≡ starts (map code l.kinds) (seen l.self)
