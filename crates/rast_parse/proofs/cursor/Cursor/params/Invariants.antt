use Rattle.std.proofs.Common.{length}
use Rattle.rast_forms.specs.Reading.{IsUnderWay}
use Rattle.rast_ast.specs.declared.kind.Kind.TheVariants as kind
use Rattle.rast_parse.specs.Cursors.{seen}
use Rattle.rast_parse.specs.LinearReading.{is, name_read}
use Rattle.rast_parse.specs.TypeReading.{braced_read}
use Rattle.rast_parse.specs.FileReading.{params_read}
use Rattle.rast_parse.proofs.cursor.Cursor.params.Given as goal

abbrev pub invariant-loop-turn : goal.invariant-loop-turn
invariant-loop-turn l = IsUnderWay (is kind.OpenBrace) (braced_read name_read) (length (seen l.self)) l._turn l.items (seen l.rest) (params_read (seen l.self))
