use Rattle.std.proofs.Common.{false, length}
use Rattle.rast_forms.specs.Reading.{IsUnderWay}
use Rattle.rast_ast.specs.declared.kind.Kind.TheVariants as kind
use Rattle.rast_parse.specs.Cursors.{seen}
use Rattle.rast_parse.specs.LinearReading.{is, lin_read}
use Rattle.rast_parse.specs.TypeReading.{braced_read, args_read}
use Rattle.rast_parse.proofs.cursor.Cursor.args.Given as goal

abbrev pub invariant-loop-turn : goal.invariant-loop-turn
invariant-loop-turn l = IsUnderWay (is kind.OpenBrace) (braced_read (lin_read false l.depth)) (length (seen l.self)) l._turn l.items (seen l.rest) (args_read (lin_read false l.depth) (seen l.self))
