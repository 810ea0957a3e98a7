use Rattle.std.proofs.Common.{false, length}
use Rattle.rast_forms.specs.Reading.{IsUnderWay}
use Rattle.rast_ast.specs.declared.kind.Kind.TheVariants as kind
use Rattle.rast_parse.specs.Cursors.{seen}
use Rattle.rast_parse.specs.LinearReading.{is, lin_read}
use Rattle.rast_parse.specs.FormulaReading.{behind_kind}
use Rattle.rast_parse.specs.ProcessReading.{ref_by, further_refs}
use Rattle.rast_parse.proofs.cursor.Cursor.further_references.Given as goal

abbrev pub invariant-loop-turn : goal.invariant-loop-turn
invariant-loop-turn l = IsUnderWay (is kind.Comma) (behind_kind kind.Comma (ref_by (lin_read false l.depth))) (length (seen l.self)) l._turn l.items (seen l.rest) (further_refs (lin_read false l.depth) (seen l.self))
