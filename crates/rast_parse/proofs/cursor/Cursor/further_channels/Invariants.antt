use Rattle.std.proofs.Common.{length, ◌∷◌}
use Rattle.rast_forms.specs.Reading.{IsUnderWay, as_read}
use Rattle.rast_ast.specs.declared.kind.Kind.TheVariants as kind
use Rattle.rast_parse.specs.Cursors.{seen}
use Rattle.rast_parse.specs.LinearReading.{is}
use Rattle.rast_parse.specs.TypeReading.{type_read}
use Rattle.rast_parse.specs.FileReading.{channel_by, further_channels}
use Rattle.rast_parse.proofs.cursor.Cursor.further_channels.Given as goal

abbrev pub invariant-loop-turn : goal.invariant-loop-turn
invariant-loop-turn l =
    IsUnderWay (is kind.OpenParen) (channel_by (type_read l.depth)) (length (seen l.self)) l._turn l.items (seen l.rest) (as_read (λ cs. l.fn.first ∷ cs) (further_channels (type_read l.depth)) (seen l.self))
