use Rattle.std.proofs.Common.{length}
use Rattle.rast_forms.specs.Reading.{IsUnderWay}
use Rattle.rast_parse.specs.Cursors.{seen}
use Rattle.rast_parse.specs.FileReading.{item_first, item_read, items_read}
use Rattle.rast_parse.proofs.cursor.Cursor.items.Given as goal

abbrev pub invariant-loop-turn : goal.invariant-loop-turn
invariant-loop-turn l = IsUnderWay item_first (item_read l.explicit l.depth) (length (seen l.self)) l._turn l.items (seen l.rest) (items_read l.explicit l.depth (seen l.self))
