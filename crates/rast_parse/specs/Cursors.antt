-- What a cursor has before it.
use Rattle.std.specs.Prelude.{List}
use Rattle.rast_forms.specs.Words.{Word}
use Rattle.rast_lex.specs.Meaning.{words}
use Rattle.rast_parse.specs.declared.cursor.Cursor.{Cursor}

abbrev pub seen : Cursor → List Word
seen c = words c.text.now c.tokens.now
