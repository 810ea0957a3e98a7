-- Values that are printed behind the one that is being printed.
use Rattle.std.specs.Prelude.{List, [], ◌∷◌, ◌++◌, codes}
use Rattle.rast_terms.specs.declared.program.Program.{Program}
use Rattle.rast_core.specs.Words.{Link}
use Rattle.rast_core.specs.Shown.{Shown}
use Rattle.rast_terms.specs.Texts.{Text}
use Rattle.rast_report.specs.Values.{value_from}

-- the value at a link
abbrev pub value_at : Program → Shown → Link → Text
value_at g v l = value_from g v v.items l

-- what closes the sent channel, and the value after it
abbrev pub behind : Program → Shown → Link → Text
behind g v l = codes ") . " ++ value_at g v l

-- what follows the value that is printed first: those that wait, the last one first
abbrev pub waiting_text : Program → Shown → List Link → Text
waiting_text g v [] = []
waiting_text g v (l ∷ ls) = waiting_text g v ls ++ behind g v l
