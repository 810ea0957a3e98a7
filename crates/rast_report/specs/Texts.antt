-- The texts of processes, links and bodies.
use Rattle.std.specs.Prelude.{ℕ, ◌++◌, codes}
use Rattle.std.specs.Fmt.{decimal}
use Rattle.rast_terms.specs.declared.program.Program.{Program}
use Rattle.rast_terms.specs.Texts.{Text, name_text}
use Rattle.rast_core.specs.Words.{Link, Pid, Body, Label, End, Chan, Nat, Assert, Pay}

-- `p` and the number
abbrev pub pid_text : Pid → Text
pid_text k = codes "p" ++ decimal k.0

-- the process that a session began with, and the index
abbrev pub link_text : Link → Text
link_text l = pid_text l.session ++ (codes ":" ++ decimal l.index)

-- a number in braces, behind what opens them
abbrev pub braced : Text → ℕ → Text
braced opening n = opening ++ (decimal n ++ codes "}")

-- a link in parentheses
abbrev pub sent_text : Link → Text
sent_text l = codes "(" ++ (link_text l ++ codes ")")

-- a body, with the amount that a payment holds
abbrev pub body_text : Program → Body → ℕ → Text
body_text g (Label l) q = name_text g l
body_text g End q = codes "end"
body_text g (Chan l) q = sent_text l
body_text g (Nat n) q = braced (codes "{") n
body_text g Assert q = codes "?"
body_text g Pay q = braced (codes "|{") q
