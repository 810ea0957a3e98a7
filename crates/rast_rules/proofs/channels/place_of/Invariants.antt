use Rattle.std.proofs.Common.{◌≡◌, take, None}
use Rattle.rast_index.specs.Keys.{find_key}
use Rattle.rast_rules.proofs.channels.place_of.Given as goal

abbrev pub invariant-loop-i : goal.invariant-loop-i
invariant-loop-i l = find_key l.channel (take l.i l.entries) ≡ None
