use Rattle.std.proofs.Common.{◌≡◌, take}
use Rattle.rast_index.specs.Keys.{numbered}
use Rattle.rast_rules.specs.Draft.{made_uses}
use Rattle.rast_rules.proofs.root.root_uses.Given as goal

abbrev pub invariant-loop-i : goal.invariant-loop-i
invariant-loop-i l = l.made ≡ made_uses l.vars (numbered 1 (take l.i l.types))
