use Rattle.std.proofs.Common.{◌≡◌, drop}
use Rattle.rast_index.specs.Keys.{find_key}
use Rattle.rast_rules.proofs.judgement.Judgement.used_type.Given as goal

abbrev pub invariant-loop-used : goal.invariant-loop-used
invariant-loop-used l = find_key l.channel (drop l.used-index l.self.uses) ≡ find_key l.channel l.self.uses
