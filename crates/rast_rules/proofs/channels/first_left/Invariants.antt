use Rattle.std.proofs.Common.{◌≡◌, drop}
use Rattle.rast_rules.specs.Trail.{left}
use Rattle.rast_rules.proofs.channels.first_left.Given as goal

abbrev pub invariant-loop-channel : goal.invariant-loop-channel
invariant-loop-channel l = left l.gone (drop l.channel-index l.uses) ≡ left l.gone l.uses
