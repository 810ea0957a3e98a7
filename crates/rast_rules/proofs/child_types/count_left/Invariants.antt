use Rattle.std.proofs.Common.{◌≡◌, length, min, take}
use Rattle.rast_rules.specs.Trail.{left}
use Rattle.rast_rules.proofs.child_types.count_left.Given as goal

abbrev pub invariant-loop-channel : goal.invariant-loop-channel
invariant-loop-channel l = l.count ≡ min 16 (length (left l.gone (take l.channel-index l.uses)))
