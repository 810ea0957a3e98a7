use Rattle.std.proofs.Common.{◌≡◌, ◌++◌, take}
use Rattle.std.specs.List.{flat_map}
use Rattle.rast_resolve.specs.Programs.{channel_quantifiers}
use Rattle.rast_resolve.proofs.parts.add_quantifiers.Given as goal

abbrev pub invariant-loop-channel : goal.invariant-loop-channel
invariant-loop-channel l = l.out ≡ l.initial.out ++ flat_map channel_quantifiers (take l.channel-index l.channels)
