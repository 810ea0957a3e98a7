use Rattle.std.proofs.Common.{◌≡◌, ◌++◌, take}
use Rattle.std.specs.List.{flat_map}
use Rattle.rast_print.specs.FileText.{spaced_channel}
use Rattle.rast_print.proofs.file.put_channels.Given as goal

abbrev pub invariant-loop-channel : goal.invariant-loop-channel
invariant-loop-channel l = l.out.items ≡ l.initial.out.items ++ flat_map spaced_channel (take l.channel-index l.channels)
