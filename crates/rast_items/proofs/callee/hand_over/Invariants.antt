use Rattle.std.proofs.Common.{◌≡◌, ◌≤◌, ◌+◌}
use Rattle.rast_items.proofs.HandOver.{IsOnTheWay}
use Rattle.rast_items.proofs.callee.hand_over.Given as goal

abbrev pub invariant-loop-channel : goal.invariant-loop-channel
invariant-loop-channel l = IsOnTheWay l.channels l.channel-index l.initial.from l.from l.initial.to l.to
