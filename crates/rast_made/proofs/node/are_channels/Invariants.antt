use Rattle.std.proofs.Common.{◌≡◌, drop}
use Rattle.std.specs.List.{list_all}
use Rattle.rast_made.specs.Made.{is_channel}
use Rattle.rast_made.proofs.node.are_channels.Given as goal

abbrev pub invariant-loop-y : goal.invariant-loop-y
invariant-loop-y l = list_all (is_channel l.scope) (drop l.y-index l.ys) ≡ list_all (is_channel l.scope) l.ys
