use Rattle.std.proofs.Common.{◌≡◌, ◌+◌, drop}
use Rattle.rast_items.specs.Run.{work}
use Rattle.rast_report.proofs.sums.work.Given as goal

abbrev pub invariant-loop-event : goal.invariant-loop-event
invariant-loop-event l = l.sum + work (drop l.event-index l.history) ≡ work l.history
