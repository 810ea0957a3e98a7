use Rattle.std.proofs.Common.{◌≡◌, drop, max}
use Rattle.rast_items.specs.Run.{time}
use Rattle.rast_report.proofs.sums.time.Given as goal

abbrev pub invariant-loop-event : goal.invariant-loop-event
invariant-loop-event l = max l.greatest (time (drop l.event-index l.history)) ≡ time l.history
