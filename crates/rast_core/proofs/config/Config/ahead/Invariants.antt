use Rattle.std.proofs.Common.{◌≡◌, length}
use Rattle.std.specs.Prelude.{IfSome}
use Rattle.rast_core.specs.Handles.{Lies, rest_of}
use Rattle.rast_core.specs.Looks.{earlier, ahead_of}
use Rattle.rast_core.proofs.config.Config.ahead.Given as goal

abbrev pub invariant-loop-at : goal.invariant-loop-at
invariant-loop-at l = (earlier l.ahead (ahead_of l.program l.self (rest_of l.self l.at)) ≡ ahead_of l.program l.self l.self.items) × IfSome l.at (λ h. Lies l.self h)

abbrev pub decreases-loop-at : goal.decreases-loop-at
decreases-loop-at l = length (rest_of l.self l.at)
