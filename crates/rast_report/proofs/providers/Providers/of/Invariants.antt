use Rattle.std.proofs.Common.{length}
use Rattle.std.specs.Prelude.{IfSome}
use Rattle.rast_core.specs.Handles.{Lies, rest_of}
use Rattle.rast_report.proofs.Finding.{FindsWith}
use Rattle.rast_report.proofs.providers.Providers.of.Given as goal

abbrev pub invariant-loop-at : goal.invariant-loop-at
invariant-loop-at l = FindsWith l.table l.config (rest_of l.config l.at) × IfSome l.at (λ h. Lies l.config h)

abbrev pub decreases-loop-at : goal.decreases-loop-at
decreases-loop-at l = length (rest_of l.config l.at)
