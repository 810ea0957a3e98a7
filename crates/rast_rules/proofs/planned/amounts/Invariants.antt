use Rattle.std.proofs.Common.{◌≡◌, length}
use Rattle.rast_rules.specs.Rules.{paid_at}
use Rattle.rast_rules.specs.Plan.{ReadsAll}
use Rattle.rast_rules.proofs.planned.amounts.Given as goal

abbrev pub invariant-loop-at : goal.invariant-loop-at
invariant-loop-at l = record { size : length l.out ≡ l.at; each : ReadsAll (paid_at l.program) l.judged l.program.nodes l.out }
