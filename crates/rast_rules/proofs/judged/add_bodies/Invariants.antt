use Rattle.rast_rules.specs.Plan.{AreJudged, HaveBodies}
use Rattle.rast_rules.proofs.judged.add_bodies.Given as goal

abbrev pub invariant-loop-decl : goal.invariant-loop-decl
invariant-loop-decl l = record { sound : AreJudged l.program l.judged; bodies : HaveBodies l.program l.decl l.judged }
