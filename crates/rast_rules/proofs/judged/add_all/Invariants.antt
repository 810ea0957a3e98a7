use Rattle.std.proofs.Common.{length}
use Rattle.rast_rules.specs.Plan.{AreJudged, HaveBodies, HaveBelow}
use Rattle.rast_rules.proofs.judged.add_all.Given as goal

abbrev pub invariant-loop-node : goal.invariant-loop-node
invariant-loop-node l = record { sound : AreJudged l.program l.judged; bodies : HaveBodies l.program (length l.program.decls) l.judged; below : HaveBelow l.program l.node l.judged }
