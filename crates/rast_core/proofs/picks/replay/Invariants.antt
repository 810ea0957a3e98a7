use Rattle.rast_core.proofs.PickLemmas.{IsPartReplay}
use Rattle.rast_core.proofs.picks.replay.Given as goal

abbrev pub invariant-loop-place : goal.invariant-loop-place
invariant-loop-place l = IsPartReplay l.program l.fn.plan l.picks l.config l.history.items l.place
