use Rattle.rast_core.proofs.FullRuns.{IsPartRun}
use Rattle.rast_core.proofs.runs.run.Given as goal

abbrev pub invariant-loop-done : goal.invariant-loop-done
invariant-loop-done l = IsPartRun l.program l.fn.plan l.budget l.config l.history.items l._done
