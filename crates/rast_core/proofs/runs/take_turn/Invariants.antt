use Rattle.std.proofs.Common.{◌≡◌, vec_len}
use Rattle.rast_core.proofs.runs.take_turn.Given as goal

abbrev pub invariant-loop-pid : goal.invariant-loop-pid
invariant-loop-pid l = l.config ≡ l.initial.config

abbrev pub decreases-loop-pid : goal.decreases-loop-pid
decreases-loop-pid l = vec_len l.schedule.ready
