use Rattle.std.proofs.Common.{◌≡◌, ◌++◌, ◌<◌, length, reverse}
use Rattle.rast_core.proofs.PathLemmas.{path_in}
use Rattle.rast_core.proofs.config.Config.path.Given as goal

abbrev pub invariant-loop-at : goal.invariant-loop-at
invariant-loop-at l = (l.at.0 < length l.origins) × (path_in (length l.origins) l.origins l.at.0 ++ reverse l.path.items ≡ path_in (length l.origins) l.origins l.fn.pid.0)

abbrev pub decreases-loop-at : goal.decreases-loop-at
decreases-loop-at l = l.at.0
