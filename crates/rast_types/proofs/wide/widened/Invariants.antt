use Rattle.std.proofs.Common.{◌≡◌, ◌++◌, drop}
use Rattle.rast_types.proofs.wide.widened.Given as goal

abbrev pub invariant-loop-l : goal.invariant-loop-l
invariant-loop-l l = (l.out.items ++ drop l.l-index l.args) ≡ l.args
