use Rattle.std.proofs.Common.{◌≡◌, ◌++◌, drop, map}
use Rattle.rast_index.specs.Linear.{replaced}
use Rattle.rast_types.proofs.wide.composed.Given as goal

abbrev pub invariant-loop-l : goal.invariant-loop-l
invariant-loop-l l = (l.out.items ++ map (replaced l.args) (drop l.l-index l.terms)) ≡ map (replaced l.args) l.terms
