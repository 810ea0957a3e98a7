use Rattle.std.proofs.Common.{◌≡◌, ◌++◌, drop}
use Rattle.rast_resolve.specs.Names.{starts_from}
use Rattle.rast_resolve.proofs.sizes.starts_of.Given as goal

abbrev pub invariant-loop-size : goal.invariant-loop-size
invariant-loop-size l = (l.starts ++ starts_from l.total (drop l.size-index l.sizes)) ≡ starts_from 0 l.sizes
