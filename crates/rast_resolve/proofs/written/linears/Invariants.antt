use Rattle.std.proofs.Common.{◌≡◌, map, drop}
use Rattle.rast_resolve.specs.Answers.{each}
use Rattle.rast_resolve.proofs.Chains.{behind}
use Rattle.rast_resolve.specs.Written.{linear_of}
use Rattle.rast_resolve.proofs.written.linears.Given as goal

abbrev pub invariant-loop-l : goal.invariant-loop-l
invariant-loop-l l = behind l.out (each (map (linear_of l.item l.walked l.vars) (drop l.l-index l.written))) ≡ each (map (linear_of l.item l.walked l.vars) l.written)
