use Rattle.std.proofs.Common.{◌≡◌, map, drop}
use Rattle.rast_resolve.specs.Answers.{each}
use Rattle.rast_resolve.proofs.Chains.{behind}
use Rattle.rast_resolve.specs.Bodies.{ref_of}
use Rattle.rast_resolve.proofs.callees.all_references.Given as goal

abbrev pub invariant-loop-r : goal.invariant-loop-r
invariant-loop-r l = behind l.out (each (map (ref_of l.item l.vars) (drop l.r-index l.written))) ≡ each (map (ref_of l.item l.vars) l.written)
