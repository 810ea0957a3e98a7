use Rattle.rast_index.specs.Linear.{part}
use Rattle.rast_types.specs.Wide.{wide}
use Rattle.rast_types.proofs.Parts.{Made}
use Rattle.rast_types.proofs.wide.Wide.of.Given as goal

abbrev pub invariant-loop-j : goal.invariant-loop-j
invariant-loop-j l = Made wide (part l.l) l.coefficient l.j
