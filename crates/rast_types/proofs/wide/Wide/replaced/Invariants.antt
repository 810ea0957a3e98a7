use Rattle.rast_index.specs.Linear.{mixed}
use Rattle.rast_types.specs.Wide.{wide}
use Rattle.rast_types.proofs.Parts.{Made}
use Rattle.rast_types.proofs.wide.Wide.replaced.Given as goal

abbrev pub invariant-loop-j : goal.invariant-loop-j
invariant-loop-j l = Made wide (mixed l.l l.args) l.coefficient l.j
