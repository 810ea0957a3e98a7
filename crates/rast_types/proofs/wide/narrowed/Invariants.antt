use Rattle.rast_index.specs.Linear.{mixed, small}
use Rattle.rast_types.proofs.Parts.{Made}
use Rattle.rast_types.proofs.wide.narrowed.Given as goal

abbrev pub invariant-loop-j : goal.invariant-loop-j
invariant-loop-j l = Made small (mixed l.l l.args) l.coefficient l.j
