use Rattle.std.proofs.Common.{List, drop, ◌++◌}
use Rattle.rast_equal.specs.declared.met.Met.{Met}
use Rattle.rast_equal.specs.Fault.{Reduces, served}
use Rattle.rast_equal.proofs.references.serve_each.Given as goal

abbrev pub invariant-loop-met : goal.invariant-loop-met
invariant-loop-met l = (more : List Met) → Reduces (served l.equations l.refs l.fn.used (l.mets ++ more)) (served l.equations l.refs l.used (drop l.met-index l.mets ++ more))
