use Rattle.rast_eqfind.proofs.Choosing.{Still}
use Rattle.rast_eqfind.proofs.choice.listed.Given as goal

abbrev pub invariant-loop-i : goal.invariant-loop-i
invariant-loop-i l = Still l.first l.equations l.place l.left l.right l.i
