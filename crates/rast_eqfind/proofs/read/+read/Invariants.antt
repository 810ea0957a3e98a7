use Rattle.rast_eqfind.proofs.Reading.{Still}
use Rattle.rast_eqfind.proofs.read.+read.Given as goal

abbrev pub invariant-read_choices-loop-i : goal.invariant-read_choices-loop-i
invariant-read_choices-loop-i l = Still l.ts l.us l.vars l.fn.terms l.terms l.i
