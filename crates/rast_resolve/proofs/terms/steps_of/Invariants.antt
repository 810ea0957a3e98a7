use Rattle.std.proofs.Common.{◌≡◌, ◌++◌, drop, Ok}
use Rattle.rast_resolve.specs.Answers.{◌>>=◌}
use Rattle.rast_resolve.specs.Bodies.{steps_of}
use Rattle.rast_resolve.proofs.terms.steps_of.Given as goal

abbrev pub invariant-loop-s : goal.invariant-loop-s
invariant-loop-s l = (steps_of l.known l.item (drop l.s-index l.written) l.place l.next >>= λ r. Ok (l.nodes ++ r.0, r.1)) ≡ steps_of l.known l.item l.written l.initial.place l.at
