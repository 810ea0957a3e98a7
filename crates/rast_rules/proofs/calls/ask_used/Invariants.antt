use Rattle.std.proofs.Common.{◌≡◌, drop, take, []}
use Rattle.rast_rules.specs.Rules.{are_used}
use Rattle.rast_rules.specs.Trail.{and_then, plain}
use Rattle.rast_rules.proofs.calls.ask_used.Given as goal

abbrev pub invariant-loop-i : goal.invariant-loop-i
invariant-loop-i l = and_then l.trail (plain (are_used l.at l.number (take l.i l.ys) (drop l.i l.ys))) ≡ and_then l.initial.trail (plain (are_used l.at l.number [] l.ys))
