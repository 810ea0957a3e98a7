use Rattle.std.proofs.Common.{◌≡◌, drop, map}
use Rattle.rast_equal.specs.Valid.{nonneg}
use Rattle.rast_rules.specs.Rules.{Is}
use Rattle.rast_rules.specs.Trail.{and_then, plain}
use Rattle.rast_rules.proofs.calls.ask_nonneg.Given as goal

abbrev pub invariant-loop-term : goal.invariant-loop-term
invariant-loop-term l =
    and_then l.trail (plain (map (λ e. (l.number, Is (nonneg e))) (drop l.term-index l.terms))) ≡ and_then l.initial.trail (plain (map (λ e. (l.number, Is (nonneg e))) l.terms))
