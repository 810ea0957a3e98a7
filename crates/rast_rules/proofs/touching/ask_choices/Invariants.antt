use Rattle.std.proofs.Common.{◌≡◌, drop, map}
use Rattle.rast_rules.specs.Rules.{has_branch}
use Rattle.rast_rules.specs.Trail.{and_then, plain}
use Rattle.rast_rules.proofs.touching.ask_choices.Given as goal

abbrev pub invariant-loop-label : goal.invariant-loop-label
invariant-loop-label l =
    and_then l.trail (plain (map (λ t. has_branch l.branches t.0) (drop l.label-index l.choices))) ≡ and_then l.initial.trail (plain (map (λ t. has_branch l.branches t.0) l.choices))
