use Rattle.std.proofs.Common.{◌≡◌, drop, map}
use Rattle.rast_rules.specs.Rules.{label_asked}
use Rattle.rast_rules.specs.Trail.{and_then, plain}
use Rattle.rast_rules.proofs.touching.ask_branches.Given as goal

abbrev pub invariant-loop-label : goal.invariant-loop-label
invariant-loop-label l =
    and_then l.trail (plain (map (λ b. label_asked l.choices b.0) (drop l.label-index l.branches))) ≡ and_then l.initial.trail (plain (map (λ b. label_asked l.choices b.0) l.branches))
