use Rattle.std.proofs.Common.{◌≡◌, ◌++◌, drop, map}
use Rattle.rast_index.specs.Keys.{find_key}
use Rattle.rast_rules.specs.Rules.{limited, with_type, or_one}
use Rattle.rast_rules.proofs.below.below_case.Given as goal

abbrev pub invariant-loop-label : goal.invariant-loop-label
invariant-loop-label l =
    (l.out ++ map limited (map (λ b. with_type l.at l.x (or_one (find_key b.0 l.choices))) (drop l.label-index l.branches)))
    ≡ map limited (map (λ b. with_type l.at l.x (or_one (find_key b.0 l.choices))) l.branches)
