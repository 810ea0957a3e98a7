use Rattle.std.proofs.Common.{◌≡◌, drop, map}
use Rattle.rast_equal.specs.declared.place.Place.{Place}
use Rattle.rast_equal.specs.Walk.{walker, at_label}
use Rattle.std.specs.Prelude.{flat_map}
use Rattle.rast_index.specs.Keys.{find_key}
use Rattle.rast_rules.specs.Count.{after}
use Rattle.rast_rules.proofs.count.+walk.Given as goal

abbrev pub invariant-walk_choices-loop-label : goal.invariant-walk_choices-loop-label
invariant-walk_choices-loop-label l =
    (p : Place) → p.vars ≡ l.vars →
    after l.left (flat_map (λ e. at_label p e (find_key e.0 l.us)) (map (λ e. (e.0, walker e.1)) (drop l.label-index l.ts)))
    ≡ after l.initial.left (flat_map (λ e. at_label p e (find_key e.0 l.us)) (map (λ e. (e.0, walker e.1)) l.ts))
