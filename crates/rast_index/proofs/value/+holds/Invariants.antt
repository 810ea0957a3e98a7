use Rattle.std.proofs.Common.{◌≡◌, drop}
use Rattle.std.specs.List.{list_all, list_any}
use Rattle.rast_index.specs.Truth.{truth}
use Rattle.rast_index.specs.Linear.{whole}
use Rattle.rast_index.proofs.value.+holds.Given as goal

abbrev pub decreases-holds : goal.decreases-holds
decreases-holds l = goal.size-holds l

abbrev pub invariant-loop-f : goal.invariant-loop-f
invariant-loop-f l = list_all (λ f. truth f (whole l.values)) (drop l.f-index l.f-items) ≡ list_all (λ f. truth f (whole l.values)) l.f-items

abbrev pub invariant-loop-f-2 : goal.invariant-loop-f-2
invariant-loop-f-2 l = list_any (λ f. truth f (whole l.values)) (drop l.f-index l.f-items) ≡ list_any (λ f. truth f (whole l.values)) l.f-items
