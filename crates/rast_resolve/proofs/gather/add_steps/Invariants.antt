use Rattle.std.proofs.Common.{◌≡◌, ◌++◌, take}
use Rattle.std.specs.List.{flat_map}
use Rattle.rast_resolve.specs.Names.{step_names}
use Rattle.rast_resolve.proofs.gather.add_steps.Given as goal

abbrev pub invariant-loop-step : goal.invariant-loop-step
invariant-loop-step l = l.out ≡ l.initial.out ++ flat_map step_names (take l.step-index l.steps)
