use Rattle.std.proofs.Common.{◌≡◌, ◌++◌, take}
use Rattle.std.specs.List.{flat_map}
use Rattle.rast_resolve.specs.Names.{only, has_labels, names_in_type}
use Rattle.rast_resolve.proofs.gather.+in_type.Given as goal

abbrev pub invariant-add_choices-loop-label : goal.invariant-add_choices-loop-label
invariant-add_choices-loop-label l = l.out ≡ l.initial.out ++ flat_map (λ e. only (has_labels l.sought) e.0 ++ names_in_type l.sought e.1) (take l.label-index l.choices)
