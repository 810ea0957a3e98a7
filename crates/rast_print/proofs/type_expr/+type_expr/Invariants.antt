use Rattle.std.proofs.Common.{◌≡◌, ◌++◌, take}
use Rattle.std.specs.List.{flat_map}
use Rattle.rast_print.specs.TypeText.{label_text}
use Rattle.rast_print.proofs.type_expr.+type_expr.Given as goal

abbrev pub invariant-put_labels-loop-label : goal.invariant-put_labels-loop-label
invariant-put_labels-loop-label l = l.out.items ≡ l.initial.out.items ++ flat_map label_text (take l.label-index l.labels)
