use Rattle.std.specs.List.{flat_map}
use Rattle.rast_print.specs.TypeText.{type_text, labelled, label_text}
use Rattle.rast_print.proofs.Appended.{two}
use Rattle.rast_print.proofs.Layers.{choice_at}
use Rattle.rast_print.proofs.type_expr.+type_expr.Goals as goal

pub put_choice-returns : goal.put_choice-returns
put_choice-returns t c = two c.args.out.now.items (labelled c.args.choice.now.label (type_text c.args.choice.now.body)) (flat_map label_text c.args.choice.now.rest) (rw c.as_slice.ensures at c.in_ok-put_labels.ensures) c.in_ok-put_labelled.ensures (choice_at c.args.choice.now)
