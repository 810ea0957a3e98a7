use Rattle.rast_resolve.proofs.NameLayers.{choice_put}
use Rattle.rast_resolve.proofs.gather.+in_type.Goals as goal

pub add_choice-returns : goal.add_choice-returns
add_choice-returns t c = choice_put c.args.sought c.args.c.now c.as_slice.result.now c.args.out.now c.add_label.new.out c.add_type.new.out c.add_choices.new.out c.as_slice.ensures c.in_ok-add_label.ensures c.in_ok-add_type.ensures c.in_ok-add_choices.ensures
