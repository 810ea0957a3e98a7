use Rattle.rast_made.proofs.Labelling.{labelled_in_plus, labelled_in_with}
use Rattle.rast_made.proofs.Results.{for_ok}
use Rattle.rast_made.proofs.labels.+is_labelled.Goals as goal

pub is_labelled-returns-in-Plus : goal.is_labelled-returns-in-Plus
is_labelled-returns-in-Plus t c =
    for_ok c.is_choice.result (λ b h. labelled_in_plus c.args.names c.args.a.now c.in-Plus.ts c.as_slice.result.now b c.in-Plus.is c.as_slice.ensures h) c.is_choice.ensures

pub is_labelled-returns-in-With : goal.is_labelled-returns-in-With
is_labelled-returns-in-With t c =
    for_ok c.is_choice-in-With.result (λ b h. labelled_in_with c.args.names c.args.a.now c.in-With.ts c.as_slice-in-With.result.now b c.in-With.is c.as_slice-in-With.ensures h) c.is_choice-in-With.ensures
