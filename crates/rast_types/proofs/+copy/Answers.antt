use Rattle.rast_types.proofs.Small.{small_plus, small_with}
use Rattle.std.proofs.Common.{◌∙◌}
use Rattle.rast_types.proofs.+copy.Goals as goal

pub ty::Ty::copy-returns-in_ok-copy_choices-in-Plus-clause-small : goal.ty::Ty::copy-returns-in_ok-copy_choices-in-Plus-clause-small
ty::Ty::copy-returns-in_ok-copy_choices-in-Plus-clause-small t c = small_plus _ ∙ c.in_ok-copy_choices-in-Plus.ensures.small

pub ty::Ty::copy-returns-in_ok-copy_choices-in-With-clause-small : goal.ty::Ty::copy-returns-in_ok-copy_choices-in-With-clause-small
ty::Ty::copy-returns-in_ok-copy_choices-in-With-clause-small t c = small_with _ ∙ c.in_ok-copy_choices-in-With.ensures.small
